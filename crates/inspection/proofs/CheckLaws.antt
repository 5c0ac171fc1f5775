-- The checks of an inspection, one stage after another, from any monitor: they keep settings, rules, totals and sizes, and find at most three alerts.
use Prim.Native.Nat.{ℕ, ◌≤◌}
use mathlib.Core.Bool.{Bool, ◌&&◌, not}
use mathlib.Core.List.{List, [], ◌∷◌, ◌++◌}
use mathlib.Core.Path.{◌≡◌, refl, ◌∙◌}
use native.Mathlib.Omega.{arith}
use lib.Dec.{eqb, ltb}
use lib.ListN.{length, length-append}
use Rattle.std.proofs.Common.{Result, Ok, Err}
use Rattle.records.proofs.Booleans.{cond_holds}
use Rattle.checks.specs.declared.sv_seq.SvSeqOutcome.{SvSeqOutcome}
use Rattle.checks.specs.declared.sv_seq.SvSeqOutcome.TheVariants.{FirstSeen, Replay, ForwardGap, CycleWrap, SuspiciousSmpGap}
use Rattle.monitor.specs.Monitor.{Monitor}
use Rattle.monitor.specs.Parts.{After, sv_seq_on, goose_seq_on, time_field_on, rate_on, cb_on, reserved_on, released_on}
use Rattle.monitor.specs.Settings.{time_max_forward_jump, sv_max_smp_cnt_gap}
use Rattle.inspection.specs.declared.inspect_goose.GooseNumbers.{GooseNumbers}
use Rattle.inspection.specs.declared.inspect_sv.SvNumbers.{SvNumbers}
use Rattle.inspection.specs.declared.report.CheckAlert.{CheckAlert}
use Rattle.inspection.specs.declared.report.CheckAlert.TheVariants.{OverRate, BoundElsewhere, TestBlocked, UnknownPublisher}
use Rattle.inspection.specs.InspectMms.{MmsRead, control_key, mms_reserved, releases, mms_control, over_rate, unless_over, mms_rate, mms_rule, mms_checks}
use Rattle.inspection.specs.InspectGoose.{GooseRead, stream_key, timed_numbers, stream_findings, retransmitted, goose_clock, goose_time_field}
use Rattle.inspection.specs.InspectGoose.{goose_reservation, goose_unknown, goose_allowed, blocked, goose_test}
use Rattle.inspection.specs.InspectSv.{SvRead, rate_findings, count_findings, sv_clock, sv_time_field, sv_reservation, sv_rule, sv_binding}
use Rattle.inspection.specs.declared.report.Finding.{Finding}
use Rattle.inspection.specs.Report.{Checked, findings_of, clock_findings, ended, permitted, unless_hijacked}
use Rattle.inspection.proofs.SizeLaws.{sizes, sv_long, goose_long, time_long, rate_long, cb_long, reserved_long, released_long}

-- ---- how many alerts

abbrev AtMost : ℕ → List Finding → Type 0
AtMost n findings = length findings ≤ n

clock_few : (alert : Bool) → AtMost 1 (clock_findings alert)
clock_few alert = cond_holds (AtMost 1) alert (omega arith) (omega arith)

stream_few : (replay outside : Bool) → AtMost 2 (stream_findings replay outside)
stream_few replay outside = cond_holds (AtMost 2) replay (omega arith) (cond_holds (AtMost 2) outside (omega arith) (omega arith))

rate_few : (frame_rate rate : ℕ) → AtMost 1 (rate_findings frame_rate rate)
unfolding rate_findings
rate_few frame_rate rate = cond_holds (AtMost 1) (ltb 0 frame_rate && ltb 0 rate && not (eqb frame_rate rate)) (omega arith) (omega arith)

count_few : (limit : ℕ) (rates : List Finding) (o : SvSeqOutcome) → AtMost 1 rates → AtMost 2 (count_findings limit rates o)
unfolding count_findings
count_few limit rates FirstSeen h = omega arith
count_few limit rates Replay h = omega arith
count_few limit rates (ForwardGap gap) h = cond_holds (AtMost 2) (ltb 0 limit && ltb limit gap) (omega arith) (omega arith)
count_few limit rates CycleWrap h = omega arith
count_few limit rates (SuspiciousSmpGap gap) h = omega arith

both_few : (a b : List Finding) → AtMost 1 a → AtMost 2 b → AtMost 3 (a ++ b)
both_few a b h k = rw (length-append a b) (omega arith)

-- ---- what the checks keep

-- settings, rules and sizes, which an inspection leaves as they are
abbrev pub fixed : Monitor → List (List ℕ)
fixed m = m.settings ∷ m.mms_rules ∷ m.goose_publishers ∷ m.sv_publishers ∷ sizes m ∷ []

-- and the totals, in which it counts before the checks and after them
abbrev pub Kept : Monitor → Monitor → Type 0
Kept m m' = m'.totals ∷ fixed m' ≡ m.totals ∷ fixed m

module _ (m : Monitor) where
  sv_seq_kept : (svid : List ℕ) (n : ℕ) → Kept m (sv_seq_on m svid n).monitor
  unfolding sv_seq_on
  sv_seq_kept svid n = rw (sv_long m.sv_seq svid n)

  goose_seq_kept : (key : List ℕ) (new : (ℕ × ℕ) × ℕ) → Kept m (goose_seq_on m key new).monitor
  unfolding goose_seq_on
  goose_seq_kept key new = rw (goose_long m.goose_seq key new)

  clock_kept : (limit address : ℕ) (pair : ℕ × ℕ) → Kept m (time_field_on m limit address pair).monitor
  unfolding time_field_on
  clock_kept limit address pair = rw (time_long m.time_trackers limit address pair)

  bucket_kept : (key rate time : ℕ) → Kept m (rate_on m key rate time).monitor
  unfolding rate_on
  bucket_kept key rate time = rw (rate_long m.rate_buckets key rate time)

  over_kept : (key rate time : ℕ) → Kept m (over_rate m key rate time).monitor
  unfolding over_rate
  over_kept key rate time = cond_holds (λ (c : After Bool). Kept m c.monitor) (ltb 0 rate) (bucket_kept key rate time) refl

  use_kept : (key : List ℕ) (address : ℕ) → Kept m (cb_on m key address).monitor
  unfolding cb_on
  use_kept key address = rw (cb_long m.cb_reservations key address)

  reserved_kept : (key : List ℕ) (client : ℕ) → Kept m (reserved_on m key client).monitor
  unfolding reserved_on
  reserved_kept key client = rw (reserved_long m.cb_reservations key client)

  released_kept : (key : List ℕ) (client : ℕ) → Kept m (released_on m key client)
  unfolding released_on
  released_kept key client = rw (released_long m.cb_reservations key client)

-- ---- stage by stage

pub record Keeps (m : Monitor) (c : Checked) : Type 0 where
  pub kept : Kept m c.monitor
  pub few : length c.answer ≤ 3

-- a stage after a part was checked
keeps_then : {m m' : Monitor} {c : Checked} → Kept m m' → Keeps m' c → Keeps m c
keeps_then e k = record { kept = k.kept ∙ e; few = k.few }

ends : (m : Monitor) (findings : List Finding) → AtMost 3 findings → Keeps m (ended m findings)
ends m findings h = record { kept = refl; few = h }

ends_refused : (m : Monitor) (a : CheckAlert) → Keeps m (ended m (findings_of a))
ends_refused m a = ends m (findings_of a) (omega arith)

ends_clean : (m : Monitor) → Keeps m (ended m [])
ends_clean m = ends m [] (omega arith)

-- the rules refuse, or checking goes on
permits : (m : Monitor) (next : ℕ → Checked) → ((rate : ℕ) → Keeps m (next rate)) → (answer : Result ℕ CheckAlert) → Keeps m (permitted m next answer)
permits m next h (Ok rate) = h rate
permits m next h (Err alert) = ends_refused m alert

mms_reserved_lem : (c : After Bool) → Keeps c.monitor (mms_reserved c)
mms_reserved_lem c = ends c.monitor _ (cond_holds (AtMost 3) c.answer (omega arith) (omega arith))

module _ (f : MmsRead) where
  mms_control_lem : (m : Monitor) → Keeps m (mms_control f m)
  unfolding mms_control
  mms_control_lem m =
      let key = control_key f in
      let client = f.numbers.client_id in
      cond_holds (Keeps m) (eqb f.numbers.service 11)
      (keeps_then (reserved_kept m key client) (mms_reserved_lem (reserved_on m key client)))
      (cond_holds (Keeps m) (releases f.numbers.service)
      (keeps_then (released_kept m key client) (ends_clean (released_on m key client)))
      (ends_clean m))

  mms_unless_over : (c : After Bool) → Keeps c.monitor (unless_over f c)
  mms_unless_over c = cond_holds (Keeps c.monitor) c.answer (ends_refused c.monitor OverRate) (mms_control_lem c.monitor)

  mms_rate_lem : (m : Monitor) (rate : ℕ) → Keeps m (mms_rate f rate m)
  unfolding mms_rate
  mms_rate_lem m rate =
      keeps_then (over_kept m f.numbers.invoke_id rate f.numbers.timestamp_us)
      (mms_unless_over (over_rate m f.numbers.invoke_id rate f.numbers.timestamp_us))

pub mms_kept : (m : Monitor) (f : MmsRead) → Keeps m (mms_checks m f)
unfolding mms_checks
mms_kept m f = permits m (λ rate. mms_rate f rate m) (mms_rate_lem f m) (mms_rule m f.numbers.raw_service_type f.numbers.write)

module _ (n : GooseNumbers) where
  goose_clock_lem : (c : After Bool) → Keeps c.monitor (goose_clock n c)
  goose_clock_lem c =
      let stream = goose_seq_on c.monitor (stream_key n) (timed_numbers n) in
      let outside = retransmitted c.monitor n in
      record {
        kept = goose_seq_kept c.monitor (stream_key n) (timed_numbers n);
        few = both_few (clock_findings c.answer) (stream_findings stream.answer outside) (clock_few c.answer) (stream_few stream.answer outside);
      }

  pub goose_time_field_lem : (m : Monitor) → Keeps m (goose_time_field n m)
  unfolding goose_time_field
  goose_time_field_lem m =
      keeps_then (clock_kept m (time_max_forward_jump m) n.address (n.seconds, n.fraction))
      (goose_clock_lem (time_field_on m (time_max_forward_jump m) n.address (n.seconds, n.fraction)))

  goose_bound : (c : After Bool) → Keeps c.monitor (unless_hijacked (goose_time_field n) c)
  goose_bound c = cond_holds (Keeps c.monitor) c.answer (ends_refused c.monitor BoundElsewhere) (goose_time_field_lem c.monitor)

pub goose_kept : (m : Monitor) (f : GooseRead) → Keeps m (goose_test m f)
unfolding goose_test goose_allowed goose_reservation
goose_kept m f =
    cond_holds (Keeps m) (blocked m f.numbers.test) (ends_refused m TestBlocked)
    (cond_holds (Keeps m) (goose_unknown m f.numbers.address f.publisher) (ends_refused m UnknownPublisher)
    (keeps_then (use_kept m f.reservation f.numbers.address) (goose_bound f.numbers (cb_on m f.reservation f.numbers.address))))

module _ (svid : List ℕ) (n : SvNumbers) (rate : ℕ) where
  sv_clock_lem : (c : After Bool) → Keeps c.monitor (sv_clock svid n rate c)
  sv_clock_lem c =
      let stream = sv_seq_on c.monitor svid n.smp_cnt in
      let rates = rate_findings n.smp_rate rate in
      let limit = sv_max_smp_cnt_gap stream.monitor in
      record {
        kept = sv_seq_kept c.monitor svid n.smp_cnt;
        few =
            both_few (clock_findings c.answer) (count_findings limit rates stream.answer) (clock_few c.answer)
            (count_few limit rates stream.answer (rate_few n.smp_rate rate));
      }

  pub sv_time_field_lem : (m : Monitor) → Keeps m (sv_time_field svid n rate m)
  unfolding sv_time_field
  sv_time_field_lem m =
      keeps_then (clock_kept m (time_max_forward_jump m) n.address (n.seconds, n.fraction))
      (sv_clock_lem (time_field_on m (time_max_forward_jump m) n.address (n.seconds, n.fraction)))

  sv_bound : (c : After Bool) → Keeps c.monitor (unless_hijacked (sv_time_field svid n rate) c)
  sv_bound c = cond_holds (Keeps c.monitor) c.answer (ends_refused c.monitor BoundElsewhere) (sv_time_field_lem c.monitor)

sv_reserved : (m : Monitor) (f : SvRead) (rate : ℕ) → Keeps m (sv_reservation f rate m)
unfolding sv_reservation
sv_reserved m f rate =
    keeps_then (use_kept m f.dataset f.numbers.address) (sv_bound f.svid f.numbers rate (cb_on m f.dataset f.numbers.address))

pub sv_kept : (m : Monitor) (f : SvRead) → Keeps m (sv_binding m f)
unfolding sv_binding
sv_kept m f = permits m (λ rate. sv_reservation f rate m) (sv_reserved m f) (sv_rule m f.numbers.address f.svid)
