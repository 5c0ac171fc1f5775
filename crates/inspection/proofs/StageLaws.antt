-- Laws of the stages of an inspection: each way out of a stage, as its definition has it.
use Prim.Native.Nat.{ℕ}
use mathlib.Core.Bool.{Bool, true, false, ◌&&◌, not, cond}
use mathlib.Core.List.{List, [], ◌++◌}
use mathlib.Core.Path.{◌≡◌, refl, sym, ap, ◌∙◌}
use native.Mathlib.Omega.{arith}
use borrow.Author.Tests.{lt-ltb, eq-eqb, ne_eqb}
use lib.Dec.{ltb}
use Rattle.std.proofs.Common.{Result, Ok, Err}
use Rattle.records.specs.declared.error.VsError.{VsError}
use Rattle.records.specs.declared.frame.GooseFrame.{GooseFrame}
use Rattle.records.specs.declared.frame.MmsFrame.{MmsFrame}
use Rattle.records.specs.declared.frame.SvFrame.{SvFrame}
use Rattle.records.specs.declared.result.InspectResult.{InspectResult}
use Rattle.records.specs.declared.schedule.RetxSchedule.{RetxSchedule}
use Rattle.std.specs.Prelude.{Option, Result, Err}
use Rattle.records.specs.Alert.{source_sv}
use Rattle.records.specs.Hash.{fnv1a}
use Rattle.records.specs.Result.{clean_result}
use Rattle.records.specs.Search.{is_found, last_below}
use Rattle.records.specs.Service.{service_number, is_write}
use Rattle.records.proofs.Booleans.{and-true, and-false, and_yes, and_no, answered, cond_yes, cond_no}
use Rattle.std.proofs.Common.{Result, Ok, Err}
use Rattle.sv_frame.specs.Sv.{sv_frame}
use Rattle.checks.specs.declared.sv_publisher.PublisherMismatch.{PublisherMismatch}
use Rattle.checks.specs.declared.sv_publisher.PublisherMismatch.TheVariants.{NotRegistered}
use Rattle.checks.specs.declared.sv_seq.SvSeqOutcome.{SvSeqOutcome}
use Rattle.checks.specs.declared.sv_seq.SvSeqOutcome.TheVariants.{FirstSeen, Replay, ForwardGap, CycleWrap, SuspiciousSmpGap}
use Rattle.checks.specs.GoosePublisher.{goose_publisher_count, goose_publisher}
use Rattle.checks.specs.GooseSeq.{retx_checked}
use Rattle.checks.specs.Keys.{plain_key}
use Rattle.checks.specs.SvPublisher.{sv_publisher_count, sv_publisher}
use Rattle.checks.specs.SvSeq.{is_replay}
use Rattle.monitor.specs.Monitor.{Monitor}
use Rattle.monitor.specs.Parts.{After, sv_seq_on, goose_seq_on, time_field_on, rate_on, reserved_on, released_on}
use Rattle.monitor.specs.Settings.{strict_mode, retx_enforce, retx_schedule, time_max_forward_jump, sv_max_smp_cnt_gap}
use Rattle.monitor.specs.Totals.{counted_mms, counted_goose, counted_sv}
use Rattle.inspection.specs.declared.inspect_goose.GooseNumbers.{GooseNumbers}
use Rattle.inspection.specs.declared.inspect_sv.SvNumbers.{SvNumbers}
use Rattle.inspection.specs.declared.report.CheckAlert.{CheckAlert}
use Rattle.inspection.specs.declared.report.CheckAlert.TheVariants.{BoundElsewhere, OverRate, UnknownSvid, CountGap}
use Rattle.inspection.specs.Address.{address_of}
use Rattle.inspection.specs.InspectGoose.{stream_findings, stream_key, timed_numbers, retransmitted, goose_stream, goose_clock, goose_time_field}
use Rattle.inspection.specs.InspectGoose.{goose_unknown, control_block, goose_read, goose_read_by, goose_numbers_by, goose_test, checked_goose}
use Rattle.inspection.specs.InspectMms.{MmsRead, control_key, full_findings, mms_reserved, releases, mms_control, refused_on, over_rate, unless_over, mms_rate}
use Rattle.inspection.specs.InspectMms.{mms_read, mms_read_with, mms_checks, checked_mms}
use Rattle.inspection.specs.InspectSv.{rate_findings, count_findings, sv_count, sv_clock, sv_time_field, sv_matched, sv_rule}
use Rattle.inspection.specs.InspectSv.{svid_of, dataset_of, sv_read, sv_read_by, sv_numbers_by, sv_binding, checked_sv}
use Rattle.inspection.specs.InspectSv.{inspect_sv, parsed_inspected, inspect_raw_sv}
use Rattle.inspection.specs.declared.report.Finding.{Finding}
use Rattle.inspection.specs.Report.{Checked, findings_of, clock_findings, ended, unless_hijacked, permitted, with_allowed}

pub nonzero : (n : ℕ) → ¬ (n ≡ 0) → ltb 0 n ≡ true
nonzero n d = lt-ltb 0 n (omega (arith, d))

-- ---- any kind of frame

-- checking ends here, with these alerts
pub ends : (m : Monitor) {a b : List Finding} → a ≡ b → record { monitor = m; answer = a } ≡ ended m b
ends m e = ap (ended m) e

-- a frame of an address that its reservation is not bound to, and any other
module _ (next : Monitor → Checked) {m : Monitor} {hijack : Bool} {c : After Bool} (e : record { monitor = m; answer = hijack } ≡ c) where
  pub hijack_ends :
      {a : List Finding} → hijack ≡ true → a ≡ findings_of BoundElsewhere → record { monitor = m; answer = a } ≡ unless_hijacked next c
  hijack_ends h q = ends m q ∙ sym (cond_yes _ _ h) ∙ ap (unless_hijacked next) e

  pub hijack_passed : {r : Checked} → hijack ≡ false → r ≡ next m → r ≡ unless_hijacked next c
  hijack_passed h q = q ∙ sym (cond_no _ _ h) ∙ ap (unless_hijacked next) e

-- what the rules say: refused, or a rate
module _ (m : Monitor) (next : ℕ → Checked) {rule check : Result ℕ CheckAlert} (e : rule ≡ check) where
  pub rules_refuse :
      (alert : CheckAlert) {a : List Finding} → rule ≡ Err alert → a ≡ findings_of alert
      → record { monitor = m; answer = a } ≡ permitted m next check
  rules_refuse alert q h = ends m h ∙ ap (permitted m next) (sym q ∙ e)

  pub rules_permit : (rate : ℕ) {r : Checked} → rule ≡ Ok rate → r ≡ next rate → r ≡ permitted m next check
  rules_permit rate q h = h ∙ ap (permitted m next) (sym q ∙ e)

-- a frame counted and checked
pub counted_checked :
    (checks : Monitor → Checked) {counted before : Monitor} {c : Checked} → counted ≡ before → c ≡ checks counted → c ≡ checks before
counted_checked checks x y = y ∙ ap checks x

-- ---- SV

none_match : (p : List ℕ) (address : ℕ) (svid : List ℕ) → sv_publisher_count p ≡ 0 → sv_publisher p address svid ≡ Err NotRegistered
unfolding sv_publisher last_below
none_match p address svid e = rw e

module _ (m : Monitor) (address : ℕ) (svid : List ℕ) where
  -- without publishers there is no rate
  pub no_publishers : {count : ℕ} → count ≡ sv_publisher_count m.sv_publishers → count ≡ 0 → Ok 0 ≡ sv_rule m address svid
  unfolding sv_rule
  no_publishers e h =
      sym
      (ap (sv_matched (strict_mode m) m.sv_publishers) (none_match m.sv_publishers address svid (answered e h))
      ∙ cond_no _ _ (ap (λ (c : ℕ). strict_mode m && ltb 0 c) (answered e h) ∙ and-false (strict_mode m)))

  -- by how the svID and the address match
  pub rule_matched :
      {match : Result ℕ PublisherMismatch} (way : Result ℕ PublisherMismatch) → match ≡ sv_publisher m.sv_publishers address svid → match ≡ way
      → sv_matched (strict_mode m) m.sv_publishers way ≡ sv_rule m address svid
  unfolding sv_rule
  rule_matched way e h = ap (sv_matched (strict_mode m) m.sv_publishers) (sym h ∙ e)

  pub not_registered :
      {match : Result ℕ PublisherMismatch} {count : ℕ} {strict : Bool} → match ≡ sv_publisher m.sv_publishers address svid → match ≡ Err NotRegistered
      → count ≡ sv_publisher_count m.sv_publishers → ¬ (count ≡ 0) → strict ≡ strict_mode m
      → cond strict (Err UnknownSvid) (Ok 0) ≡ sv_rule m address svid
  not_registered e h c d s =
      ap (λ (b : Bool). cond b (Err UnknownSvid) (Ok 0))
      (s ∙ sym (ap (λ (b : Bool). strict_mode m && b) (answered (ap (ltb 0) c) (nonzero _ d)) ∙ and-true (strict_mode m)))
      ∙ rule_matched (Err NotRegistered) e h

-- the rate's alert follows the count's unless that is a replay
pub count_then_rate :
    (limit : ℕ) (rates : List Finding) (o : SvSeqOutcome) → count_findings limit [] o ++ cond (is_replay o) [] rates ≡ count_findings limit rates o
unfolding count_findings is_replay
count_then_rate limit rates FirstSeen = refl
count_then_rate limit rates Replay = refl
count_then_rate limit rates (ForwardGap gap) = go (ltb 0 limit && ltb limit gap)
  where
    go : (b : Bool) → cond b (findings_of CountGap) [] ++ rates ≡ cond b (findings_of CountGap ++ rates) rates
    go true = refl
    go false = refl
count_then_rate limit rates CycleWrap = refl
count_then_rate limit rates (SuspiciousSmpGap gap) = refl

pub clock_and_count :
    (svid : List ℕ) (n : SvNumbers) (rate : ℕ) (m : Monitor) {gap : ℕ} {timed counted : Monitor} {alert : Bool} {outcome : SvSeqOutcome}
    {a : List Finding}
    → record { monitor = timed; answer = alert } ≡ time_field_on m (time_max_forward_jump m) n.address (n.seconds, n.fraction)
    → record { monitor = counted; answer = outcome } ≡ sv_seq_on timed svid n.smp_cnt
    → gap ≡ sv_max_smp_cnt_gap counted
    → a ≡ clock_findings alert ++ count_findings gap (rate_findings n.smp_rate rate) outcome
    → record { monitor = counted; answer = a } ≡ sv_time_field svid n rate m
unfolding sv_time_field
clock_and_count svid n rate m {alert = alert} {outcome = outcome} t s g h =
    ends _ (h ∙ ap (λ (gap : ℕ). clock_findings alert ++ count_findings gap (rate_findings n.smp_rate rate) outcome) g)
    ∙ ap (sv_count svid n rate (clock_findings alert)) s
    ∙ ap (sv_clock svid n rate) t

-- a frame by the key and the address that the code makes of it
pub sv_checked_lem :
    (m : Monitor) (f : SvFrame) {svid : List ℕ} {address : ℕ} {counted : Monitor} {c : Checked}
    → svid ≡ plain_key (svid_of f) → address ≡ address_of f.src_mac → counted ≡ counted_sv m
    → c ≡ sv_binding counted (sv_read_by svid (dataset_of f) (sv_numbers_by address f)) → c ≡ checked_sv m f
sv_checked_lem m f {counted = counted} k s n e =
    counted_checked (λ x. sv_binding x (sv_read f)) n (e ∙ λ i. sv_binding counted (sv_read_by (k i) (dataset_of f) (sv_numbers_by (s i) f)))

-- a raw frame, unreadable or read
module _ (m : Monitor) (octets : List ℕ) (time : ℕ) {p : Result SvFrame VsError} (e : p ≡ sv_frame octets time) where
  raw_answered : {q : Result SvFrame VsError} → p ≡ q → parsed_inspected m q ≡ inspect_raw_sv m octets time
  unfolding inspect_raw_sv
  raw_answered a = ap (parsed_inspected m) (sym a ∙ e)

  pub raw_unreadable :
      {error : VsError} {clean : InspectResult} → p ≡ Err error → clean ≡ clean_result source_sv
      → record { monitor = m; answer = record { answer = Err error; result = with_allowed clean false } } ≡ inspect_raw_sv m octets time
  raw_unreadable {error} a r =
      (λ i. record { monitor = m; answer = record { answer = Err error; result = with_allowed (r i) false } }) ∙ raw_answered a

  pub raw_read :
      {f : SvFrame} {after : Monitor} {r : InspectResult} → p ≡ Ok f → record { monitor = after; answer = r } ≡ inspect_sv m f
      → record { monitor = after; answer = record { answer = Ok tt; result = r } } ≡ inspect_raw_sv m octets time
  raw_read a r = (λ i. record { monitor = (r i).monitor; answer = record { answer = Ok tt; result = (r i).answer } }) ∙ raw_answered a

-- ---- GOOSE

module _ (m : Monitor) (n : GooseNumbers) {enforced : Bool} (e : enforced ≡ retx_enforce m) where
  pub retx_not_asked : enforced ≡ false → false ≡ retransmitted m n
  unfolding retransmitted
  retx_not_asked h = sym (and_no _ (answered e h))

  pub retx_asked :
      {schedule : RetxSchedule} {key : List ℕ} {r : Bool} → enforced ≡ true → schedule ≡ retx_schedule m → key ≡ stream_key n
      → r ≡ retx_checked schedule m.goose_seq key (timed_numbers n) → r ≡ retransmitted m n
  unfolding retransmitted
  retx_asked h s k q =
      q ∙ (λ i. retx_checked (s i) m.goose_seq (k i) (timed_numbers n)) ∙ sym (and_yes (answered e h) refl)

-- publishers exist, and whether one fits
module _ (m : Monitor) (address : ℕ) (name : List ℕ) {count : ℕ} (e : count ≡ goose_publisher_count m.goose_publishers) where
  pub unknown_to_none : count ≡ 0 → false ≡ goose_unknown m address name
  unfolding goose_unknown
  unknown_to_none h = rw (answered e h)

  pub unknown_unless_found :
      (way : Option ℕ) {x : Option ℕ} → ¬ (count ≡ 0) → x ≡ goose_publisher m.goose_publishers address name → x ≡ way
      → not (is_found way) ≡ goose_unknown m address name
  unfolding goose_unknown
  unknown_unless_found way d q h =
      ap (λ (x : Option ℕ). not (is_found x)) (sym h ∙ q) ∙ sym (and_yes (answered (ap (ltb 0) e) (nonzero _ d)) refl)

pub clock_and_stream :
    (n : GooseNumbers) (m : Monitor) {timed stored : Monitor} {alert outside replay : Bool} {key : List ℕ} {a : List Finding}
    → record { monitor = timed; answer = alert } ≡ time_field_on m (time_max_forward_jump m) n.address (n.seconds, n.fraction)
    → outside ≡ retransmitted timed n
    → key ≡ stream_key n
    → record { monitor = stored; answer = replay } ≡ goose_seq_on timed key (timed_numbers n)
    → a ≡ clock_findings alert ++ stream_findings replay outside
    → record { monitor = stored; answer = a } ≡ goose_time_field n m
unfolding goose_time_field
clock_and_stream n m {timed = timed} {alert = alert} {replay = replay} t o k s h =
    ends _ (h ∙ ap (λ (b : Bool). clock_findings alert ++ stream_findings replay b) o)
    ∙ ap (goose_stream (clock_findings alert) (retransmitted timed n)) (s ∙ ap (λ (key : List ℕ). goose_seq_on timed key (timed_numbers n)) k)
    ∙ ap (goose_clock n) t

pub goose_checked_lem :
    (m : Monitor) (f : GooseFrame) {address hash : ℕ} {counted : Monitor} {c : Checked}
    → address ≡ address_of f.src_mac → hash ≡ fnv1a (control_block f) → counted ≡ counted_goose m
    → c ≡ goose_test counted (goose_read_by (control_block f) (goose_numbers_by address hash f)) → c ≡ checked_goose m f
goose_checked_lem m f {counted = counted} s h n e =
    counted_checked (λ x. goose_test x (goose_read f)) n (e ∙ λ i. goose_test counted (goose_read_by (control_block f) (goose_numbers_by (s i) (h i) f)))

-- ---- MMS

module _ (f : MmsRead) (m : Monitor) {key : List ℕ} (k : key ≡ control_key f) where
  pub control_selects :
      {after : Monitor} {taken : Bool} {a : List Finding} → f.numbers.service ≡ 11
      → record { monitor = after; answer = taken } ≡ reserved_on m key f.numbers.client_id → a ≡ full_findings taken
      → record { monitor = after; answer = a } ≡ mms_control f m
  unfolding mms_control
  control_selects h r q =
      ends _ q ∙ ap mms_reserved (r ∙ ap (λ (x : List ℕ). reserved_on m x f.numbers.client_id) k) ∙ sym (cond_yes _ _ (eq-eqb _ _ h))

  pub control_releases :
      {after : Monitor} {a : List Finding} → ¬ (f.numbers.service ≡ 11) → releases f.numbers.service ≡ true
      → after ≡ released_on m key f.numbers.client_id → a ≡ [] → record { monitor = after; answer = a } ≡ mms_control f m
  unfolding mms_control
  control_releases d h r q =
      ends _ q ∙ ap (λ (x : Monitor). ended x []) (r ∙ ap (λ (x : List ℕ). released_on m x f.numbers.client_id) k)
      ∙ sym (cond_no _ _ (ne_eqb _ _ d) ∙ cond_yes _ _ h)

module _ (f : MmsRead) (m : Monitor) where
  pub no_control :
      {a : List Finding} → ¬ (f.numbers.service ≡ 11) → releases f.numbers.service ≡ false → a ≡ []
      → record { monitor = m; answer = a } ≡ mms_control f m
  unfolding mms_control
  no_control d h q = ends _ q ∙ sym (cond_no _ _ (ne_eqb _ _ d) ∙ cond_no _ _ h)

  -- over the rate, and not
  module _ (rate : ℕ) {after : Monitor} {over : Bool}
      (e : record { monitor = after; answer = over } ≡ over_rate m f.numbers.invoke_id rate f.numbers.timestamp_us) where
    pub over_ends : {a : List Finding} → over ≡ true → a ≡ findings_of OverRate → record { monitor = after; answer = a } ≡ mms_rate f rate m
    unfolding mms_rate
    over_ends h q = ends _ q ∙ sym (cond_yes _ _ h) ∙ ap (unless_over f) e

    pub over_passed : {r : Checked} → over ≡ false → r ≡ mms_control f after → r ≡ mms_rate f rate m
    unfolding mms_rate
    over_passed h q = q ∙ sym (cond_no _ _ h) ∙ ap (unless_over f) e

-- a rate of 0 is no limit; any other asks the bucket
module _ (m : Monitor) (key rate time : ℕ) where
  pub rate_free : rate ≡ 0 → record { monitor = m; answer = false } ≡ over_rate m key rate time
  unfolding over_rate
  rate_free h = sym (cond_no _ _ (ap (ltb 0) h))

  pub rate_asked :
      {after : Monitor} {allowed : Bool} → ¬ (rate ≡ 0) → record { monitor = after; answer = allowed } ≡ rate_on m key rate time
      → record { monitor = after; answer = not allowed } ≡ over_rate m key rate time
  unfolding over_rate
  rate_asked d e = ap refused_on e ∙ sym (cond_yes _ _ (nonzero rate d))

pub mms_checked :
    (m : Monitor) (f : MmsFrame) {service : ℕ} {write : Bool} {counted : Monitor} {c : Checked} → service ≡ service_number f.service_type
    → write ≡ is_write f.service_type → counted ≡ counted_mms m → c ≡ mms_checks counted (mms_read_with service write f) → c ≡ checked_mms m f
mms_checked m f {counted = counted} s w n e =
    counted_checked (λ x. mms_checks x (mms_read f)) n (e ∙ λ i. mms_checks counted (mms_read_with (s i) (w i) f))
