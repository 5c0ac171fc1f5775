-- The checks of a frame's second copy, stage by stage, from any monitor whose tables have their sizes: what they find is answered as the claim says.
use Prim.Native.Nat.{ℕ, suc}
use mathlib.Core.Bool.{Bool, true, false, ◌&&◌, not, cond}
use mathlib.Core.List.{List, [], ◌∷◌, ◌++◌}
use mathlib.Core.Path.{◌≡◌, refl, sym, ap, ◌∙◌}
use lib.Dec.{eqb, ltb}
use lib.ListN.{length, get_or}
use Rattle.std.specs.Prelude.{Result, Ok, Err}
use Rattle.records.specs.Alert.{code_number, denies}
use Rattle.records.proofs.Booleans.{cond_no, cond_holds}
use Rattle.checks.specs.declared.sv_publisher.PublisherMismatch.{PublisherMismatch}
use Rattle.checks.specs.declared.sv_publisher.PublisherMismatch.TheVariants.{NotRegistered, WrongAddress}
use Rattle.checks.specs.declared.sv_seq.SvSeqOutcome.{SvSeqOutcome}
use Rattle.checks.specs.declared.sv_seq.SvSeqOutcome.TheVariants.{FirstSeen, Replay, ForwardGap, CycleWrap, SuspiciousSmpGap}
use Rattle.checks.specs.SvPublisher.{sv_publisher_count, sv_publisher}
use Rattle.checks.proofs.CopyLaws.{count_again, numbers_again, clock_again, use_again}
use Rattle.monitor.specs.Monitor.{Monitor, with_settings, with_goose_publishers, with_sv_publishers, with_totals}
use Rattle.monitor.specs.Parts.{sv_seq_on, goose_seq_on, time_field_on, cb_on}
use Rattle.monitor.specs.Settings.{strict_mode, time_max_forward_jump, sv_max_smp_cnt_gap}
use Rattle.inspection.specs.declared.inspect_goose.GooseNumbers.{GooseNumbers}
use Rattle.inspection.specs.declared.report.CheckAlert.TheVariants.{TestBlocked, UnknownPublisher, ClockAlert, GooseReplay, Retransmission}
use Rattle.inspection.specs.declared.report.CheckAlert.TheVariants.{WrongIed, UnknownSvid, CountReplay, CountGap, SuspiciousCount, RateMismatch}
use Rattle.inspection.specs.declared.report.CheckAlert.{CheckAlert}
use Rattle.std.proofs.Common.{Result, Ok, Err}
use Rattle.inspection.specs.InspectGoose.{GooseRead, stream_key, timed_numbers, stream_findings, retransmitted, goose_time_field, goose_reservation, goose_unknown}
use Rattle.inspection.specs.InspectGoose.{goose_allowed, blocked, goose_test}
use Rattle.inspection.specs.InspectSv.{SvRead, rate_findings, count_findings, sv_time_field, sv_reservation, sv_matched, sv_rule, sv_binding}
use Rattle.inspection.specs.declared.report.Finding.{Finding}
use Rattle.inspection.specs.Report.{Checked, finding_of, findings_of, clock_findings, ended, permitted}
use Rattle.inspection.proofs.CheckLaws.{fixed, goose_kept, sv_kept}
use Rattle.demand3.proofs.AnswerLaws.{answer_from}
use Rattle.heard_twice.specs.HeardTwice.{before_stream, refused_before, refused_again}

-- ---- answers to what the checks find

-- the second answer is the claim's, by what the checks of both copies find
abbrev pub Again : ℕ → List Finding → List Finding → Type 0
Again replay first second = answer_from true [] second ≡ refused_again replay (answer_from true [] first)

-- findings of a frame that reached the check of its stream
abbrev Reached : List Finding → Type 0
Reached first = refused_before (answer_from true [] first) ≡ false

again_reached : (replay : ℕ) (first second : List Finding) → Reached first → answer_from true [] second ≡ (false, replay ∷ []) → Again replay first second
again_reached replay first second r e = e ∙ sym (ap (λ (codes : List ℕ). (false, codes)) (cond_no _ _ r))

-- the first code decides
first_decides : (allowed : Bool) (code : ℕ) (codes : List ℕ) (rest : List Finding)
    → refused_before (answer_from allowed (code ∷ codes) rest) ≡ before_stream code
first_decides allowed code codes [] = refl
first_decides allowed code codes (a ∷ rest) =
    first_decides ((allowed && not a.refuses) && not (denies a.severity)) code (codes ++ code_number a.code ∷ []) rest

reached_by : (a : Finding) (rest : List Finding) → before_stream (code_number a.code) ≡ false → Reached (a ∷ rest)
reached_by a rest e = first_decides _ (code_number a.code) [] rest ∙ e

-- a clock alert comes first
clock_reached : (alert : Bool) (rest : List Finding) → Reached rest → Reached (clock_findings alert ++ rest)
clock_reached true rest r = reached_by (finding_of ClockAlert) rest refl
clock_reached false rest r = r

stream_reached : (replay outside : Bool) → Reached (stream_findings replay outside)
stream_reached true outside = reached_by (finding_of GooseReplay) [] refl
stream_reached false true = reached_by (finding_of Retransmission) [] refl
stream_reached false false = refl

count_reached : (limit : ℕ) (rates : List Finding) (o : SvSeqOutcome) → Reached rates → Reached (count_findings limit rates o)
unfolding count_findings
count_reached limit rates FirstSeen r = r
count_reached limit rates Replay r = reached_by (finding_of CountReplay) [] refl
count_reached limit rates (ForwardGap gap) r = cond_holds Reached (ltb 0 limit && ltb limit gap) (reached_by (finding_of CountGap) rates refl) r
count_reached limit rates CycleWrap r = r
count_reached limit rates (SuspiciousSmpGap gap) r = reached_by (finding_of SuspiciousCount) rates refl

rate_reached : (frame_rate rate : ℕ) → Reached (rate_findings frame_rate rate)
unfolding rate_findings
rate_reached frame_rate rate =
    cond_holds Reached (ltb 0 frame_rate && ltb 0 rate && not (eqb frame_rate rate)) (reached_by (finding_of RateMismatch) [] refl) refl

-- ---- GOOSE

-- the numbers of a copy that is heard at another time
abbrev pub numbers_at : GooseNumbers → ℕ → GooseNumbers
numbers_at n time =
    record {
      address = n.address;
      hash = n.hash;
      st_num = n.st_num;
      sq_num = n.sq_num;
      test = n.test;
      timestamp_us = time;
      seconds = n.seconds;
      fraction = n.fraction;
    }

abbrev pub read_at : GooseRead → ℕ → GooseRead
read_at f time = record { publisher = f.publisher; reservation = f.reservation; numbers = numbers_at f.numbers time }

-- the checks by whether a frame is blocked, and whether its publisher is unknown
abbrev goose_by : Bool → Bool → Monitor → GooseRead → Checked
goose_by is_blocked is_unknown m f =
    cond is_blocked (ended m (findings_of TestBlocked))
    (cond is_unknown (ended m (findings_of UnknownPublisher)) (goose_reservation f.numbers f.reservation m))

goose_by_lem : (m : Monitor) (f : GooseRead) {b u : Bool} → blocked m f.numbers.test ≡ b → goose_unknown m f.numbers.address f.publisher ≡ u
    → goose_test m f ≡ goose_by b u m f
unfolding goose_test goose_allowed
goose_by_lem m f p q = λ i. goose_by (p i) (q i) m f

module _ (m : Monitor) (totals : List ℕ) (cb : length m.cb_reservations ≡ 210) (clocks : length m.time_trackers ≡ 50) where
  module _ (n : GooseNumbers) (time : ℕ) (streams : length m.goose_seq ≡ 210) where
    goose_reserved : (key : List ℕ) → length key ≡ 10
        → Again 3 (goose_reservation n key m).answer
        (goose_reservation (numbers_at n time) key (with_totals (goose_reservation n key m).monitor totals)).answer
    unfolding goose_reservation cb_on goose_time_field time_field_on goose_seq_on denies
    goose_reserved key g = go (cb_on m key n.address).answer refl
      where
        go : (hijack : Bool) → (cb_on m key n.address).answer ≡ hijack
            → Again 3 (goose_reservation n key m).answer
            (goose_reservation (numbers_at n time) key (with_totals (goose_reservation n key m).monitor totals)).answer
        go true e = rw (e, use_again m.cb_reservations key n.address cb g ∙ e)
        go false e =
            let clocked = time_field_on (cb_on m key n.address).monitor (time_max_forward_jump m) n.address (n.seconds, n.fraction) in
            let stream = goose_seq_on clocked.monitor (stream_key n) (timed_numbers n) in
            rw (
              e,
              use_again m.cb_reservations key n.address cb g ∙ e,
              clock_again m.time_trackers (time_max_forward_jump m) n.address (n.seconds, n.fraction) clocks,
              numbers_again m.goose_seq (stream_key n) (n.st_num, n.sq_num) n.timestamp_us time streams refl,
            )
            (again_reached 3 (clock_findings clocked.answer ++ stream_findings stream.answer (retransmitted clocked.monitor n)) (findings_of GooseReplay)
            (clock_reached clocked.answer _ (stream_reached stream.answer (retransmitted clocked.monitor n))) refl)

  module _ (f : GooseRead) (time : ℕ) (streams : length m.goose_seq ≡ 210) (g : length f.reservation ≡ 10) where
    -- the monitor that the second copy meets
    abbrev goose_left : Monitor
    goose_left = with_totals (goose_test m f).monitor totals

    goose_part : (k : ℕ) → get_or (fixed (goose_test m f).monitor) k [] ≡ get_or (fixed m) k []
    goose_part k = ap (λ (l : List (List ℕ)). get_or l (suc k) []) (goose_kept m f).kept

    blocked_kept : blocked goose_left f.numbers.test ≡ blocked m f.numbers.test
    blocked_kept = ap (λ (s : List ℕ). blocked (with_settings m s) f.numbers.test) (goose_part 0)

    unknown_kept : goose_unknown goose_left f.numbers.address f.publisher ≡ goose_unknown m f.numbers.address f.publisher
    unfolding goose_unknown
    unknown_kept = ap (λ (p : List ℕ). goose_unknown (with_goose_publishers m p) f.numbers.address f.publisher) (goose_part 2)

    pub goose_again : Again 3 (goose_test m f).answer (goose_test goose_left (read_at f time)).answer
    unfolding denies
    goose_again =
        rw (goose_by_lem goose_left (read_at f time) blocked_kept unknown_kept, goose_by_lem m f refl refl)
        (go (blocked m f.numbers.test) (goose_unknown m f.numbers.address f.publisher))
      where
        go : (b u : Bool) → Again 3 (goose_by b u m f).answer (goose_by b u (with_totals (goose_by b u m f).monitor totals) (read_at f time)).answer
        go true u = refl
        go false true = refl
        go false false = goose_reserved f.numbers time streams f.reservation g

-- ---- SV

-- what the publishers say of an svID
data Ruled : Result ℕ CheckAlert → Type 0 where
  wrong_address : Ruled (Err WrongIed)
  unknown : Ruled (Err UnknownSvid)
  rated : (rate : ℕ) → Ruled (Ok rate)

ruled : (m : Monitor) (address : ℕ) (svid : List ℕ) → Ruled (sv_rule m address svid)
unfolding sv_rule
ruled m address svid = go (sv_publisher m.sv_publishers address svid)
  where
    go : (p : Result ℕ PublisherMismatch) → Ruled (sv_matched (strict_mode m) m.sv_publishers p)
    go (Err WrongAddress) = wrong_address
    go (Err NotRegistered) = cond_holds Ruled (strict_mode m && ltb 0 (sv_publisher_count m.sv_publishers)) unknown (rated 0)
    go (Ok i) = rated _

-- the checks by that
abbrev sv_by : Result ℕ CheckAlert → Monitor → SvRead → Checked
sv_by rule m f = permitted m (λ rate. sv_reservation f rate m) rule

sv_by_lem : (m : Monitor) (f : SvRead) {rule : Result ℕ CheckAlert} → sv_rule m f.numbers.address f.svid ≡ rule → sv_binding m f ≡ sv_by rule m f
unfolding sv_binding
sv_by_lem m f p = λ i. sv_by (p i) m f

module _ (m : Monitor) (totals : List ℕ) (cb : length m.cb_reservations ≡ 210) (clocks : length m.time_trackers ≡ 50) where
  module _ (f : SvRead) (streams : length m.sv_seq ≡ 178) (k : length f.svid ≡ 10) (g : length f.dataset ≡ 10) where
    sv_reserved : (rate : ℕ) → Again 26 (sv_reservation f rate m).answer (sv_reservation f rate (with_totals (sv_reservation f rate m).monitor totals)).answer
    unfolding sv_reservation cb_on sv_time_field time_field_on sv_seq_on count_findings denies
    sv_reserved rate = go (cb_on m f.dataset f.numbers.address).answer refl
      where
        go : (hijack : Bool) → (cb_on m f.dataset f.numbers.address).answer ≡ hijack
            → Again 26 (sv_reservation f rate m).answer (sv_reservation f rate (with_totals (sv_reservation f rate m).monitor totals)).answer
        go true e = rw (e, use_again m.cb_reservations f.dataset f.numbers.address cb g ∙ e)
        go false e =
            let n = f.numbers in
            let clocked = time_field_on (cb_on m f.dataset n.address).monitor (time_max_forward_jump m) n.address (n.seconds, n.fraction) in
            let stream = sv_seq_on clocked.monitor f.svid n.smp_cnt in
            let rates = rate_findings n.smp_rate rate in
            rw (
              e,
              use_again m.cb_reservations f.dataset n.address cb g ∙ e,
              clock_again m.time_trackers (time_max_forward_jump m) n.address (n.seconds, n.fraction) clocks,
              count_again m.sv_seq f.svid n.smp_cnt streams k,
            )
            (again_reached 26 (clock_findings clocked.answer ++ count_findings (sv_max_smp_cnt_gap m) rates stream.answer) (findings_of CountReplay)
            (clock_reached clocked.answer _ (count_reached (sv_max_smp_cnt_gap m) rates stream.answer (rate_reached n.smp_rate rate))) refl)

    -- the monitor that the second copy meets
    abbrev sv_left : Monitor
    sv_left = with_totals (sv_binding m f).monitor totals

    sv_part : (i : ℕ) → get_or (fixed (sv_binding m f).monitor) i [] ≡ get_or (fixed m) i []
    sv_part i = ap (λ (l : List (List ℕ)). get_or l (suc i) []) (sv_kept m f).kept

    rule_kept : sv_rule sv_left f.numbers.address f.svid ≡ sv_rule m f.numbers.address f.svid
    unfolding sv_rule
    rule_kept = λ i. sv_rule (with_sv_publishers (with_settings m (sv_part 0 i)) (sv_part 3 i)) f.numbers.address f.svid

    pub sv_again : Again 26 (sv_binding m f).answer (sv_binding sv_left f).answer
    unfolding denies
    sv_again = rw (sv_by_lem sv_left f rule_kept, sv_by_lem m f refl) (go (ruled m f.numbers.address f.svid))
      where
        go : {rule : Result ℕ CheckAlert} → Ruled rule → Again 26 (sv_by rule m f).answer (sv_by rule (with_totals (sv_by rule m f).monitor totals) f).answer
        go wrong_address = refl
        go unknown = refl
        go (rated rate) = sv_reserved rate
