-- The theorems over any list of calls hold, by what each call keeps and counts.
use Prim.Native.Nat.{ℕ, ◌+◌, ◌<◌, ◌^◌}
use mathlib.Core.List.{List, [], ◌∷◌}
use mathlib.Core.Path.{◌≡◌, refl, ap, ◌∙◌}
use native.Mathlib.Omega.{arith}
use Rattle.records.specs.declared.error.VsError.{VsError}
use Rattle.records.specs.declared.frame.SvFrame.{SvFrame}
use Rattle.records.specs.Octets.{tabulate}
use Rattle.std.proofs.Common.{Result, Ok, Err}
use Rattle.records.specs.Row.{ValuesOr}
use Rattle.records.specs.Row.{answer_row}
use Rattle.sv_frame.specs.Sv.{sv_frame}
use Rattle.sv_frame.proofs.RefusalsHold.{sv_answers}
use Rattle.tables.specs.Column.{zero_words}
use Rattle.checks.proofs.RuleLaws.{add_numbers}
use Rattle.checks.specs.GoosePublisher.{goose_added}
use Rattle.checks.specs.MmsRule.{mms_added}
use Rattle.checks.specs.SvPublisher.{sv_added}
use Rattle.monitor.specs.Monitor.{Monitor, Sized, with_settings, with_mms_rules, with_goose_publishers, with_sv_publishers}
use Rattle.monitor.specs.Parts.{After, mms_added_on, goose_added_on, sv_added_on}
use Rattle.monitor.specs.Reset.{fresh_with, new_monitor, reset_monitor}
use Rattle.monitor.specs.Settings.{new_settings, set_mms_service_mask, set_mms_read_only, set_block_test_frames, set_sv_max_smp_cnt_gap, set_retx_schedule}
use Rattle.monitor.specs.Settings.{set_time_max_forward_jump}
use Rattle.monitor.specs.Totals.{mms_total_inspected, goose_total_inspected, sv_total_inspected, total_alerts}
use Rattle.inspection.specs.declared.inspect_sv.RawSv.{RawSv}
use Rattle.inspection.specs.Address.{address_of}
use Rattle.inspection.specs.Calls.{Setting, service_mask, read_only, new_mms_rule, new_goose_publisher, new_sv_publisher, block_test, max_smp_cnt_gap}
use Rattle.inspection.specs.Calls.{schedule, max_forward_jump, Call, setting, mms, goose, sv, raw_sv, reset, setting_made, called, after_calls}
use Rattle.inspection.specs.CallTheorems.{SameRules, InspectionsKeepRules, AtMost16, RuleCountsHold, alert_count}
use Rattle.inspection.specs.CallTheorems.{frames_of, unless_reset, count_from, TotalsCount, next_number, alert_numbers, consecutive}
use Rattle.inspection.specs.CallTheorems.{AlertNumbersConsecutive, mms_rule_error, goose_publisher_error, sv_publisher_error, raw_frame_error}
use Rattle.inspection.specs.CallTheorems.{RefusalNumbers, RawRefusals, RefusedChangesNothing, RefusedLeftOut, UnreadableNotAllowed}
use Rattle.inspection.specs.InspectMms.{inspect_mms}
use Rattle.inspection.specs.InspectGoose.{inspect_goose}
use Rattle.inspection.specs.InspectSv.{inspect_sv, parsed_inspected, inspect_raw_sv}
use Rattle.inspection.proofs.CallLaws.{mms_inspects, goose_inspects, sv_inspects, raw_inspects, stepped, called_sized}
use Rattle.inspection.proofs.ReportLaws.{saturating, wrapping}
use Rattle.inspection.proofs.RuleLaws.{not_added, mms_count, goose_count, sv_count_lem}

-- ---- settings and rules

same_then : {m m' m'' : Monitor} → SameRules m m' → SameRules m' m'' → SameRules m m''
same_then a b =
    record { settings = b.settings ∙ a.settings; mms = b.mms ∙ a.mms; goose = b.goose ∙ a.goose; sv = b.sv ∙ a.sv }

pub inspections_keep_rules : InspectionsKeepRules
inspections_keep_rules m [] h = record { settings = refl; mms = refl; goose = refl; sv = refl }
inspections_keep_rules m (setting s ∷ calls) h = absurd h
inspections_keep_rules m (mms f ∷ calls) h = same_then (mms_inspects m f).same (inspections_keep_rules (inspect_mms m f).monitor calls h)
inspections_keep_rules m (goose f ∷ calls) h = same_then (goose_inspects m f).same (inspections_keep_rules (inspect_goose m f).monitor calls h)
inspections_keep_rules m (sv f ∷ calls) h = same_then (sv_inspects m f).same (inspections_keep_rules (inspect_sv m f).monitor calls h)
inspections_keep_rules m (raw_sv octets time ∷ calls) h =
    same_then (raw_inspects m octets time).same (inspections_keep_rules (inspect_raw_sv m octets time).monitor calls h)
inspections_keep_rules m (reset ∷ calls) h = absurd h

-- ---- rule counts

counts_kept : {m m' : Monitor} → SameRules m m' → AtMost16 m → AtMost16 m'
counts_kept e h = record { mms = rw e.mms h.mms; goose = rw e.goose h.goose; sv = rw e.sv h.sv }

settings_replaced : (m : Monitor) (s : List ℕ) → AtMost16 m → AtMost16 (with_settings m s)
settings_replaced m s h = record { mms = h.mms; goose = h.goose; sv = h.sv }

counts_set : (m : Monitor) (s : Setting) → AtMost16 m → AtMost16 (setting_made m s)
unfolding set_mms_service_mask set_mms_read_only set_block_test_frames set_sv_max_smp_cnt_gap set_retx_schedule set_time_max_forward_jump
    mms_added_on goose_added_on sv_added_on
counts_set m (service_mask mask) h = settings_replaced m _ h
counts_set m (read_only on) h = settings_replaced m _ h
counts_set m (new_mms_rule mask on rate) h = record { mms = mms_count m.mms_rules mask on rate h.mms; goose = h.goose; sv = h.sv }
counts_set m (new_goose_publisher mac name) h =
    record { mms = h.mms; goose = goose_count m.goose_publishers (address_of mac) name h.goose; sv = h.sv }
counts_set m (new_sv_publisher mac svid rate) h =
    record { mms = h.mms; goose = h.goose; sv = sv_count_lem m.sv_publishers (address_of mac) svid rate h.sv }
counts_set m (block_test block) h = settings_replaced m _ h
counts_set m (max_smp_cnt_gap gap) h = settings_replaced m _ h
counts_set m (schedule s enforce) h = settings_replaced m _ h
counts_set m (max_forward_jump seconds) h = settings_replaced m _ h

no_rules : (settings : List ℕ) → AtMost16 (fresh_with settings)
unfolding zero_words tabulate
no_rules settings = record { mms = omega arith; goose = omega arith; sv = omega arith }

counts_called : (m : Monitor) (c : Call) → AtMost16 m → AtMost16 (called m c)
unfolding reset_monitor
counts_called m (setting s) h = counts_set m s h
counts_called m (mms f) h = counts_kept (mms_inspects m f).same h
counts_called m (goose f) h = counts_kept (goose_inspects m f).same h
counts_called m (sv f) h = counts_kept (sv_inspects m f).same h
counts_called m (raw_sv octets time) h = counts_kept (raw_inspects m octets time).same h
counts_called m reset h = no_rules m.settings

counts_after : (m : Monitor) (calls : List Call) → AtMost16 m → AtMost16 (after_calls m calls)
counts_after m [] h = h
counts_after m (c ∷ calls) h = counts_after (called m c) calls (counts_called m c h)

pub rule_counts_hold : RuleCountsHold
rule_counts_hold strict calls = counts_after (new_monitor strict) calls (no_rules (new_settings strict))

-- ---- totals and alert numbers

-- a number of the monitor that each call adds to, and a reset sets to the first
module _ (reduce : ℕ → ℕ) (first : ℕ) (number : Monitor → ℕ) (adds : Monitor → Call → ℕ)
    (step : (m : Monitor) (c : Call) → Sized m → (n : ℕ) → number m ≡ reduce n → number (called m c) ≡ reduce (unless_reset c first (n + adds m c)))
  where
    counts_from :
        (m : Monitor) (n : ℕ) (calls : List Call)
        → Sized m → number m ≡ reduce n → number (after_calls m calls) ≡ reduce (count_from adds first m n calls)
    counts_from m n [] z e = e
    counts_from m n (c ∷ calls) z e = counts_from (called m c) (unless_reset c first (n + adds m c)) calls (called_sized m c z) (step m c z n e)

within : (n : ℕ) → n < 2 ^ 64 → (n ≡ saturating n) × (n ≡ wrapping n)
within n h = (omega arith, omega arith)

pub totals_count : TotalsCount
totals_count = (
  λ m calls z h. counts_from saturating 0 mms_total_inspected (λ m c. (frames_of c).0) (λ m c z. (stepped m c z.totals).mms) m _ calls z (within _ h).0,
  λ m calls z h. counts_from saturating 0 goose_total_inspected (λ m c. (frames_of c).1) (λ m c z. (stepped m c z.totals).goose) m _ calls z (within _ h).0,
  λ m calls z h. counts_from saturating 0 sv_total_inspected (λ m c. (frames_of c).2) (λ m c z. (stepped m c z.totals).sv) m _ calls z (within _ h).0,
  λ m calls z h. counts_from saturating 0 total_alerts alert_count (λ m c z. (stepped m c z.totals).total) m _ calls z (within _ h).0,
)

numbers_from_lem : (m : Monitor) (n : ℕ) (calls : List Call) → Sized m → next_number m ≡ wrapping n → alert_numbers m calls ≡ consecutive m n calls
numbers_from_lem m n [] z e = refl
numbers_from_lem m n (c ∷ calls) z e =
    let s = stepped m c z.totals in
    rw (s.numbers n e, numbers_from_lem (called m c) (unless_reset c 1 (n + alert_count m c)) calls (called_sized m c z) (s.next n e))

pub alert_numbers_consecutive : AlertNumbersConsecutive
alert_numbers_consecutive m calls z h = (
  numbers_from_lem m (next_number m) calls z (within _ h).1,
  counts_from wrapping 1 next_number alert_count (λ m c z. (stepped m c z.totals).next) m _ calls z (within _ h).1,
)

-- ---- refused calls

-- an answer that equals a defined one, and what holds of that
pub answer_has :
    {A : Type 0} (P : A → Type 0) {m : Monitor} {answer : A} {s : After A}
    → record { monitor = m; answer = answer } ≡ s → P s.answer → (record { monitor = m; answer = answer } ≡ s) × P answer
answer_has {A = A} P e h = (e, rw (ap (λ (x : After A). x.answer) e) h)

pub refusal_numbers : RefusalNumbers
unfolding mms_added_on goose_added_on sv_added_on mms_added goose_added sv_added
refusal_numbers m = (λ mask on rate. add_numbers _ _, λ address name. add_numbers _ _, λ address svid rate. add_numbers _ _)

-- the answer is the decoder's
error_of : (m : Monitor) (p : Result SvFrame VsError) {e : VsError} → (parsed_inspected m p).answer.answer ≡ Err e → p ≡ Err e
error_of m (Ok f) h = absurd (cc)
error_of m (Err x) h = cc

module _ (m : Monitor) (octets : List ℕ) (time : ℕ) (e : VsError) (h : (inspect_raw_sv m octets time).answer.answer ≡ Err e) where
  unreadable : inspect_raw_sv m octets time ≡ parsed_inspected m (Err e)
  unfolding inspect_raw_sv
  unreadable = ap (parsed_inspected m) (error_of m (sv_frame octets time) h)

pub raw_refusals : RawRefusals
unfolding inspect_raw_sv
raw_refusals m octets time = go (sv_frame octets time) (sv_answers octets time)
  where
    go : (p : Result SvFrame VsError) → ValuesOr 9 (answer_row p) → ValuesOr 9 (answer_row (parsed_inspected m p).answer.answer)
    go (Ok f) v = v
    go (Err x) v = v

pub refused_changes_nothing : RefusedChangesNothing
unfolding mms_added_on goose_added_on sv_added_on mms_added goose_added sv_added
refused_changes_nothing m c (mms_rule_error mask on rate e h) = not_added (with_mms_rules m) _ _ _ e h
refused_changes_nothing m c (goose_publisher_error mac name e h) = not_added (with_goose_publishers m) _ _ _ e h
refused_changes_nothing m c (sv_publisher_error mac svid rate e h) = not_added (with_sv_publishers m) _ _ _ e h
refused_changes_nothing m c (raw_frame_error octets time e h) = ap (λ (r : After RawSv). r.monitor) (unreadable m octets time e h)

pub refused_left_out : RefusedLeftOut
refused_left_out m [] c further h = ap (λ (left : Monitor). after_calls left further) (refused_changes_nothing m c h)
refused_left_out m (b ∷ before) c further h = refused_left_out (called m b) before c further h

pub unreadable_not_allowed : UnreadableNotAllowed
unreadable_not_allowed m octets time e h = ap (λ (r : After RawSv). r.answer.result) (unreadable m octets time e h)
