-- What an inspection's result answers: its alerts' codes in their order, and allowed unless one of them refuses or denies.
use Prim.Native.Nat.{ℕ, ◌+◌, ◌≤◌, ◌<◌}
use mathlib.Core.Bool.{Bool, true, ◌&&◌, not}
use mathlib.Core.List.{List, [], ◌∷◌, ◌++◌, foldl}
use mathlib.Core.Path.{◌≡◌, refl, ◌∙◌}
use native.Mathlib.Omega.{arith}
use borrow.Author.Tests.{lt-ltb}
use lib.ListN.{length, length-append, length-set}
use Rattle.records.specs.declared.alert.CodedAlert.{CodedAlert}
use Rattle.records.specs.declared.result.Pushed.{Pushed}
use Rattle.records.specs.Alert.{denies, code_number, alert_of}
use Rattle.records.specs.Result.{clean_result, allowed_with, with_alert, pushed}
use Rattle.monitor.specs.Totals.{alert_counters}
use Rattle.inspection.specs.declared.report.Finding.{Finding}
use Rattle.inspection.specs.Report.{Checked, reported_next, alerts_pushed, reported}
use Rattle.inspection.proofs.ReportLaws.{slots_more}
use Rattle.demand3.specs.Demand3.{Answer, answer_of}

-- an answer with the findings behind it
abbrev pub answer_from : Bool → List ℕ → List Finding → Answer
answer_from allowed codes [] = (allowed, codes)
answer_from allowed codes (a ∷ rest) = answer_from ((allowed && not a.refuses) && not (denies a.severity)) (codes ++ code_number a.code ∷ []) rest

pub length_codes : (allowed : Bool) (codes : List ℕ) (findings : List Finding) → length (answer_from allowed codes findings).1 ≡ length codes + length findings
length_codes allowed codes [] = omega arith
length_codes allowed codes (a ∷ rest) =
    length_codes ((allowed && not a.refuses) && not (denies a.severity)) (codes ++ code_number a.code ∷ []) rest ∙ simp length-append (omega arith)

abbrev code : CodedAlert → ℕ
code a = code_number a.code

module _ (source source_number time : ℕ) where
  -- a result with slots for all findings
  answer_reported :
      (p : Pushed) (findings : List Finding)
      → length p.result.alerts ≡ 4 → p.result.alert_count + length findings ≤ 4
      → answer_of (foldl (reported_next source source_number time) p findings).result ≡ answer_from p.result.allowed (answer_of p.result).1 findings
  unfolding pushed with_alert allowed_with alert_of
  answer_reported p [] size h = refl
  answer_reported p (a ∷ rest) size h =
      let r = p.result in
      let w : r.alert_count < 4 = omega arith in
      let q = reported_next source source_number time p a in
      let full = lt-ltb r.alert_count 4 w in
      answer_reported q rest (rw full (length-set r.alerts r.alert_count _ ∙ size)) (rw full (omega arith))
      ∙ rw (full, slots_more code r.alerts r.alert_count _ (omega arith))

  pub reported_answer : (c : Checked) → length c.answer ≤ 4 → answer_of (reported source source_number time c).answer ≡ answer_from true [] c.answer
  unfolding reported alerts_pushed clean_result
  reported_answer c h = answer_reported (record { result = clean_result source; counters = alert_counters c.monitor }) c.answer refl (omega arith)
