-- The rows of numbers of the checks' alerts and of the rules' answer are injective.
use Prim.Native.Nat.{ℕ}
use mathlib.Core.Bool.{cond}
use mathlib.Core.List.{List, [], ◌∷◌, tail-eq_of_cons-eq}
use mathlib.Core.Path.{◌≡◌, refl, ap}
use lib.Dec.{eqb, ltb}
use lib.ListN.{get_or}
use Rattle.std.proofs.Common.{Result, Ok, Err}
use Rattle.records.proofs.NumberLaws.{read_back}
use Rattle.inspection.specs.declared.report.CheckAlert.{CheckAlert}
use Rattle.inspection.specs.declared.report.CheckAlert.TheVariants.{ServiceMasked, WriteRefused, OverRate, NoRule, ReservationsFull}
use Rattle.inspection.specs.declared.report.CheckAlert.TheVariants.{TestBlocked, UnknownPublisher, BoundElsewhere, ClockAlert}
use Rattle.inspection.specs.declared.report.CheckAlert.TheVariants.{GooseReplay, Retransmission, WrongIed, UnknownSvid, CountReplay, CountGap}
use Rattle.inspection.specs.declared.report.CheckAlert.TheVariants.{SuspiciousCount, RateMismatch}
use Rattle.inspection.specs.Report.{finding_of, refusal_number, check_alert_row, rule_check_row}

-- the alerts that do not refuse by their code, and all by their number among the refusals
abbrev not_refusing : ℕ → CheckAlert
not_refusing code =
    cond (eqb code 23) ReservationsFull (cond (eqb code 27) SuspiciousCount Retransmission)

abbrev by_number : ℕ → List CheckAlert
by_number code =
    not_refusing code ∷ ServiceMasked ∷ ServiceMasked ∷ ServiceMasked ∷ ServiceMasked ∷ WriteRefused ∷ WriteRefused ∷ OverRate ∷ NoRule ∷ TestBlocked ∷ UnknownPublisher
    ∷ BoundElsewhere ∷ ClockAlert ∷ GooseReplay ∷ WrongIed ∷ UnknownSvid ∷ BoundElsewhere ∷ ClockAlert ∷ CountReplay ∷ CountGap ∷ RateMismatch ∷ []

abbrev alert_of_row : List ℕ → CheckAlert
alert_of_row row = get_or (by_number (get_or row 2 0)) (get_or row 0 0) ServiceMasked

alert_back : (a : CheckAlert) → (alert_of_row (check_alert_row a) ≡ a) × ((finding_of a).refuses ≡ ltb 0 (refusal_number a))
alert_back ServiceMasked = (refl, refl)
alert_back WriteRefused = (refl, refl)
alert_back OverRate = (refl, refl)
alert_back NoRule = (refl, refl)
alert_back ReservationsFull = (refl, refl)
alert_back TestBlocked = (refl, refl)
alert_back UnknownPublisher = (refl, refl)
alert_back BoundElsewhere = (refl, refl)
alert_back ClockAlert = (refl, refl)
alert_back GooseReplay = (refl, refl)
alert_back Retransmission = (refl, refl)
alert_back WrongIed = (refl, refl)
alert_back UnknownSvid = (refl, refl)
alert_back CountReplay = (refl, refl)
alert_back CountGap = (refl, refl)
alert_back SuspiciousCount = (refl, refl)
alert_back RateMismatch = (refl, refl)

pub check_alert_row_injective : (a b : CheckAlert) → check_alert_row a ≡ check_alert_row b → a ≡ b
check_alert_row_injective = read_back check_alert_row alert_of_row (λ a. (alert_back a).0)

-- an alert refuses the frame where it has a number among the refusals
pub refuses_numbered : (a : CheckAlert) → (finding_of a).refuses ≡ ltb 0 (refusal_number a)
refuses_numbered a = (alert_back a).1

pub rule_check_row_injective : (a b : Result ℕ CheckAlert) → rule_check_row a ≡ rule_check_row b → a ≡ b
rule_check_row_injective (Ok r) (Ok s) e = cc
rule_check_row_injective (Ok r) (Err y) e = cc
rule_check_row_injective (Err x) (Ok s) e = cc
rule_check_row_injective (Err x) (Err y) e = ap Err (check_alert_row_injective x y (tail-eq_of_cons-eq e))
