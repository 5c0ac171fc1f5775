-- The rows of numbers of the checks' answers are injective.
use Prim.Native.Nat.{ℕ}
use mathlib.Core.List.{List, [], ◌∷◌}
use mathlib.Core.Path.{◌≡◌, refl}
use lib.ListN.{get_or}
use Rattle.std.specs.Prelude.{Result, Ok, Err}
use Rattle.records.proofs.NumberLaws.{read_back}
use Rattle.checks.specs.declared.sv_publisher.PublisherMismatch.{PublisherMismatch}
use Rattle.checks.specs.declared.sv_publisher.PublisherMismatch.TheVariants.{NotRegistered, WrongAddress}
use Rattle.checks.specs.declared.sv_seq.SvSeqOutcome.{SvSeqOutcome}
use Rattle.checks.specs.declared.sv_seq.SvSeqOutcome.TheVariants.{FirstSeen, Replay, ForwardGap, CycleWrap, SuspiciousSmpGap}
use Rattle.checks.specs.SvPublisher.{publisher_match_row}
use Rattle.checks.specs.SvSeq.{outcome_row}

pub publisher_match_row_injective : (a b : Result ℕ PublisherMismatch) → publisher_match_row a ≡ publisher_match_row b → a ≡ b
publisher_match_row_injective (Err NotRegistered) (Err NotRegistered) e = refl
publisher_match_row_injective (Err NotRegistered) (Err WrongAddress) e = cc
publisher_match_row_injective (Err NotRegistered) (Ok j) e = cc
publisher_match_row_injective (Err WrongAddress) (Err NotRegistered) e = cc
publisher_match_row_injective (Err WrongAddress) (Err WrongAddress) e = refl
publisher_match_row_injective (Err WrongAddress) (Ok j) e = cc
publisher_match_row_injective (Ok i) (Err NotRegistered) e = cc
publisher_match_row_injective (Ok i) (Err WrongAddress) e = cc
publisher_match_row_injective (Ok i) (Ok j) e = cc

-- the outcome of a row
abbrev outcome_of : List ℕ → SvSeqOutcome
outcome_of row =
    get_or (FirstSeen ∷ Replay ∷ ForwardGap (get_or row 1 0) ∷ CycleWrap ∷ SuspiciousSmpGap (get_or row 1 0) ∷ []) (get_or row 0 0) FirstSeen

outcome_back : (a : SvSeqOutcome) → outcome_of (outcome_row a) ≡ a
outcome_back FirstSeen = refl
outcome_back Replay = refl
outcome_back (ForwardGap gap) = refl
outcome_back CycleWrap = refl
outcome_back (SuspiciousSmpGap gap) = refl

pub outcome_row_injective : (a b : SvSeqOutcome) → outcome_row a ≡ outcome_row b → a ≡ b
outcome_row_injective = read_back outcome_row outcome_of outcome_back
