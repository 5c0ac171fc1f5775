-- The rows of numbers of a search's answer, of errors and of answers are injective.
use Rattle.std.proofs.Common.{◌≡◌, ℕ, Option, Some, None, Result, Ok, Err, refl, ap}
use Rattle.records.specs.declared.error.VsError.{VsError}
use Rattle.records.specs.Row.{error_row, answer_row}
use Rattle.records.specs.Search.{found_row}
use Rattle.records.proofs.NumberLaws.{error_injective}

pub found_row_injective : (a b : Option ℕ) → found_row a ≡ found_row b → a ≡ b
found_row_injective (Some i) (Some j) e = cc
found_row_injective (Some i) None e = cc
found_row_injective None (Some j) e = cc
found_row_injective None None e = refl

pub error_row_injective : (a b : VsError) → error_row a ≡ error_row b → a ≡ b
error_row_injective a b e = error_injective a b (cc)

-- what an answer's row tells, whatever its value: that it is one, or the error
abbrev pub outcome : {T : Type 0} → Result T VsError → Result (Unit {0}) VsError
outcome (Ok x) = Ok tt
outcome (Err e) = Err e

pub answer_row_tells : {T : Type 0} (a b : Result T VsError) → answer_row a ≡ answer_row b → outcome a ≡ outcome b
answer_row_tells (Ok x) (Ok y) e = refl
answer_row_tells (Ok x) (Err y) e = cc
answer_row_tells (Err x) (Ok y) e = cc
answer_row_tells (Err x) (Err y) e = ap Err (error_row_injective x y e)

pub answer_row_injective : (a b : Result (Unit {0}) VsError) → answer_row a ≡ answer_row b → a ≡ b
answer_row_injective (Ok x) (Ok y) e = refl
answer_row_injective (Ok x) (Err y) e = cc
answer_row_injective (Err x) (Ok y) e = cc
answer_row_injective (Err x) (Err y) e = ap Err (error_row_injective x y e)
