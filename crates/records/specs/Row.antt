-- Answers as rows of numbers (01, "Our forms for each place": a definition gives this paper's number and values for each of an enum's cases). A row
-- is 1 and the values of an answer, or 0 and the number of a refusal: the error's, or that in 01's list of refusals. Where 01 puts the cases in an
-- order, as those of a count, it is the case's number and its values.
use Rattle.std.specs.Prelude.{◌≡◌, ℕ, ◌⊎◌, List, [], ◌∷◌, slice_index, Result, Ok, Err}
use Rattle.records.specs.declared.error.VsError.{VsError}
use Rattle.records.specs.Error.{error_number}

-- the row of an error
abbrev pub error_row : VsError → List ℕ
error_row e = 0 ∷ error_number e ∷ []

-- the row of an answer that has no number of its own: 1, or 0 and the error
abbrev pub answer_row : {T : Type 0} → Result T VsError → List ℕ
answer_row (Ok x) = 1 ∷ []
answer_row (Err e) = error_row e

-- a row of values, or of this error
abbrev pub ValuesOr : ℕ → List ℕ → Type 0
ValuesOr error row = (slice_index row 0 ≡ 1) ⊎ (row ≡ 0 ∷ error ∷ [])
