-- The search for a slot (01, "Forms to change": a search that stops at its first hit and yields that place).
use Rattle.std.specs.Prelude.{ℕ, zero, suc, Bool, true, false, cond, List, [], ◌∷◌, Option, Some, None}

-- the answer as a row: 1 and the slot, or 0
abbrev pub found_row : Option ℕ → List ℕ
found_row (Some i) = 1 ∷ i ∷ []
found_row None = 0 ∷ []

-- the first slot, of the n from i on, that passes the test
unfoldable pub first_from : (ℕ → Bool) → ℕ → ℕ → Option ℕ
first_from test i zero = None
first_from test i (suc n) = cond (test i) (Some i) (first_from test (suc i) n)

-- the first of sixteen slots that passes the test
abbrev pub first : (ℕ → Bool) → Option ℕ
first test = first_from test 0 16

-- the slot that was found, or another where there is none
abbrev pub slot_or : ℕ → Option ℕ → ℕ
slot_or other (Some i) = i
slot_or other None = other

-- whether there is such a slot
abbrev pub is_found : Option ℕ → Bool
is_found (Some i) = true
is_found None = false

-- the last of the first n slots that passes the test
unfoldable pub last_below : (ℕ → Bool) → ℕ → Option ℕ
last_below test zero = None
last_below test (suc n) = cond (test n) (Some n) (last_below test n)
