-- Tables by number (01, "Remembered tables": clocks by address; "Bucket": buckets by invoke id). Ranks, numbers from word 2 on, values from 18 on.
use Rattle.std.specs.Prelude.{ℕ, ◌+◌, Bool, List, ◌==◌, slice_index}
use Rattle.tables.specs.Column.{word_set}
use Rattle.tables.specs.Place.{KeyColumns}

-- whether one of the sixteen slots has this number
abbrev pub has_number : List ℕ → ℕ → ℕ → Bool
has_number t number slot = slice_index t (2 + slot) == number

-- a number stored in a slot; a slot of 16 or more changes nothing
abbrev pub number_stored : List ℕ → ℕ → ℕ → List ℕ
number_stored t slot number = word_set t 2 slot number

abbrev pub numbered : KeyColumns ℕ
numbered = record { matches = has_number; stored = number_stored; values = 18 }
