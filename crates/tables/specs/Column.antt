-- The words of a slot in the columns of single words, sixteen of them, one for each slot.
use Rattle.std.specs.Prelude.{ℕ, ◌+◌, cond, List, nat_lt, slice_index, slice_set}
use Rattle.records.specs.Octets.{tabulate}

-- the word of a slot in the column that begins at a place; a slot of 16 or more has 0
unfoldable pub word_of : List ℕ → ℕ → ℕ → ℕ
word_of t column slot = cond (nat_lt slot 16) (slice_index t (column + slot)) 0

-- that word set; a slot of 16 or more changes nothing
unfoldable pub word_set : List ℕ → ℕ → ℕ → ℕ → List ℕ
word_set t column slot v = cond (nat_lt slot 16) (slice_set t (column + slot) v) t

-- n words that are 0: no rules, nothing counted
unfoldable pub zero_words : ℕ → List ℕ
zero_words n = tabulate (λ k. 0) n
