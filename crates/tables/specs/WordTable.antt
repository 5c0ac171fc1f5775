-- Tables of words as tables by key: a key of a kind, by name or by number, and a value in some columns behind the keys.
use Rattle.std.specs.Prelude.{ℕ, ◌+◌, ◌*◌, List, [], ◌∷◌, ◌++◌}
use Rattle.tables.specs.Column.{word_of, word_set}
use Rattle.tables.specs.Order.{rank_of, used_slot}
use Rattle.tables.specs.Place.{KeyColumns}
use Rattle.tables.specs.Table.{Columns}

-- how a value is kept: as the words of so many columns, and read back from them
pub record Encoding (W : Type 0) : Type 0 where
  pub count : ℕ
  pub words : W → List ℕ
  pub read : (ℕ → ℕ) → W

-- word k of a slot's value, in the columns from one on
abbrev pub value_word : List ℕ → ℕ → ℕ → ℕ → ℕ
value_word t column slot k = word_of t (k * 16 + column) slot

-- words of a slot set, in a column and those behind it
abbrev pub value_set : List ℕ → ℕ → ℕ → List ℕ → List ℕ
value_set t column slot [] = t
value_set t column slot (v ∷ vs) = value_set (word_set t column slot v) (column + 16) slot vs

-- the table of keys of a kind with values so kept
abbrev pub word_table : {K W : Type 0} → KeyColumns K → Encoding W → Columns (List ℕ) K W
word_table keys encoding =
    record {
      rank = rank_of;
      matches = keys.matches;
      value = λ t i. encoding.read (value_word t keys.values i);
      store = λ t i k w. value_set (used_slot (keys.stored t i k) i) keys.values i (encoding.words w);
    }

-- a number in one column
abbrev pub one_number : Encoding ℕ
one_number = record { count = 1; words = λ w. w ∷ []; read = λ f. f 0 }

-- two values, the second in the columns behind the first's
abbrev pub both : {A B : Type 0} → Encoding A → Encoding B → Encoding (A × B)
both a b =
    record {
      count = a.count + b.count;
      words = λ w. a.words w.0 ++ b.words w.1;
      read = λ f. (a.read f, b.read (λ k. f (k + a.count)));
    }

abbrev pub two_numbers : Encoding (ℕ × ℕ)
two_numbers = both one_number one_number

abbrev pub three_numbers : Encoding ((ℕ × ℕ) × ℕ)
three_numbers = both two_numbers one_number
