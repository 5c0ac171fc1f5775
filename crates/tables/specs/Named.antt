-- Tables by name (01, "Remembered tables": SV streams by svID, reservations by name and kind; request 8: GOOSE streams by address and name). Ranks, sums
-- from word 2 on, lengths from 18 on, names of eight words each from 34 on, values from 162 on. A key is ten words, a sum, a length and the
-- eight words of a name (Key). The lists of publishers have the same key columns at another start.
use Rattle.std.specs.Prelude.{ℕ, ◌+◌, ◌*◌, Bool, cond, ◌&&◌, List, ◌==◌, nat_lt, slice_index, slice_set}
use Rattle.records.specs.Octets.{agree, overwritten}
use Rattle.tables.specs.Place.{KeyColumns}

-- whether a slot has this key, in key columns from a start on; a slot of 16 or more has none
unfoldable pub has_key : ℕ → List ℕ → List ℕ → ℕ → Bool
has_key start t key slot =
    nat_lt slot 16
    && (slice_index t (start + slot) == slice_index key 0
    && (slice_index t (start + 16 + slot) == slice_index key 1 && agree (λ k. slice_index t (start + 32 + slot * 8 + k)) (λ k. slice_index key (k + 2)) 8))

-- a key stored in a slot; a slot of 16 or more changes nothing
unfoldable pub key_stored : ℕ → List ℕ → ℕ → List ℕ → List ℕ
key_stored start t slot key =
    cond (nat_lt slot 16)
    (overwritten (slice_set (slice_set t (start + slot) (slice_index key 0)) (start + 16 + slot) (slice_index key 1)) (start + 32 + slot * 8)
    (λ k. slice_index key (k + 2)) 8) t

abbrev pub named : KeyColumns (List ℕ)
named = record { matches = has_key 2; stored = key_stored 2; values = 162 }
