-- The order of use of a table's sixteen slots (01, "Remembered tables": a full table gives up its oldest entry; request 9: the order is stored). A
-- slot's rank is 0 where it was used last, up to 15, and 16 where it is free. A table is a list of words; the first two have the ranks, eight
-- octets each.
use Rattle.std.specs.Prelude.{ℕ, ◌+◌, ◌-◌, ◌/◌, ◌%◌, ◌^◌, Bool, cond, not, ◌&&◌, List, ◌==◌, nat_le, nat_lt, slice_index, slice_set, Option}
use Rattle.records.specs.Octets.{tabulate}
use Rattle.records.specs.Search.{first, first_from, slot_or}
use Rattle.tables.specs.Packed.{packed, updated}

-- whether a slot is in use
abbrev pub in_use : (ℕ → ℕ) → ℕ → Bool
in_use rank slot = nat_lt (rank slot) 16

-- the first free slot
unfoldable pub free_slot : (ℕ → ℕ) → Option ℕ
free_slot rank = first (λ i. not (in_use rank i))

-- the slot that a new key takes: the first of rank 15 or more, which is free or else the oldest; where none of the first fifteen is, the last
unfoldable pub new_slot : (ℕ → ℕ) → ℕ
new_slot rank = slot_or 15 (first_from (λ i. nat_le 15 (rank i)) 0 15)

-- a use raises the ranks below that of the slot that is used
abbrev pub raised : ℕ → ℕ → ℕ
raised old rank = cond (nat_lt rank old) (rank + 1) rank

-- an entry that is forgotten (request 14) lowers the ranks above its own, but for those of free slots
abbrev pub lowered : ℕ → ℕ → ℕ
lowered old rank = cond (nat_lt old rank && nat_lt rank 16) (rank - 1) rank

-- the ranks after a use of a slot
abbrev pub used_rank : (ℕ → ℕ) → ℕ → ℕ → ℕ
used_rank rank slot = updated (λ i. raised (rank slot) (rank i)) slot 0

-- the ranks after the entry of a slot is forgotten
abbrev pub forgotten_rank : (ℕ → ℕ) → ℕ → ℕ → ℕ
forgotten_rank rank slot = updated (λ i. lowered (rank slot) (rank i)) slot 16

-- ---- the words of a table

-- a rank in a word: the low seven bits of an octet, so that every word has an answer
abbrev pub rank_in : ℕ → ℕ → ℕ
rank_in word place = word / 256 ^ place % 128

-- the rank of a slot
unfoldable pub rank_of : List ℕ → ℕ → ℕ
rank_of t slot = rank_in (slice_index t (slot / 8)) (slot % 8)

-- the ranks of a table replaced
unfoldable pub reranked : List ℕ → (ℕ → ℕ) → List ℕ
reranked t rank = slice_set (slice_set t 0 (packed rank 8)) 1 (packed (λ i. rank (8 + i)) 8)

-- the rank of a slot set; a slot of 16 or more changes nothing
unfoldable pub rank_set : List ℕ → ℕ → ℕ → List ℕ
rank_set t slot r = cond (nat_lt slot 16) (reranked t (updated (rank_of t) slot r)) t

-- a slot used; a slot of 16 or more changes nothing, and so does the slot that was used last
unfoldable pub used_slot : List ℕ → ℕ → List ℕ
used_slot t slot = cond (nat_lt slot 16 && not (rank_of t slot == 0)) (reranked t (used_rank (rank_of t) slot)) t

-- the entry of a slot forgotten; a slot that is free, or of 16 or more, changes nothing
unfoldable pub forgotten_slot : List ℕ → ℕ → List ℕ
forgotten_slot t slot = cond (nat_lt slot 16 && in_use (rank_of t) slot) (reranked t (forgotten_rank (rank_of t) slot)) t

-- the word of eight free slots
abbrev pub free_word : ℕ
free_word = 0x1010101010101010

-- a table of n words without entries: every slot free, every other word 0
unfoldable pub no_entries : ℕ → List ℕ
no_entries n = tabulate (λ k. cond (nat_lt k 2) free_word 0) n

-- whether a table's words of ranks are those of free slots
unfoldable pub all_free : List ℕ → Bool
all_free t = slice_index t 0 == free_word && slice_index t 1 == free_word
