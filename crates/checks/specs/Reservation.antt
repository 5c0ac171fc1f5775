-- Reservations (01, "Remembered tables": keyed by name and kind, GOOSE or SV).
use Rattle.std.specs.Prelude.{ℕ, ◌+◌, Bool, true, false, ◌&&◌, not, cond, List, eqb, get_or, Option, Some, None}
use Rattle.records.specs.Search.{first}
use Rattle.tables.specs.Column.{word_of, word_set}
use Rattle.tables.specs.Named.{named}
use Rattle.tables.specs.Order.{rank_of, in_use, rank_set, reranked, free_slot}
use Rattle.tables.specs.Place.{found}

-- a slot with a client's reservation that is not bound; it is in use, with rank 0
unfoldable pub taken_at : List ℕ → ℕ → List ℕ → ℕ → List ℕ
taken_at t i key client = word_set (word_set (word_set (rank_set (named.stored t i key) i 0) 162 i client) 178 i 0) 194 i 0

-- the slot that a SelectControl takes: the one of that name and kind, taken over, or the first free one
abbrev pub place_or : Option ℕ → Option ℕ → Option ℕ
place_or (Some i) free = Some i
place_or None free = free

unfoldable pub place_for : List ℕ → List ℕ → Option ℕ
place_for t key = place_or (found named t key) (free_slot (rank_of t))

-- the reservations after a SelectControl, and whether it took one
pub record Reserved : Type 0 where
  pub table : List ℕ
  pub taken : Bool

abbrev pub reserved_at : List ℕ → List ℕ → ℕ → Option ℕ → Reserved
reserved_at t key client (Some i) = record { table = taken_at t i key client; taken = true }
reserved_at t key client None = record { table = t; taken = false }

-- SelectControl takes or takes over a name, the empty one too, and unbinds it; a full table is left as it is
unfoldable pub reserved : List ℕ → List ℕ → ℕ → Reserved
reserved t key client = reserved_at t key client (place_for t key)

-- whether a slot's client is this one
abbrev pub owned_by : List ℕ → ℕ → ℕ → Bool
owned_by t client i = eqb (get_or t (162 + i) 0) client

-- the first slot in use with a client's reservation of a name and kind
unfoldable pub owned_slot : List ℕ → List ℕ → ℕ → Option ℕ
owned_slot t key client = first (λ i. named.matches t key i && (in_use (rank_of t) i && owned_by t client i))

-- that slot freed, if there is one
abbrev pub freed_slot : List ℕ → Option ℕ → List ℕ
freed_slot t (Some i) = rank_set t i 16
freed_slot t None = t

-- the rank of a slot, 16 if its client is this one
abbrev pub freed_rank : List ℕ → ℕ → ℕ → ℕ
freed_rank t client i = cond (owned_by t client i) 16 (rank_of t i)

-- every slot of a client freed
unfoldable pub all_freed : List ℕ → ℕ → List ℕ
all_freed t client = reranked t (freed_rank t client)

-- Cancel or Conclude frees a name of the same client, with an empty name all of that client's of both kinds
unfoldable pub released : List ℕ → List ℕ → ℕ → List ℕ
released t key client = cond (eqb (get_or key 1 0) 0) (all_freed t client) (freed_slot t (owned_slot t key client))

-- the reservations after a frame's use of its control block, and whether this is bound to another address
pub record CbChecked : Type 0 where
  pub table : List ℕ
  pub hijack : Bool

-- the first address to use a reservation is bound; another is a hijack
unfoldable pub bound_at : List ℕ → ℕ → ℕ → CbChecked
bound_at t i address =
    cond (eqb (word_of t 178 i) 0)
    (record { table = word_set (word_set t 178 i 1) 194 i address; hijack = false })
    (record { table = t; hijack = not (eqb (word_of t 194 i) address) })

abbrev pub bound_by : List ℕ → ℕ → Option ℕ → CbChecked
bound_by t address None = record { table = t; hijack = false }
bound_by t address (Some i) = bound_at t i address

-- an empty name in a GOOSE or SV frame is never looked up
unfoldable pub cb_checked : List ℕ → List ℕ → ℕ → CbChecked
cb_checked t key address = cond (eqb (get_or key 1 0) 0) (record { table = t; hijack = false }) (bound_by t address (found named t key))
