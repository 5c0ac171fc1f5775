-- The tables that give up their oldest entry (01, "Remembered tables"): what a frame finds in one and leaves in it, over key and value.
use Rattle.std.specs.Prelude.{ℕ, Bool, ◌&&◌, Option, Some, None}
use Rattle.std.proofs.Math.Option as maybe
use Rattle.std.proofs.Math.Option.{none, some}
use Rattle.records.specs.Remembered.{after}
use Rattle.records.specs.Search.{first, slot_or}
use Rattle.tables.specs.Order.{in_use, new_slot}

-- the columns of a table: the ranks of its slots, whether a slot has a key, a slot's value, and a key and value stored in a slot, which is a use of it
pub record Columns (T K W : Type 0) : Type 0 where
  pub rank : T → ℕ → ℕ
  pub matches : T → K → ℕ → Bool
  pub value : T → ℕ → W
  pub store : T → ℕ → K → W → T

module _ {T K W : Type 0} (C : Columns T K W) where
  -- the first slot in use that has key k
  abbrev pub slot_of : T → K → Option ℕ
  slot_of t k = first (λ i. C.matches t k i && in_use (C.rank t) i)

  -- the value of a slot that was found
  abbrev pub value_at : T → Option ℕ → maybe.Option W
  value_at t (Some i) = some (C.value t i)
  value_at t None = none

  -- what the table has of key k
  abbrev pub value_of : T → K → maybe.Option W
  value_of t k = value_at t (slot_of t k)

  -- the slot that a frame of key k uses: the one that has the key, or the one that a new key takes
  abbrev pub target : T → K → ℕ
  target t k = slot_or (new_slot (C.rank t)) (slot_of t k)

  -- the table after a frame of key k: a new key begins afresh, a known one's value is replaced; either is a use
  abbrev pub stepped : {I : Type 0} → (I → W) → (W → I → W) → T → K → I → T
  stepped fresh step t k i = C.store t (target t k) k (after fresh step (value_of t k) i)
