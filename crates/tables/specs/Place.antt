-- The slot that a frame of a key uses, over the kind of key: the one that has the key, or the one that a new key takes.
use Rattle.std.specs.Prelude.{◌≡◌, ℕ, ◌<◌, ◌≤◌, Bool, true, ◌&&◌, List, Option, Some, None}
use Rattle.std.specs.Bool.{then_some}
use Rattle.std.proofs.Math.Option as maybe
use Rattle.std.proofs.Math.Option.{none, some}
use Rattle.records.specs.Search.{first, slot_or, is_found}
use Rattle.tables.specs.declared.place.Place.{Place}
use Rattle.tables.specs.Order.{rank_of, in_use, new_slot, used_slot}

-- a kind of key: whether a slot has one, one stored in a slot, and where the values begin behind the keys
pub record KeyColumns (K : Type 0) : Type 0 where
  pub matches : List ℕ → K → ℕ → Bool
  pub stored : List ℕ → ℕ → K → List ℕ
  pub values : ℕ

-- what a kind of key keeps to: its keys stand behind the ranks, and storing a key in a slot that has it changes nothing
pub record KeyLaws {K : Type 0} (keys : KeyColumns K) : Type 0 where
  pub behind_ranks : 2 ≤ keys.values
  pub again : (t : List ℕ) (k : K) (i : ℕ) → i < 16 → keys.matches t k i ≡ true → keys.stored t i k ≡ t

-- a table after a frame, and the slot that the frame used
pub record Entered : Type 0 where
  pub table : List ℕ
  pub place : Place

-- from what the search for the key found
abbrev pub place_at : (ℕ → ℕ) → Option ℕ → Place
place_at rank found = record { slot = slot_or (new_slot rank) found; known = is_found found }

module _ {K : Type 0} (keys : KeyColumns K) where
  -- the first slot in use that has a key
  unfoldable pub found : List ℕ → K → Option ℕ
  found t k = first (λ i. keys.matches t k i && in_use (rank_of t) i)

  -- a frame of a key: the key stored in the slot that the frame uses, and the slot used
  abbrev pub entered_at : List ℕ → K → Place → Entered
  entered_at t k place = record { table = used_slot (keys.stored t place.slot k) place.slot; place = place }

  unfoldable pub entered : List ℕ → K → Entered
  entered t k = entered_at t k (place_at (rank_of t) (found t k))

-- a value that is known or not, as the lists that are remembered have it
abbrev pub known_of : {W : Type 0} → Option W → maybe.Option W
known_of (Some w) = some w
known_of None = none

-- a value, if the slot had the key before
abbrev pub if_known : {W : Type 0} → Bool → W → maybe.Option W
if_known known w = known_of (then_some known w)
