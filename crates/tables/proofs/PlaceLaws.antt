-- Laws of the slot that a frame of a key uses, over the kind of key: one that has the key, and one that a new key takes.
use Rattle.std.proofs.Common.{◌≡◌, ℕ, ◌<◌, Bool, true, false, ◌&&◌, List, refl, ap, ◌∙◌, Option, Some, None}
use Rattle.std.specs.Bool.{then_some}
use Rattle.std.specs.Prelude.{option_map}
use Rattle.records.proofs.Booleans.{and_both, and-false}
use Rattle.records.proofs.SearchLaws.{found_has, first_same}
use Rattle.records.specs.Search.{first_from}
use Rattle.tables.proofs.OrderLaws.{none_in_use}
use Rattle.tables.proofs.RankOrder.{used_below}
use Rattle.tables.specs.declared.place.Place.{Place}
use Rattle.tables.specs.Order.{rank_of, in_use, new_slot, used_slot, all_free}
use Rattle.tables.specs.Place.{KeyColumns, Entered, found, entered, known_of, if_known}

-- a table whose words of ranks are those of free slots has no key
pub none_found_lem : {K : Type 0} (keys : KeyColumns K) (t : List ℕ) (k : K) → all_free t ≡ true → found keys t k ≡ None
unfolding found first_from
none_found_lem keys t k e =
    first_same (λ i. keys.matches t k i && in_use (rank_of t) i) (λ i. false) 0 16
    (λ i l. ap (λ (b : Bool). keys.matches t k i && b) (none_in_use t e i l) ∙ and-false (keys.matches t k i))

module _ {K : Type 0} (keys : KeyColumns K) (t : List ℕ) (k : K) {f : Option ℕ} (s : f ≡ found keys t k) where
  -- a slot that is found is one of the sixteen, and has the key
  pub found_key : {i : ℕ} → f ≡ Some i → (i < 16) × (keys.matches t k i ≡ true)
  unfolding found
  found_key {i} e =
      let b = found_has (λ j. keys.matches t k j && in_use (rank_of t) j) 16 s e in (b.0, (and_both (keys.matches t k i) _ b.1).0)

  -- a known key, whose slot is not changed by storing it
  pub entered_known : ((i : ℕ) → i < 16 → keys.matches t k i ≡ true → keys.stored t i k ≡ t) → {i : ℕ} {out : List ℕ} → f ≡ Some i → out ≡ used_slot t i
      → record { table = out; place = record { slot = i; known = true } } ≡ entered keys t k
  unfolding entered
  entered_known again {i} e u = let b = found_key e in rw (← s, e, again i b.0 b.1, u)

  -- a new key
  pub entered_new : {slot : ℕ} {u out : List ℕ} → f ≡ None → slot ≡ new_slot (rank_of t) → u ≡ keys.stored t slot k → out ≡ used_slot u slot
      → record { table = out; place = record { slot = slot; known = false } } ≡ entered keys t k
  unfolding entered
  entered_new e n u o = rw (← s, e, o, u, n)

-- the slot that a frame used is one of the sixteen
pub entered_below : {K : Type 0} (keys : KeyColumns K) (t : List ℕ) (k : K) {u : List ℕ} {place : Place}
    → record { table = u; place = place } ≡ entered keys t k → place.slot < 16
unfolding entered found
entered_below keys t k {place = place} e =
    let s : place.slot ≡ (entered keys t k).place.slot = ap (λ (x : Entered). x.place.slot) e in
    rw s (used_below (rank_of t) (λ i. keys.matches t k i && in_use (rank_of t) i))

-- a part of a value that is known
pub known_map : {V W : Type 0} (f : V → W) (known : Bool) (v : V) → known_of (option_map f (then_some known v)) ≡ if_known known (f v)
known_map f true v = refl
known_map f false v = refl
