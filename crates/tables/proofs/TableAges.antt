-- A table in which a new key takes the slot that 01's wrapping age gives it is the table of ranks, for histories of up to 4,294,967,295 frames.
use Rattle.std.proofs.Common.{◌≡◌, ℕ, ◌+◌, ◌^◌, ◌<◌, ◌≤◌, leb, List, [], ◌∷◌, length, sym, refl, ap, ◌∙◌, arith}
use mathlib.Core.List.{foldl}
use Rattle.records.proofs.KeyedLists.{All}
use Rattle.records.proofs.SearchLaws.{first_same}
use Rattle.records.specs.Remembered.{after}
use Rattle.records.specs.Search.{slot_or}
use Rattle.tables.proofs.RankTable.{Table, rank, Represents, represents_none, target_below, next, represents_stepped}
use Rattle.tables.proofs.WrappingAgeHolds.{Agrees, agrees_none, agrees_used, agreed}
use Rattle.tables.specs.Order.{new_slot}
use Rattle.tables.specs.Table.{slot_of, value_of, target}
use Rattle.tables.specs.WrappingAge.{Ticks, no_ticks, ticked, EqualAges, target_by_age, stepped_by_age}

-- the choice of a slot goes by the ranks of the sixteen
new_slot_same : (f g : ℕ → ℕ) → ((i : ℕ) → i < 16 → f i ≡ g i) → new_slot f ≡ new_slot g
unfolding new_slot
new_slot_same f g e = ap (slot_or 15) (first_same (λ i. leb 15 (f i)) (λ i. leb 15 (g i)) 0 15 (λ j l. ap (leb 15) (e j (omega arith))))

module _ {K W I : Type 0} (B : Table K W) (dec : Discrete K) (rule : EqualAges) (fresh : I → W) (step : W → I → W) where
  abbrev by_age : B.State × Ticks → K × I → B.State × Ticks
  by_age = stepped_by_age B.columns rule fresh step

  -- a table whose ranks agree with its ticks
  same_tables : (h : List (K × I)) {t : B.State} {l : List (K × W)} {f : ℕ → ℕ} {ticks : Ticks} → Represents B t l → Agrees f ticks
      → ((i : ℕ) → i < 16 → rank B t i ≡ f i) → All (λ x. B.Legal x.0) h → length h + ticks.tick < 2 ^ 32
      → (foldl by_age (t, ticks) h).0 ≡ foldl (next B fresh step) t h
  same_tables [] r a e g n = refl
  same_tables (x ∷ h) {t} {l} {f} {ticks} r a e g n =
      let s = target B.columns t x.0 in
      let b = target_below B t x.0 in
      let p : target_by_age B.columns rule fresh step (t, ticks) x.0 ≡ s =
      ap (λ (o : ℕ). slot_or o (slot_of B.columns t x.0)) (sym (agreed a rule) ∙ sym (new_slot_same (rank B t) f e)) in
      ap (λ (u : B.State × Ticks). (foldl by_age u h).0) (ap (λ (o : ℕ).
      (B.columns.store t o x.0 (after fresh step (value_of B.columns t x.0) x.1), ticked ticks o)) p)
      ∙ (same_tables h (represents_stepped B fresh step dec r x g.0) (agrees_used a s b (omega arith))
      (λ i l. (B.stored t s x.0 _ r.sized g.0 b).uses i l ∙ rw (e s b, e i l)) g.1 (omega arith))

  -- from a table without entries
  pub table_by_age : (t : B.State) → B.Sized t → ((i : ℕ) → i < 16 → rank B t i ≡ 16) → (h : List (K × I)) → All (λ x. B.Legal x.0) h
      → length h ≤ 4294967295 → (foldl by_age (t, no_ticks) h).0 ≡ foldl (next B fresh step) t h
  table_by_age t z e h g n = same_tables h (represents_none B t z e) agrees_none e g (omega arith)
