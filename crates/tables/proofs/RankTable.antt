-- A table of slots and ranks represents the list of its entries by last use; a frame moves both alike.
use Rattle.std.proofs.Common.{◌≡◌, ℕ, ◌<◌, Bool, true, ◌&&◌, ◌≢◌, ◌↔◌, List, [], ◌∷◌, take, sym, refl, ap, ◌∙◌, true≢false, zero-le, arith, take_all, ltb-true, lt-ltb, eq-eqb, ne_eqb, Option, Some, None}
use mathlib.Core.Option.{some}
use native.Mathlib.Decide.{ℕ_discrete}
use lib.ListN.{length-map}
use Rattle.tables.proofs.OrderLaws.{raised_least}
use Rattle.tables.proofs.RankOrder.{Slots, look_slot, without_slot, Order, order_none}
use Rattle.tables.proofs.RankOrder.{in_use_there, there_in_use, order_used, order_short, order_forgotten, new_slot_lem, used_below}
use Rattle.records.proofs.Booleans.{cond_no, and_both, and_yes}
use Rattle.records.proofs.ByLastUse.{touch, touch_distinct}
use Rattle.records.proofs.KeyedLists.{Absent, Distinct, pairwise_without, lookup_absent, absent_without, without_absent}
use Rattle.records.proofs.KeyedLists.{all_found, entries_of, entries_other, entries_absent, entries_take, entries_without, entries_lookup}
use Rattle.records.proofs.SearchLaws.{Searched, hit, miss, searched, first_again}
use Rattle.records.specs.Remembered.{lookup, without, after}
use Rattle.records.specs.Search.{slot_or}
use Rattle.tables.specs.Order.{in_use, new_slot, raised, used_rank, forgotten_rank}
use Rattle.tables.specs.Table.{Columns, slot_of, value_at, value_of, target, stepped}

-- a table: states whose columns have 16 slots, keys that a frame may have, the key of a slot, and two laws: a slot matches the key that it
-- has, and a store to a slot uses it, gives it its key and value, and leaves the others
pub record Table (K W : Type 0) : Type 1 where
  pub State : Type 0
  pub Sized : State → Type 0
  pub Legal : K → Type 0
  pub columns : Columns State K W
  pub key : State → ℕ → K
  pub matched : (t : State) (k : K) (i : ℕ) → Sized t → Legal k → i < 16 → (columns.matches t k i ≡ true) ↔ (k ≡ key t i)
  pub stored : (t : State) (s : ℕ) (k : K) (w : W) → Sized t → Legal k → s < 16 → record {
    sized : Sized (columns.store t s k w);
    uses : (i : ℕ) → i < 16 → columns.rank (columns.store t s k w) i ≡ used_rank (columns.rank t) s i;
    same : (key (columns.store t s k w) s ≡ k) × (columns.value (columns.store t s k w) s ≡ w);
    other : (i : ℕ) → i ≢ s → (key (columns.store t s k w) i ≡ key t i) × (columns.value (columns.store t s k w) i ≡ columns.value t i);
  }

module _ {K W : Type 0} (B : Table K W) where
  abbrev pub rank : B.State → ℕ → ℕ
  rank = B.columns.rank

  -- the key and value of a slot
  abbrev pub entry : B.State → ℕ → K × W
  entry t i = (B.key t i, B.columns.value t i)

  -- the slot that a frame uses is one of the sixteen
  pub target_below : (t : B.State) (k : K) → target B.columns t k < 16
  target_below t k = used_below (rank t) (λ i. B.columns.matches t k i && in_use (rank t) i)

module _ {K W : Type 0} (B : Table K W) where
  -- the entries of the slots in use, the latest used first, are l, and their keys are distinct
  pub record Represents (t : B.State) (l : List (K × W)) : Type 0 where
    pub sized : B.Sized t
    pub order : Slots
    pub ordered : Order (rank B t) order
    pub entries : entries_of (entry B t) order ≡ l
    pub distinct : Distinct l

  pub represents_none : (t : B.State) → B.Sized t → ((i : ℕ) → i < 16 → rank B t i ≡ 16) → Represents t []
  represents_none t z e = record { sized = z; order = []; ordered = order_none e; entries = refl; distinct = tt }

module _ {K W : Type 0} (B : Table K W) (dec : Discrete K) {t : B.State} {l : List (K × W)} (r : Represents B t l) (k : K) (g : B.Legal k) where
  -- the search found the slot of key k, or the list has no such key
  data Located : Option ℕ → Type 0 where
    known : (s : ℕ) → s < 16 → look_slot s r.order ≡ some tt → k ≡ B.key t s → Located (Some s)
    new : Absent k l → Located None

  located : Located (slot_of B.columns t k)
  located = go (searched (λ i. B.columns.matches t k i && in_use (rank B t) i) 0 16)
    where
      go : {f : Option ℕ} → Searched (λ i. B.columns.matches t k i && in_use (rank B t) i) 0 16 f → Located f
      go (hit s h e) = let b = and_both (B.columns.matches t k s) (in_use (rank B t) s) e in known s h (in_use_there r.ordered s h b.1)
          ((B.matched t k s r.sized g h).0 b.0)
      go (miss f) = new (rw r.entries at (entries_absent (entry B t) k r.order (all_found ℕ_discrete _ r.order r.ordered.distinct (λ e q p.
          let u = there_in_use r.ordered e.0 q in
          true≢false (sym (and_yes ((B.matched t k e.0 r.sized g u.0).1 p) u.1) ∙ f e.0 zero-le u.0)))))

  entries_distinct : Distinct (entries_of (entry B t) r.order)
  entries_distinct = rw r.entries r.distinct

  -- the value of key k in the table is the one that the list has
  pub value_lookup : value_of B.columns t k ≡ lookup dec k l
  value_lookup = go located
    where
      go : {f : Option ℕ} → Located f → value_at B.columns t f ≡ lookup dec k l
      go (known s h q e) = rw (← r.entries, e, entries_lookup ℕ_discrete dec (entry B t) s _ r.order q entries_distinct)
      go (new a) = sym (lookup_absent dec k l a)

  -- the entries of the slots other than s are the list without key k, as far as they fit beside it
  abbrev Rest : ℕ → Type 0
  Rest s = (s < 16) × (entries_of (entry B t) (without_slot s r.order) ≡ take 15 (without dec k l))

  target_rest : Rest (target B.columns t k)
  target_rest = go located
    where
      go : {f : Option ℕ} → Located f → Rest (slot_or (new_slot (rank B t)) f)
      go (known s h q e) = (
        h,
        rw (← r.entries, e, entries_without ℕ_discrete dec (entry B t) s _ r.order q r.ordered.distinct entries_distinct)
            (sym (take_all 15 _ (rw length-map (order_short r.ordered s h)))),
      )
      go (new a) = let c = new_slot_lem r.ordered in (c.0, rw (c.1, entries_take (entry B t), r.entries, without_absent dec k l a))

-- a slot in use forgotten: the ranks close up, and the entries of the slots are as before
module _ {K W : Type 0} (B : Table K W) (dec : Discrete K) {t : B.State} {l : List (K × W)} (r : Represents B t l) (s : ℕ) (h : s < 16)
    (e : in_use (rank B t) s ≡ true) where
  pub represents_forgotten : {u : B.State} → B.Sized u → ((i : ℕ) → i < 16 → rank B u i ≡ forgotten_rank (rank B t) s i)
      → ((i : ℕ) → entry B u i ≡ entry B t i)
      → Represents B u (without dec (B.key t s) l)
  represents_forgotten {u} z f same =
      let q = in_use_there r.ordered s h e in
      let d : Distinct (entries_of (entry B t) r.order) = rw r.entries r.distinct in
      record {
        sized = z;
        order = without_slot s r.order;
        ordered = order_forgotten r.ordered s h e f;
        entries =
            entries_other (entry B t) (entry B u) s (without_slot s r.order) (λ i n. same i) (absent_without ℕ_discrete s r.order)
            ∙ sym (entries_without ℕ_discrete dec (entry B t) s _ r.order q r.ordered.distinct d)
            ∙ ap (without dec (B.key t s)) r.entries;
        distinct = pairwise_without dec _ (B.key t s) l r.distinct;
      }

module _ {K W I : Type 0} (B : Table K W) (fresh : I → W) (step : W → I → W) where
  -- the table after a frame, a key and its input
  abbrev pub next : B.State → K × I → B.State
  next t x = stepped B.columns fresh step t x.0 x.1

  module _ (dec : Discrete K) {t : B.State} {l : List (K × W)} (r : Represents B t l) (x : K × I) (g : B.Legal x.0) where
    pub represents_stepped : Represents B (next t x) (touch dec 16 fresh step l x)
    represents_stepped =
        let s = target B.columns t x.0 in
        let rest = without_slot s r.order in
        let b = target_rest B dec r x.0 g in
        let z = B.stored t s _ _ r.sized g b.0 in
        record {
          sized = z.sized;
          order = (s, tt) ∷ rest;
          ordered = order_used r.ordered s b.0 z.uses;
          entries =
              rw (
                z.same.0,
                z.same.1,
                entries_other (entry B t) (entry B (next t x)) s rest (λ i n. let o = z.other i n in λ j. (o.0 j, o.1 j))
                    (absent_without ℕ_discrete s r.order),
                b.1,
                value_lookup B dec r x.0 g,
              );
          distinct = touch_distinct dec 16 fresh step l x r.distinct;
        }

-- ---- right after a frame, whatever the table held

module _ {K W : Type 0} (B : Table K W) (t : B.State) (z : B.Sized t) (k : K) (g : B.Legal k) where
  -- the slot that the frame used
  abbrev slot : ℕ
  slot = target B.columns t k

  -- whether a slot is found by the search for the key
  abbrev has : B.State → ℕ → Bool
  has u i = B.columns.matches u k i && in_use (rank B u) i

  module _ (w : W) where
    abbrev left : B.State
    left = B.columns.store t slot k w

    -- the slot has the key and is in use
    slot_has : has left slot ≡ true
    slot_has =
        let l = target_below B t k in
        let y = B.stored t slot k w z g l in
        and_yes ((B.matched left k slot y.sized g l).1 (sym y.same.0))
        (lt-ltb (rank B left slot) 16 (rw (y.uses slot l, eq-eqb slot slot refl) (omega arith)))

    -- no other slot got the key, or came into use
    other_had : (j : ℕ) → j < 16 → j ≢ slot → has left j ≡ true → has t j ≡ true
    other_had j l n e =
        let y = B.stored t slot k w z g (target_below B t k) in
        let b = and_both (B.columns.matches left k j) (in_use (rank B left) j) e in
        let r = ltb-true (rank B left j) 16 b.1 in
        let u : rank B left j ≡ raised (rank B t slot) (rank B t j) = y.uses j l ∙ cond_no _ _ (ne_eqb j slot n) in
        and_yes ((B.matched t k j z g l).1 ((B.matched left k j y.sized g l).0 b.0 ∙ (y.other j n).0))
        (lt-ltb (rank B t j) 16 (omega (arith, raised_least (rank B t slot) (rank B t j))))

    slot_found : slot_of B.columns left k ≡ Some slot
    slot_found =
        first_again (has t) (has left) 0 16 slot zero-le (target_below B t k) slot_has other_had (again (slot_of B.columns t k))
      where
        again : (f : Option ℕ) → slot_or (slot_or (new_slot (rank B t)) f) f ≡ slot_or (new_slot (rank B t)) f
        again (Some i) = refl
        again None = refl

    value_found : value_of B.columns left k ≡ some w
    value_found = ap (value_at B.columns left) slot_found ∙ ap some (B.stored t slot k w z g (target_below B t k)).same.1

  -- the table has of the frame's key what the frame left
  pub value_left : {I : Type 0} (fresh : I → W) (step : W → I → W) (i : I)
      → value_of B.columns (stepped B.columns fresh step t k i) k ≡ some (after fresh step (value_of B.columns t k) i)
  value_left fresh step i = value_found (after fresh step (value_of B.columns t k) i)
