-- The order of the slots of a table by last use, as their ranks have it: what a use does to it, what forgetting does, and that the slot
-- that a new key takes is its last.
use Rattle.std.proofs.Common.{◌≡◌, ℕ, suc, ◌+◌, ◌-◌, ◌<◌, ◌≤◌, Bool, true, false, cond, ◌&&◌, ltb, leb, ◌≢◌, ◌⊎◌, List, [], ◌∷◌, length, take, sym, refl, ap, ◌∙◌, inl, inr, ⊎_elim, zero-le, arith, take_all, ltb-true, le-ltb, lt-ltb, eq-eqb, ne_eqb, leb-false, leb-true, Option, Some, None}
use mathlib.Core.Logic.{by_cases, ite, if_pos, if_neg}
use mathlib.Core.Option as maybe
use mathlib.Core.Option.{none, some, none-ne-some}
use native.Mathlib.Decide.{ℕ_discrete, dec_le, dec_lt}
use Rattle.records.proofs.KeyedLists.{Distinct, pairwise_without, absent_without, without_absent}
use Rattle.records.proofs.KeyedLists.{lookup_absent, lookup_without, absent_none, length_at_most, length_at_least}
use Rattle.records.specs.Remembered.{lookup, without}
use Rattle.records.proofs.SearchLaws.{Searched, hit, miss, searched, searched_before}
use Rattle.records.specs.Search.{first, first_from, slot_or}
use Rattle.tables.specs.Order.{in_use, new_slot, raised, lowered, used_rank, forgotten_rank}

-- slots, the latest used first, as keys of lists with nothing beside them
abbrev pub Slots : Type 0
Slots = List (ℕ × Unit {0})

-- the position of a slot among those from position p on; 16 if it is not there
abbrev pub position_from : ℕ → ℕ → Slots → ℕ
position_from p i [] = 16
position_from p i (e ∷ o) = ite (ℕ_discrete i e.0) p (position_from (suc p) i o)

abbrev pub look_slot : ℕ → Slots → maybe.Option (Unit {0})
look_slot = lookup ℕ_discrete

abbrev pub without_slot : ℕ → Slots → Slots
without_slot = without ℕ_discrete

-- a position is no less than the first
pub position_from_lem : (p i : ℕ) (o : Slots) → p ≤ 16 → length o + p ≤ 16 → p ≤ position_from p i o
position_from_lem p i [] h n = h
position_from_lem p i (e ∷ o) h n =
    by_cases (ℕ_discrete i e.0) (λ q. simp if_pos (omega arith)) (λ q. simp if_neg (omega (arith, position_from_lem (suc p) i o (omega arith) (omega arith))))

-- a slot that is not there has position 16, and one that is there a position below
position_absent : (p i : ℕ) (o : Slots) → look_slot i o ≡ none → position_from p i o ≡ 16
position_absent p i [] q = refl
position_absent p i (e ∷ o) q =
    by_cases (ℕ_discrete i e.0) (λ z. absurd (none-ne-some tt (sym q ∙ simp if_pos)))
    (λ z. simp if_neg (position_absent (suc p) i o (simp if_neg at q)))

position_there : (p i : ℕ) (o : Slots) → length o + p ≤ 16 → position_from p i o < 16 → look_slot i o ≡ some tt
position_there p i [] n h = absurd (omega arith)
position_there p i (e ∷ o) n h =
    by_cases (ℕ_discrete i e.0) (λ z. simp if_pos) (λ z. simp if_neg (position_there (suc p) i o (omega arith) (simp if_neg at h)))

pub position_in : (p i : ℕ) (o : Slots) → look_slot i o ≡ some tt → position_from p i o < length o + p
position_in p i [] q = absurd (none-ne-some tt q)
position_in p i (e ∷ o) q =
    by_cases (ℕ_discrete i e.0) (λ z. simp if_pos (omega arith)) (λ z. simp if_neg (omega (arith, position_in (suc p) i o (simp if_neg at q))))

raised_above : {old x : ℕ} → old ≤ x → raised old x ≡ x
raised_above {old} {x} h = rw (le-ltb x old h)

raised_below : {old x : ℕ} → x < old → raised old x ≡ suc x
raised_below {old} {x} h = rw (lt-ltb x old h) (omega arith)

lowered_above : {old x : ℕ} → old < x → x < 16 → lowered old x ≡ x - 1
lowered_above {old} {x} h l = rw (lt-ltb old x h, lt-ltb x 16 l)

lowered_below : {old x : ℕ} → x ≤ old → lowered old x ≡ x
lowered_below {old} {x} h = rw (le-ltb old x h)

lowered_free : (old : ℕ) → lowered old 16 ≡ 16
lowered_free old = go (ltb old 16)
  where
    go : (b : Bool) → cond (b && false) (16 - 1) 16 ≡ 16
    go true = refl
    go false = refl

-- a use of slot s: the others that stood before it move up
position_used : (p i s : ℕ) (o : Slots) → i ≢ s → Distinct o → length o + p ≤ 16
    → position_from (suc p) i (without_slot s o) ≡ raised (position_from p s o) (position_from p i o)
position_used p i s [] n d h = refl
position_used p i s (e ∷ o) n d h =
    by_cases (ℕ_discrete s e.0)
    (λ q.
    let m : i ≢ e.0 = λ z. n (z ∙ sym q) in
    simp (if_pos, if_neg, without_absent ℕ_discrete s o (rw (← q) at d.0))
    (sym (raised_above (omega (arith, position_from_lem (suc p) i o (omega arith) (omega arith))))))
    (λ q. by_cases (ℕ_discrete i e.0)
    (λ z. simp (if_pos, if_neg) (sym (raised_below (omega (arith, position_from_lem (suc p) s o (omega arith) (omega arith))))))
    (λ z. simp if_neg (position_used (suc p) i s o n d.1 (omega arith))))

-- the slots of an order, the latest used first: their ranks are their positions, and the others have rank 16
pub record Order (rank : ℕ → ℕ) (o : Slots) : Type 0 where
  pub distinct : Distinct o
  pub below : (i : ℕ) → 16 ≤ i → look_slot i o ≡ none
  pub ranked : (i : ℕ) → i < 16 → rank i ≡ position_from 0 i o

pub order_none : {rank : ℕ → ℕ} → ((i : ℕ) → i < 16 → rank i ≡ 16) → Order rank []
order_none e = record { distinct = tt; below = λ i h. refl; ranked = e }

-- the last of a list of distinct slots has the last position
last_there : (p : ℕ) (e : ℕ × Unit {0}) (o : Slots) → Distinct (e ∷ o) → (j : ℕ) × (look_slot j (e ∷ o) ≡ some tt) × (position_from p j (e ∷ o) ≡ length o + p)
last_there p e [] d = (e.0, simp if_pos, simp if_pos (omega arith))
last_there p e (f ∷ o) d =
    let r = last_there (suc p) f o d.1 in
    by_cases (ℕ_discrete r.0 e.0)
    (λ z. absurd (none-ne-some tt (sym (lookup_absent ℕ_discrete e.0 (f ∷ o) d.0) ∙ ap (λ x. look_slot x (f ∷ o)) (sym z) ∙ r.1)))
    (λ z. (r.0, rw if_neg r.1, rw if_neg (omega (arith, r.2))))

last_of : (m : ℕ) (o : Slots) → Distinct o → length o ≡ suc m → (j : ℕ) × (look_slot j o ≡ some tt) × (position_from 0 j o ≡ m)
last_of m [] d n = absurd (omega arith)
last_of m (e ∷ o) d n = let r = last_there 0 e o d in (r.0, r.1, omega (arith, r.2))

-- the slot of the last position is the last of the list
without_last : (p s : ℕ) (o : Slots) → length o + p ≤ 16 → suc (position_from p s o) ≡ length o + p → without_slot s o ≡ take (length o - 1) o
without_last p s [] n q = refl
without_last p s (e ∷ []) n q = by_cases (ℕ_discrete s e.0) (λ z. rw if_pos) (λ z. absurd (let v = simp if_neg at q in omega arith))
without_last p s (e ∷ f ∷ o) n q =
    by_cases (ℕ_discrete s e.0)
    (λ z. absurd (let v = simp if_pos at q in omega arith))
    (λ z. let m : suc (suc (length o)) - 1 ≡ suc (suc (length o) - 1) = omega arith in rw m
    (simp (if_neg, without_last (suc p) s (f ∷ o) (omega arith) (let v = simp if_neg at q in omega arith))))

-- a new key's slot is one of the sixteen, and those before it have ranks below 15
module _ (rank : ℕ → ℕ) where
  pub new_slot_below : new_slot rank < 16
  unfolding new_slot
  new_slot_below = go (searched (λ i. leb 15 (rank i)) 0 15)
    where
      go : {f : Option ℕ} → Searched (λ i. leb 15 (rank i)) 0 15 f → slot_or 15 f < 16
      go (hit s h e) = omega arith
      go (miss g) = omega arith

  -- so is the slot that a frame uses, which a search finds or a new key takes
  pub used_below : (test : ℕ → Bool) → slot_or (new_slot rank) (first test) < 16
  used_below test = go (searched test 0 16)
    where
      go : {f : Option ℕ} → Searched test 0 16 f → slot_or (new_slot rank) f < 16
      go (hit s h e) = h
      go (miss g) = new_slot_below

  pub new_slot_before : (j : ℕ) → j < new_slot rank → rank j < 15
  unfolding new_slot
  new_slot_before j h = leb-false 15 (rank j) (go (first_from (λ i. leb 15 (rank i)) 0 15) refl (searched (λ i. leb 15 (rank i)) 0 15) h)
    where
      go : (f : Option ℕ) → first_from (λ i. leb 15 (rank i)) 0 15 ≡ f → Searched (λ i. leb 15 (rank i)) 0 15 f → j < slot_or 15 f → leb 15 (rank j) ≡ false
      go (Some s) q w l = searched_before (λ i. leb 15 (rank i)) 0 15 s q j zero-le l
      go None q (miss g) l = g j zero-le l

  -- it has rank 15 or more, or it is the last
  new_slot_enough : (15 ≤ rank (new_slot rank)) ⊎ (new_slot rank ≡ 15)
  unfolding new_slot
  new_slot_enough = go (searched (λ i. leb 15 (rank i)) 0 15)
    where
      go : {f : Option ℕ} → Searched (λ i. leb 15 (rank i)) 0 15 f → (15 ≤ rank (slot_or 15 f)) ⊎ (slot_or 15 f ≡ 15)
      go (hit s h e) = inl (leb-true 15 (rank s) e)
      go (miss g) = inr refl

module _ {rank : ℕ → ℕ} {o : Slots} (r : Order rank o) where
  pub order_length : length o ≤ 16
  order_length = length_at_most 16 o r.distinct r.below

  -- the slots in use are those of the order
  pub in_use_there : (i : ℕ) → i < 16 → in_use rank i ≡ true → look_slot i o ≡ some tt
  in_use_there i h e = position_there 0 i o (omega (arith, order_length)) (omega (arith, r.ranked i h, ltb-true (rank i) 16 e))

  pub there_in_use : (i : ℕ) → look_slot i o ≡ some tt → (i < 16) × (in_use rank i ≡ true)
  there_in_use i q =
      let h : i < 16 = by_cases (dec_lt i 16) (λ p. p) (λ p. absurd (none-ne-some tt (sym (r.below i (omega arith)) ∙ q))) in
      (h, lt-ltb (rank i) 16 (omega (arith, r.ranked i h, position_in 0 i o q, order_length)))

  -- a slot that is used comes to the front
  module _ (s : ℕ) (h : s < 16) where
    pub order_used : {rank' : ℕ → ℕ} → ((i : ℕ) → i < 16 → rank' i ≡ used_rank rank s i) → Order rank' ((s, tt) ∷ without_slot s o)
    order_used u = record {
      distinct = (absent_without ℕ_discrete s o, pairwise_without ℕ_discrete _ s o r.distinct);
      below = λ i l. let n : i ≢ s = λ e. omega arith in rw if_neg (lookup_without ℕ_discrete i s o n ∙ r.below i l);
      ranked = λ i l.
          by_cases (ℕ_discrete i s)
          (λ e. u i l ∙ rw (eq-eqb i s e) (sym (simp if_pos)))
          (λ e. u i l ∙ rw (ne_eqb i s e, r.ranked s h, r.ranked i l)
          (sym (simp if_neg (position_used 0 i s o e r.distinct (omega (arith, order_length))))));
    }

    pub order_short : length (without_slot s o) ≤ 15
    order_short = omega (arith, length_at_most 16 ((s, tt) ∷ without_slot s o) (order_used (λ i l. refl)).distinct (order_used (λ i l. refl)).below)

  -- ranks are at most 16
  pub rank_most : (i : ℕ) → i < 16 → rank i ≤ 16
  rank_most i h = go (look_slot i o) refl
    where
      go : (x : maybe.Option (Unit {0})) → look_slot i o ≡ x → rank i ≤ 16
      go none q = omega (arith, r.ranked i h, position_absent 0 i o q)
      go (some x) q = omega (arith, r.ranked i h, position_in 0 i o q, order_length)

  -- an order of sixteen has every slot
  pub all_there : length o ≡ 16 → (i : ℕ) → i < 16 → in_use rank i ≡ true
  all_there n i h = go (look_slot i o) refl
    where
      go : (x : maybe.Option (Unit {0})) → look_slot i o ≡ x → in_use rank i ≡ true
      go none q = absurd (omega (arith, order_short i h, ap length (without_absent ℕ_discrete i o (absent_none ℕ_discrete i o q))))
      go (some x) q = (there_in_use i q).1

  all_in_use : ((i : ℕ) → i < 16 → rank i < 16) → length o ≡ 16
  all_in_use a = omega (arith, order_length, length_at_least 16 o r.distinct (λ i l. rw (in_use_there i l (lt-ltb (rank i) 16 (a i l)))))

  -- a new key's slot has rank 15 or more: fifteen ranks below 15 leave one that is not
  pub new_slot_rank : 15 ≤ rank (new_slot rank)
  new_slot_rank = by_cases (dec_le 15 (rank (new_slot rank))) (λ p. p) (λ p. absurd (⊎_elim (λ e. p e) (none p) (new_slot_enough rank)))
    where
      none : ¬ (15 ≤ rank (new_slot rank)) → new_slot rank ≡ 15 → ⊥
      none p e =
          let m : rank (new_slot rank) < 15 = omega arith in
          let each : (i : ℕ) → i < 16 → rank i < 15 = λ i l.
          by_cases (dec_lt i 15) (λ a. new_slot_before rank i (omega arith)) (λ a. let q : new_slot rank ≡ i = omega arith in rw q at m) in
          let n = all_in_use (λ i l. omega (arith, each i l)) in
          let j = last_of 15 o r.distinct n in
          let k = (there_in_use j.0 j.1).0 in
          omega (arith, r.ranked j.0 k, j.2, each j.0 k)

  -- so it is the first slot of the greatest rank
  pub new_slot_greatest : (j : ℕ) → j < 16 → rank j ≤ rank (new_slot rank)
  new_slot_greatest j h = go (look_slot (new_slot rank) o) refl
    where
      b : new_slot rank < 16
      b = new_slot_below rank

      go : (x : maybe.Option (Unit {0})) → look_slot (new_slot rank) o ≡ x → rank j ≤ rank (new_slot rank)
      go none q = omega (arith, r.ranked (new_slot rank) b, position_absent 0 (new_slot rank) o q, rank_most j h)
      go (some x) q =
          let n : length o ≡ 16 = omega (arith, order_length, r.ranked (new_slot rank) b, position_in 0 (new_slot rank) o q, new_slot_rank) in
          omega (arith, new_slot_rank, ltb-true (rank j) 16 (all_there n j h))

  pub new_slot_first : (j : ℕ) → j < new_slot rank → rank j < rank (new_slot rank)
  new_slot_first j h = omega (arith, new_slot_before rank j h, new_slot_rank)

  -- it is free, or the last of the order
  pub new_slot_lem : (new_slot rank < 16) × (without_slot (new_slot rank) o ≡ take 15 o)
  new_slot_lem = (b, go (look_slot (new_slot rank) o) refl)
    where
      s : ℕ
      s = new_slot rank

      b : s < 16
      b = new_slot_below rank

      go : (x : maybe.Option (Unit {0})) → look_slot s o ≡ x → without_slot s o ≡ take 15 o
      go none q = sym (take_all 15 (without_slot s o) (order_short s b)) ∙ ap (take 15) (without_absent ℕ_discrete s o (absent_none ℕ_discrete s o q))
      go (some x) q =
          let p = position_in 0 s o q in
          let n : length o ≡ 16 = omega (arith, order_length, r.ranked s b, p, new_slot_rank) in
          rw n at (without_last 0 s o (omega arith) (omega (arith, r.ranked s b, p, n, new_slot_rank)))

-- ---- forgetting

-- positions counted from one later
position_shift : (p i : ℕ) (o : Slots) → length o + suc p ≤ 16 → position_from p i o ≡ lowered p (position_from (suc p) i o)
position_shift p i o n = go (look_slot i o) refl
  where
    shifted : (p : ℕ) (o : Slots) → look_slot i o ≡ some tt → position_from (suc p) i o ≡ suc (position_from p i o)
    shifted p [] q = absurd (none-ne-some tt q)
    shifted p (e ∷ o) q = by_cases (ℕ_discrete i e.0) (λ z. simp if_pos) (λ z. simp if_neg (shifted (suc p) o (simp if_neg at q)))

    go : (x : maybe.Option (Unit {0})) → look_slot i o ≡ x → position_from p i o ≡ lowered p (position_from (suc p) i o)
    go none q = rw (position_absent p i o q, position_absent (suc p) i o q) (sym (lowered_free p))
    go (some x) q =
        let e = shifted p o q in
        let l : lowered p (suc (position_from p i o)) ≡ suc (position_from p i o) - 1 =
        lowered_above {old = p} {x = suc (position_from p i o)} (omega (arith, position_from_lem p i o (omega arith) (omega arith)))
        (omega (arith, position_in (suc p) i o q)) in
        let m : suc (position_from p i o) - 1 ≡ position_from p i o = omega arith in
        sym (ap (lowered p) e ∙ l ∙ m)

position_forgotten : (p i s : ℕ) (o : Slots) → i ≢ s → Distinct o → length o + p ≤ 16 → look_slot s o ≡ some tt
    → position_from p i (without_slot s o) ≡ lowered (position_from p s o) (position_from p i o)
position_forgotten p i s [] n d h q = absurd (none-ne-some tt q)
position_forgotten p i s (e ∷ o) n d h q =
    by_cases (ℕ_discrete s e.0)
    (λ z.
    let m : i ≢ e.0 = λ y. n (y ∙ sym z) in
    simp (if_pos, if_neg, without_absent ℕ_discrete s o (rw (← z) at d.0)) (position_shift p i o (omega arith)))
    (λ z. by_cases (ℕ_discrete i e.0)
    (λ y. simp (if_pos, if_neg) (sym (lowered_below (omega (arith, position_from_lem (suc p) s o (omega arith) (omega arith))))))
    (λ y. simp if_neg (position_forgotten (suc p) i s o n d.1 (omega arith) (simp if_neg at q))))

-- a slot in use that is forgotten leaves the others in their order
pub order_forgotten : {rank rank' : ℕ → ℕ} {o : Slots} → Order rank o → (s : ℕ) → s < 16 → in_use rank s ≡ true
    → ((i : ℕ) → i < 16 → rank' i ≡ forgotten_rank rank s i) → Order rank' (without_slot s o)
order_forgotten {o = o} r s h e u = record {
  distinct = pairwise_without ℕ_discrete _ s o r.distinct;
  below = λ i l. let n : i ≢ s = λ e. omega arith in lookup_without ℕ_discrete i s o n ∙ r.below i l;
  ranked = λ i l.
      by_cases (ℕ_discrete i s)
      (λ q. u i l ∙ rw (eq-eqb i s q) (sym (position_absent 0 i (without_slot s o)
      (rw q (lookup_absent ℕ_discrete s (without_slot s o) (absent_without ℕ_discrete s o))))))
      (λ q. u i l ∙ rw (ne_eqb i s q, r.ranked s h, r.ranked i l)
      (sym (position_forgotten 0 i s o q r.distinct (omega (arith, order_length r)) (in_use_there r s h e))));
}
