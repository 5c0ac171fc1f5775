-- The stored order of use gives up the entry that 01's wrapping age does: a table's ranks and ticks agree as long as no tick wraps.
use Rattle.std.proofs.Common.{◌≡◌, ℕ, zero, suc, ◌+◌, ◌-◌, ◌^◌, ◌<◌, ◌≤◌, Bool, true, false, cond, not, List, [], ◌∷◌, length, sym, refl, ◌∙◌, zero-le, arith, ltb-false, ltb-true, le-ltb, lt-ltb, eq-eqb, ne_eqb, leb-false, leb-true, Option, Some, None}
use mathlib.Core.Bool.{false≢true}
use mathlib.Core.List.{foldl}
use mathlib.Core.Logic.{by_cases, if_pos, if_neg}
use mathlib.Core.Option.{none, some, none-ne-some}
use native.Mathlib.Decide.{ℕ_discrete, dec_lt}
use borrow.Author.Tests.{not-true, not-false}
use Rattle.records.proofs.KeyedLists.{lookup_without}
use Rattle.records.proofs.SearchLaws.{Searched, hit, miss, searched, searched_before}
use Rattle.records.specs.Search.{first, slot_or}
use Rattle.tables.proofs.RankOrder.{Slots, position_from, look_slot, without_slot, position_from_lem, Order, order_none, order_used, order_length}
use Rattle.tables.proofs.RankOrder.{in_use_there, there_in_use, new_slot_below, new_slot_before, new_slot_greatest}
use Rattle.tables.specs.Order.{new_slot, raised, used_rank}
use Rattle.tables.specs.WrappingAge.{Ticks, next_tick, age_at, no_ticks, ticked, EqualAges}
use Rattle.tables.specs.WrappingAge.{first_entry, last_entry, exceeds, oldest_of, slot_by_age, AllSlots, WrappingAge}

-- ranks and ticks agree: the slots in use are those of the order, each last used at a tick from 1 on, and one of lesser rank later
pub record Agrees (rank : ℕ → ℕ) (t : Ticks) : Type 0 where
  pub order : Slots
  pub ordered : Order rank order
  pub uses : (i : ℕ) → look_slot i order ≡ cond (t.active i) (some tt) none
  pub begun : (i : ℕ) → t.active i ≡ true → 1 ≤ t.last_used i
  pub past : (i : ℕ) → t.last_used i ≤ t.tick
  pub later : (i j : ℕ) → rank i < rank j → t.last_used j < t.last_used i
  pub fits : t.tick < 2 ^ 32

-- they agree in a table without entries
pub agrees_none : Agrees (λ i. 16) no_ticks
agrees_none = record {
  order = [];
  ordered = order_none (λ i h. refl);
  uses = λ i. refl;
  begun = λ i e. absurd (false≢true e);
  past = λ i. omega arith;
  later = λ i j l. absurd (omega arith);
  fits = omega arith;
}

-- a raised rank, in numbers alone
raised_is : (old x : ℕ) → raised old x ≡ x + (1 - (suc x - old))
raised_is old x = by_cases (dec_lt x old) (λ p. rw (lt-ltb x old p) (omega arith)) (λ p. rw (le-ltb x old (omega arith)) (omega arith))

-- they agree after a use whose tick does not wrap
pub agrees_used : {rank : ℕ → ℕ} {t : Ticks} → Agrees rank t → (s : ℕ) → s < 16 → suc t.tick < 2 ^ 32 → Agrees (used_rank rank s) (ticked t s)
agrees_used {rank} {t} a s h w = record {
  order = (s, tt) ∷ without_slot s a.order;
  ordered = order_used a.ordered s h (λ i l. refl);
  uses = λ i. by_cases (ℕ_discrete i s) (λ p. rw (eq-eqb i s p) (simp if_pos))
      (λ p. rw (ne_eqb i s p) (rw (if_neg, lookup_without ℕ_discrete i s a.order p) (a.uses i)));
  begun = λ i. by_cases (ℕ_discrete i s) (λ p. rw (eq-eqb i s p) (omega arith)) (λ p. rw (ne_eqb i s p) (a.begun i));
  past = λ i. by_cases (ℕ_discrete i s) (λ p. rw (eq-eqb i s p) (omega arith)) (λ p. rw (ne_eqb i s p) (omega (arith, a.past i)));
  later = λ i j.
      by_cases (ℕ_discrete j s)
      (λ q. rw (eq-eqb j s q) (λ l. absurd (omega arith)))
      (λ q. by_cases (ℕ_discrete i s)
      (λ p. rw (ne_eqb j s q, eq-eqb i s p) (λ l. omega (arith, a.past j)))
      (λ p. rw (ne_eqb j s q, ne_eqb i s p) (λ l. a.later i j (omega (arith, raised_is (rank s) (rank i), raised_is (rank s) (rank j))))));
  fits = omega arith;
}

-- they agree after any uses of which no tick wraps
agrees_all : (uses : List ℕ) {rank : ℕ → ℕ} {t : Ticks} → Agrees rank t → AllSlots uses → length uses + t.tick < 2 ^ 32
    → Agrees (foldl used_rank rank uses) (foldl ticked t uses)
agrees_all [] a w h = a
agrees_all (s ∷ uses) a w h = agrees_all uses (agrees_used a s w.0 (omega arith)) w.1 (omega arith)

-- slots of one position are one
position_same : (p i j : ℕ) (o : Slots) → length o + p ≤ 16 → look_slot i o ≡ some tt → position_from p i o ≡ position_from p j o → i ≡ j
position_same p i j [] n q e = absurd (none-ne-some tt q)
position_same p i j (f ∷ o) n q e =
    let least : (k : ℕ) → suc p ≤ position_from (suc p) k o = λ k. position_from_lem (suc p) k o (omega arith) (omega arith) in
    by_cases (ℕ_discrete i f.0)
    (λ x. by_cases (ℕ_discrete j f.0) (λ y. x ∙ sym y) (λ y. absurd (omega (arith, simp (if_pos, if_neg) at e, least j))))
    (λ x. by_cases (ℕ_discrete j f.0)
    (λ y. absurd (omega (arith, simp (if_pos, if_neg) at e, least i)))
    (λ y. position_same (suc p) i j o (omega arith) (simp if_neg at q) (simp if_neg at e)))

-- under either rule, the age that the test prefers is no less than the other
exceeds_order : (rule : EqualAges) (a b : ℕ) (t : Bool) → exceeds rule a b ≡ t → cond t a b ≤ cond t b a
exceeds_order first_entry a b true e = omega (arith, ltb-true a b e)
exceeds_order first_entry a b false e = ltb-false a b e
exceeds_order last_entry a b true e = leb-true a b e
exceeds_order last_entry a b false e = omega (arith, leb-false a b e)

-- the oldest of n slots is one of them, and none is older
oldest_is : (rule : EqualAges) (age : ℕ → ℕ) (n : ℕ) → (oldest_of rule age n ≤ n - 1) × ((j : ℕ) → j < n → age j ≤ age (oldest_of rule age n))
unfolding oldest_of
oldest_is rule age zero = (omega arith, λ j h. absurd (omega arith))
oldest_is rule age (suc n) = go (oldest_of rule age n) (oldest_is rule age n) (exceeds rule (age (oldest_of rule age n)) (age n)) refl
  where
    go : (o : ℕ) → (o ≤ n - 1) × ((j : ℕ) → j < n → age j ≤ age o) → (b : Bool) → exceeds rule (age o) (age n) ≡ b
        → (cond b n o ≤ suc n - 1) × ((j : ℕ) → j < suc n → age j ≤ age (cond b n o))
    go o h true e = (
      omega arith,
      λ j l. by_cases (ℕ_discrete j n) (λ p. rw p (omega arith))
          (λ p. omega (arith, h.1 j (omega arith), exceeds_order rule (age o) (age n) true e)),
    )
    go o h false e = (omega arith, λ j l. by_cases (ℕ_discrete j n) (λ p. rw p (exceeds_order rule (age o) (age n) false e)) (λ p. h.1 j (omega arith)))

-- the age of a slot at the next use
abbrev age_of : Ticks → ℕ → ℕ
age_of t i = age_at (next_tick t.tick) (t.last_used i)

module _ {rank : ℕ → ℕ} {t : Ticks} (a : Agrees rank t) where
  -- a new key takes the first free slot: those before it are in use, so that their ranks are below 16, and its own is not
  first_free : (s : ℕ) → s < 16 → t.active s ≡ false → ((j : ℕ) → j < s → t.active j ≡ true) → new_slot rank ≡ s
  first_free s h e b =
      let n : ¬ (rank s < 16) = λ l. none-ne-some tt (sym (a.uses s ∙ rw e) ∙ in_use_there a.ordered s h (lt-ltb (rank s) 16 l)) in
      let used : new_slot rank < s → rank (new_slot rank) < 16 = λ q. ltb-true _ 16
      (there_in_use a.ordered _ (a.uses (new_slot rank) ∙ rw (b (new_slot rank) q))).1 in
      by_cases (dec_lt s (new_slot rank))
      (λ p. absurd (omega (arith, new_slot_before rank s p)))
      (λ p. by_cases (dec_lt (new_slot rank) s) (λ q. absurd (omega (arith, new_slot_greatest a.ordered s h, used q))) (λ q. omega arith))

  -- where none is free, it takes the oldest slot, which has the greatest rank: one of lesser rank was used later
  new_oldest : ((j : ℕ) → j < 16 → t.active j ≡ true) → (rule : EqualAges) → new_slot rank ≡ oldest_of rule (age_of t) 16
  new_oldest on rule =
      let s = new_slot rank in
      let b = new_slot_below rank in
      let o = oldest_of rule (age_of t) 16 in
      let m = oldest_is rule (age_of t) 16 in
      let l : o < 16 = omega arith in
      by_cases (ℕ_discrete (rank s) (rank o))
      (λ e. position_same 0 s o a.order (omega (arith, order_length a.ordered)) (a.uses s ∙ rw (on s b))
      (omega (arith, a.ordered.ranked s b, a.ordered.ranked o l)))
      (λ e. absurd (omega (arith, a.later o s (omega (arith, new_slot_greatest a.ordered o l)), m.1 s b, a.begun s (on s b), a.past o)))

  -- a new key takes one slot by ranks and by ages
  pub agreed : (rule : EqualAges) → new_slot rank ≡ slot_by_age rule t
  unfolding slot_by_age
  agreed rule = go (first free) refl (searched free 0 16)
    where
      free : ℕ → Bool
      free i = not (t.active i)

      go : (f : Option ℕ) → first free ≡ f → Searched free 0 16 f → new_slot rank ≡ slot_or (oldest_of rule (age_of t) 16) f
      go (Some s) q (hit _ h e) = first_free s h (not-true _ e) (λ j l. not-false _ (searched_before free 0 16 s q j zero-le l))
      go None q (miss g) = new_oldest (λ j l. not-false _ (g j zero-le l)) rule

-- the claim: up to 4,294,967,295 uses wrap no tick
pub wrapping_age : WrappingAge
wrapping_age rule uses w h = agreed (agrees_all uses agrees_none w (omega arith)) rule
