-- Laws of the search for a slot: one step of it, and what its answer tells.
use Rattle.std.proofs.Common.{◌≡◌, ℕ, zero, suc, ◌+◌, ◌-◌, ◌<◌, ◌≤◌, Bool, true, false, cond, ◌≢◌, Option, Some, None, sym, refl, ◌∙◌, true≢false, add-one, arith}
use mathlib.Core.Logic.{by_cases}
use native.Mathlib.Decide.{ℕ_discrete}
use native.Mathlib.Numerals.{unary_clauses}
use Rattle.records.specs.Search.{first_from, slot_or}

-- a search for the first of n slots has reached slot i: the rest of it answers as the whole
pub record Reached (test : ℕ → Bool) (n i : ℕ) : Type 0 where
  pub rest : first_from test i (n - i) ≡ first_from test 0 n

pub reached_first : {test : ℕ → Bool} {n : ℕ} → Reached test n 0
reached_first = record { rest = simp unary_clauses refl }

module _ {test : ℕ → Bool} {n i : ℕ} (r : Reached test n i) where
  pub reached_end : n ≤ i → None ≡ first_from test 0 n
  unfolding first_from
  reached_end h = let m : n - i ≡ 0 = omega arith in rw m at r.rest

  -- the answer of the test at slot i
  module _ {answer : Bool} (h : i < n) (e : answer ≡ test i) where
    here : cond answer (Some i) (first_from test (i + 1) (n - (i + 1))) ≡ first_from test 0 n
    unfolding first_from
    here = let m : n - i ≡ suc (n - suc i) = omega arith in rw (e, add-one) (rw m at r.rest)

    pub reached_hit : answer ≡ true → Some i ≡ first_from test 0 n
    reached_hit a = rw a at here

    pub reached_next : answer ≡ false → Reached test n (i + 1)
    reached_next a = record { rest = rw a at here }

-- what the answer tells of the n slots from i on
pub data Searched (test : ℕ → Bool) (i n : ℕ) : Option ℕ → Type 0 where
  hit : (s : ℕ) → s < i + n → test s ≡ true → Searched test i n (Some s)
  miss : ((j : ℕ) → i ≤ j → j < i + n → test j ≡ false) → Searched test i n None

pub searched : (test : ℕ → Bool) (i n : ℕ) → Searched test i n (first_from test i n)
unfolding first_from
searched test i zero = miss (λ j a b. absurd (omega arith))
searched test i (suc n) = go (test i) refl (searched test (suc i) n)
  where
    go : (b : Bool) → test i ≡ b → {r : Option ℕ} → Searched test (suc i) n r → Searched test i (suc n) (cond b (Some i) r)
    go true e f = hit i (omega arith) e
    go false e (hit s h p) = hit s (omega arith) p
    go false e (miss f) = miss (λ j a b. by_cases (ℕ_discrete j i) (λ p. rw p e) (λ p. f j (omega arith) (omega arith)))

-- the slots before the one that is found fail the test
pub searched_before : (test : ℕ → Bool) (i n s : ℕ) → first_from test i n ≡ Some s → (j : ℕ) → i ≤ j → j < s → test j ≡ false
unfolding first_from
searched_before test i zero s q j a b = let z : ◌≡◌ {A = ℕ} 0 1 = cc in absurd (omega arith)
searched_before test i (suc n) s q j a b = go (test i) refl q (searched_before test (suc i) n s)
  where
    go : (t : Bool) → test i ≡ t → cond t (Some i) (first_from test (suc i) n) ≡ Some s
        → (first_from test (suc i) n ≡ Some s → (k : ℕ) → suc i ≤ k → k < s → test k ≡ false) → test j ≡ false
    go true e r ih = let z : i ≡ s = cc in absurd (omega arith)
    go false e r ih = by_cases (ℕ_discrete j i) (λ p. rw p e) (λ p. ih r j (omega arith) b)

-- a slot that is found is one of those searched, and passes the test
pub found_has : (test : ℕ → Bool) (n : ℕ) {f : Option ℕ} {i : ℕ} → f ≡ first_from test 0 n → f ≡ Some i → (i < n) × (test i ≡ true)
found_has test n {i = i} s e = go (searched test 0 n) (sym s ∙ e)
  where
    go : {f : Option ℕ} → Searched test 0 n f → f ≡ Some i → (i < n) × (test i ≡ true)
    go (hit j h p) q = let same : j ≡ i = cc in (omega arith, rw (← same) p)
    go (miss h) q = let z : ◌≡◌ {A = ℕ} 0 1 = cc in absurd (omega arith)

-- a search goes by the slots that it passes
pub first_same : (f g : ℕ → Bool) (i n : ℕ) → ((j : ℕ) → j < i + n → f j ≡ g j) → first_from f i n ≡ first_from g i n
unfolding first_from
first_same f g i zero e = refl
first_same f g i (suc n) e = rw (e i (omega arith), first_same f g (suc i) n (λ j l. e j (omega arith)))

-- a second search: slot s, which the first found or which stands for none found, passes now, and any other slot that passes now passed before; so it finds s
pub first_again : (f g : ℕ → Bool) (i n s : ℕ) → i ≤ s → s < i + n → g s ≡ true → ((j : ℕ) → j < i + n → j ≢ s → g j ≡ true → f j ≡ true)
    → slot_or s (first_from f i n) ≡ s → first_from g i n ≡ Some s
unfolding first_from
first_again f g i zero s a b e h q = absurd (omega arith)
first_again f g i (suc n) s a b e h q =
    by_cases (ℕ_discrete i s)
    (λ p. rw (p, e))
    (λ p. go p (f i) (g i) refl q (λ r. h i (omega arith) p r) (first_again f g (suc i) n s (omega arith) (omega arith) e (λ j l. h j (omega arith))))
  where
    go : i ≢ s → (x y : Bool) → g i ≡ y → slot_or s (cond x (Some i) (first_from f (suc i) n)) ≡ s → (g i ≡ true → x ≡ true)
        → (slot_or s (first_from f (suc i) n) ≡ s → first_from g (suc i) n ≡ Some s)
        → cond y (Some i) (first_from g (suc i) n) ≡ Some s
    go p true y r z k ih = absurd (p z)
    go p false true r z k ih = absurd (true≢false (sym (k r)))
    go p false false r z k ih = ih z
