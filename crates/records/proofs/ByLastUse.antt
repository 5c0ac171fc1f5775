-- The list that moves each frame's key to its front and is cut to n entries is what the past leaves remembered.
use Rattle.std.proofs.Common.{◌≡◌, ℕ, ◌+◌, List, [], ◌∷◌, reverse, take, refl}
use mathlib.Core.List.{foldl, reverse_aux}
use native.Mathlib.Decide.{ℕ_discrete}
use lib.Seq.{take-nil}
use Rattle.records.proofs.KeyedLists.{Distinct, absent_without, pairwise_without, pairwise_take, take-front, distinct_distinct, lookup_take}
use Rattle.records.proofs.KeyedLists.{lookup_distinct, since_distinct}
use Rattle.records.specs.Remembered.{lookup, without, distinct, after, numbers, remembered}

module _ {K W I : Type 0} (dec : Discrete K) (n : ℕ) (fresh : I → W) (step : W → I → W) where
  -- a frame moves its key to the front, with the numbers that it leaves it
  abbrev pub touch : List (K × W) → K × I → List (K × W)
  touch l x = take n ((x.0, after fresh step (lookup dec x.0 l) x.1) ∷ without dec x.0 l)

  pub touch_distinct : (l : List (K × W)) (x : K × I) → Distinct l → Distinct (touch l x)
  touch_distinct l x d = pairwise_take _ n _ (absent_without dec x.0 l, pairwise_without dec _ x.0 l d)

  pub touch_remembered : (past : List (K × I)) (x : K × I) → touch (remembered dec n fresh step past) x ≡ remembered dec n fresh step (x ∷ past)
  touch_remembered past x =
      let l = numbers dec n fresh step past in
      rw (lookup_take dec x.0 n (distinct dec l), lookup_distinct, since_distinct) (take-front dec n _ (distinct dec l) (distinct_distinct dec l))

  pub fold_remembered : (past h : List (K × I)) → foldl touch (remembered dec n fresh step past) h ≡ remembered dec n fresh step (reverse_aux h past)
  fold_remembered past [] = refl
  fold_remembered past (x ∷ h) = rw (touch_remembered past x) (fold_remembered (x ∷ past) h)

  -- a history, its earliest frame first
  pub by_last_use : (h : List (K × I)) → foldl touch [] h ≡ remembered dec n fresh step (reverse h)
  by_last_use h = rw take-nil at (fold_remembered [] h)

-- two entries, whose keys' numbers add up: key 2 was forgotten when 3 and 1 came
example : remembered ℕ_discrete 2 (λ i. i) (λ w i. w + i) ((2, 7) ∷ (1, 5) ∷ (3, 4) ∷ (1, 3) ∷ (2, 1) ∷ []) ≡ (2, 7) ∷ (1, 8) ∷ []
unfolding ℕ_discrete
example = refl
