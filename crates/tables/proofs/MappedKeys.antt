-- Lists by last use under mapped keys: a frame moves both alike.
use Rattle.std.proofs.Common.{◌≡◌, ℕ, List, [], ◌∷◌, map, sym, refl, ap}
use mathlib.Core.Logic.{by_cases, if_pos, if_neg}
use Rattle.records.proofs.ByLastUse.{touch}
use Rattle.records.proofs.KeyedLists.{All}
use Rattle.records.proofs.Lists.{map-take}
use Rattle.records.specs.Remembered.{lookup, without, after}

-- keys mapped, values as they are
abbrev pub mapped : {J K A : Type 0} → (J → K) → List (J × A) → List (K × A)
mapped f = map (λ e. (f e.0, e.1))

module _ {J K : Type 0} (dec_j : Discrete J) (dec_k : Discrete K) (f : J → K) (Legal : J → Type 0)
    (injective : (j k : J) → Legal j → Legal k → f j ≡ f k → j ≡ k) where
  module _ {A : Type 0} (j : J) (g : Legal j) where
    pub lookup_mapped : (l : List (J × A)) → All (λ e. Legal e.0) l → lookup dec_k (f j) (mapped f l) ≡ lookup dec_j j l
    lookup_mapped [] a = refl
    lookup_mapped (e ∷ l) a =
        by_cases (dec_j j e.0)
        (λ p. let q : f j ≡ f e.0 = ap f p in simp if_pos)
        (λ p. let q : f j ≡ f e.0 → ⊥ = λ q. p (injective j e.0 g a.0 q) in simp if_neg (lookup_mapped l a.1))

    pub without_mapped : (l : List (J × A)) → All (λ e. Legal e.0) l → without dec_k (f j) (mapped f l) ≡ mapped f (without dec_j j l)
    without_mapped [] a = refl
    without_mapped (e ∷ l) a =
        by_cases (dec_j j e.0)
        (λ p. let q : f j ≡ f e.0 = ap f p in simp if_pos (without_mapped l a.1))
        (λ p.
        let q : f j ≡ f e.0 → ⊥ = λ q. p (injective j e.0 g a.0 q) in
        simp if_neg (ap (λ (m : List (K × A)). (f e.0, e.1) ∷ m) (without_mapped l a.1)))

  module _ {W I : Type 0} (n : ℕ) (fresh : I → W) (step : W → I → W) where
    pub touch_mapped : (l : List (J × W)) (x : J × I) → All (λ e. Legal e.0) l → Legal x.0
        → touch dec_k n fresh step (mapped f l) (f x.0, x.1) ≡ mapped f (touch dec_j n fresh step l x)
    touch_mapped l x a g =
        rw (lookup_mapped x.0 g l a, without_mapped x.0 g l a)
        (sym (map-take (λ e. (f e.0, e.1)) n ((x.0, after fresh step (lookup dec_j x.0 l) x.1) ∷ without dec_j x.0 l)))
