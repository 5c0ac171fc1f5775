-- Lists by last use whose values are parts of others: a frame moves both alike.
use Rattle.std.proofs.Common.{◌≡◌, ℕ, List, [], ◌∷◌, map, sym, refl, ap}
use mathlib.Core.Logic.{by_cases, if_pos, if_neg}
use mathlib.Core.Option.{Option, none, some}
use Rattle.records.proofs.ByLastUse.{touch}
use Rattle.records.proofs.Lists.{map-take}
use Rattle.records.specs.Remembered.{lookup, without, after}

module _ {K W P : Type 0} (part : W → P) where
  -- each key with the part of its value
  abbrev pub parts : List (K × W) → List (K × P)
  parts = map (λ e. (e.0, part e.1))

module _ {W P : Type 0} (part : W → P) where
  abbrev pub part_of : Option W → Option P
  part_of none = none
  part_of (some w) = some (part w)

module _ {K W P : Type 0} (part : W → P) (dec : Discrete K) (k : K) where
  pub lookup_parts : (l : List (K × W)) → lookup dec k (parts part l) ≡ part_of part (lookup dec k l)
  lookup_parts [] = refl
  lookup_parts (e ∷ l) = by_cases (dec k e.0) (λ p. simp if_pos refl) (λ p. simp if_neg (lookup_parts l))

  without_parts : (l : List (K × W)) → without dec k (parts part l) ≡ parts part (without dec k l)
  without_parts [] = refl
  without_parts (e ∷ l) =
      by_cases (dec k e.0) (λ p. simp if_pos (without_parts l)) (λ p. simp if_neg (ap (λ (m : List (K × P)). (e.0, part e.1) ∷ m) (without_parts l)))

module _ {K W P I J : Type 0} (part : W → P) (part_in : I → J) (dec : Discrete K) (n : ℕ) (fresh : I → W) (step : W → I → W) (fresh' : J → P)
    (step' : P → J → P)
    (begins : (i : I) → part (fresh i) ≡ fresh' (part_in i)) (goes : (w : W) (i : I) → part (step w i) ≡ step' (part w) (part_in i)) where
  after_parts : (o : Option W) (i : I) → after fresh' step' (part_of part o) (part_in i) ≡ part (after fresh step o i)
  after_parts none i = rw (begins i)
  after_parts (some w) i = rw (goes w i)

  pub touch_parts : (l : List (K × W)) (k : K) (i : I) → touch dec n fresh' step' (parts part l) (k, part_in i) ≡ parts part (touch dec n fresh step l (k, i))
  touch_parts l k i =
      rw (lookup_parts part dec k l, without_parts part dec k l, after_parts (lookup dec k l) i)
      (sym (map-take (λ e. (e.0, part e.1)) n ((k, after fresh step (lookup dec k l) i) ∷ without dec k l)))
