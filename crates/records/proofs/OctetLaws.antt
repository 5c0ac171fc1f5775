-- Lists of octets: parts of one, and lists that are tabulated, overwritten or zero.
use Rattle.std.proofs.Common.{ℕ, zero, suc, ◌+◌, ◌<◌, ltb, List, [], ◌∷◌, length, take, drop, set, replicate, ◌∙◌, arith, length-take, get_or-drop, get_or-take}
use mathlib.Core.Logic.{by_cases}
use native.Mathlib.Decide.{dec_lt}
use lib.ListN.{length-replicate, get_or-eq_default}
use Rattle.records.proofs.Booleans.{cond_holds}
use Rattle.records.proofs.Lists.{get_d_constant}
use Rattle.records.proofs.NameLaws.{length_tabulate, tabulate_at, length_overwritten}
use Rattle.records.specs.Legal.{Octets, OctetArray}
use Rattle.records.specs.Name.{padded}
use Rattle.records.specs.Octets.{tabulate, octet_at, overwritten}

pub octets_none : Octets []
octets_none k = omega arith

-- a list of octets up to its end, past which octet_at is 0
octets_within : (l : List ℕ) → ((k : ℕ) → k < length l → octet_at l k < 256) → Octets l
octets_within l h k = by_cases (dec_lt k (length l)) (h k) (λ p. rw (get_or-eq_default l 0 {n = k} (omega arith)) (omega arith))

module _ (l : List ℕ) (o : Octets l) where
  pub octets_take : (n : ℕ) → Octets (take n l)
  octets_take n = octets_within (take n l) (λ k h. rw (get_or-take n l k 0 (omega (arith, length-take n l))) (o k))

  pub octets_drop : (n : ℕ) → Octets (drop n l)
  octets_drop n k = rw get_or-drop (o (n + k))

octets_set : (l : List ℕ) (i v : ℕ) → Octets l → v < 256 → Octets (set l i v)
octets_set [] i v o h k = o k
octets_set (x ∷ xs) zero v o h zero = h
octets_set (x ∷ xs) zero v o h (suc k) = o (suc k)
octets_set (x ∷ xs) (suc i) v o h zero = o 0
octets_set (x ∷ xs) (suc i) v o h (suc k) = octets_set xs i v (λ j. o (suc j)) h k

module _ (f : ℕ → ℕ) (b : (k : ℕ) → f k < 256) where
  pub array_tabulate : (n : ℕ) → OctetArray n (tabulate f n)
  array_tabulate n =
      record {
        size = length_tabulate f n;
        octets = octets_within (tabulate f n) (λ k h. rw (tabulate_at f n k 0 (omega (arith, length_tabulate f n))) (b k));
      }

  octets_overwritten : (l : List ℕ) (start n : ℕ) → Octets l → Octets (overwritten l start f n)
  unfolding overwritten
  octets_overwritten l start zero o = o
  octets_overwritten l start (suc n) o = octets_set (overwritten l start f n) (start + n) (f n) (octets_overwritten l start n o) (b n)

  pub array_overwritten : {size : ℕ} {l : List ℕ} (start n : ℕ) → OctetArray size l → OctetArray size (overwritten l start f n)
  array_overwritten {l = l} start n a =
      record { size = length_overwritten l f start n ∙ a.size; octets = octets_overwritten l start n a.octets }

pub array_zeros : (n : ℕ) → OctetArray n (replicate n 0)
array_zeros n = record { size = length-replicate n 0; octets = λ k. rw (get_d_constant {E = ℕ} n k 0) (omega arith) }

-- a name's octets, zeros behind its end
pub array_padded : (name : List ℕ) (len : ℕ) → Octets name → OctetArray 64 (padded name len)
unfolding padded
array_padded name len o = array_tabulate _ (λ k. cond_holds (λ n. n < 256) (ltb k len) {x = octet_at name k} {y = 0} (o k) (omega arith)) 64
