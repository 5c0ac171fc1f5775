-- Laws of source addresses: six octets and their number of 48 bits say the same.
use Prim.Native.Nat.{ℕ, zero, suc, ◌+◌, ◌*◌, ◌/◌, ◌%◌, ◌^◌, ◌<◌}
use mathlib.Core.List.{List, [], ◌∷◌}
use mathlib.Core.Path.{◌≡◌, refl, sym, ◌∙◌, ap}
use native.Mathlib.Omega.{arith}
use lib.Seq.{ext_get_or}
use Rattle.records.specs.Legal.{Octets, OctetArray}
use Rattle.records.specs.Octets.{octet_at}
use Rattle.inspection.specs.Address.{address_of}

-- the six octets of a number, the most significant first
unfoldable pub address_octets : ℕ → List ℕ
address_octets n = n / 2 ^ 40 % 256 ∷ n / 2 ^ 32 % 256 ∷ n / 2 ^ 24 % 256 ∷ n / 2 ^ 16 % 256 ∷ n / 2 ^ 8 % 256 ∷ n % 256 ∷ []

-- a number and its quotients, octet by octet
joined :
    {n : ℕ} (p q r s t a b c d e f : ℕ)
    → n ≡ p * 256 + f → p ≡ q * 256 + e → q ≡ r * 256 + d → r ≡ s * 256 + c → s ≡ t * 256 + b → t ≡ a
    → a * 2 ^ 40 + b * 2 ^ 32 + c * 2 ^ 24 + d * 2 ^ 16 + e * 2 ^ 8 + f ≡ n
joined p q r s t a b c d e f hf he hd hc hb ha = omega arith

module _ (n : ℕ) where
  pub address_octets_lem : OctetArray 6 (address_octets n)
  unfolding address_octets
  address_octets_lem = record { size = refl; octets = below }
    where
      below : Octets (address_octets n)
      below zero = omega arith
      below (suc zero) = omega arith
      below (suc (suc zero)) = omega arith
      below (suc (suc (suc zero))) = omega arith
      below (suc (suc (suc (suc zero)))) = omega arith
      below (suc (suc (suc (suc (suc zero))))) = omega arith
      below (suc (suc (suc (suc (suc (suc k)))))) = omega arith

  pub address_back : n < 2 ^ 48 → address_of (address_octets n) ≡ n
  unfolding address_octets address_of
  address_back h =
      joined (n / 2 ^ 8) (n / 2 ^ 16) (n / 2 ^ 24) (n / 2 ^ 32) (n / 2 ^ 40)
      (n / 2 ^ 40 % 256) (n / 2 ^ 32 % 256) (n / 2 ^ 24 % 256) (n / 2 ^ 16 % 256) (n / 2 ^ 8 % 256) (n % 256)
      (omega arith) (omega arith) (omega arith) (omega arith) (omega arith) (omega arith)

module _ (a : List ℕ) (o : OctetArray 6 a) where
  pub address_fits : address_of a < 2 ^ 48
  unfolding address_of
  address_fits = let b = o.octets in omega (arith, b 0, b 1, b 2, b 3, b 4, b 5)

  octets_back : address_octets (address_of a) ≡ a
  unfolding address_octets address_of
  octets_back =
      let size = (address_octets_lem (address_of a)).size in
      ext_get_or 0 (address_octets (address_of a)) a (size ∙ sym o.size) (λ k h. at o.octets k (omega (arith, size)))
    where
      at : Octets a → (k : ℕ) → k < 6 → octet_at (address_octets (address_of a)) k ≡ octet_at a k
      at b zero h = omega (arith, b 0, b 1, b 2, b 3, b 4, b 5)
      at b (suc zero) h = omega (arith, b 0, b 1, b 2, b 3, b 4, b 5)
      at b (suc (suc zero)) h = omega (arith, b 0, b 1, b 2, b 3, b 4, b 5)
      at b (suc (suc (suc zero))) h = omega (arith, b 0, b 1, b 2, b 3, b 4, b 5)
      at b (suc (suc (suc (suc zero)))) h = omega (arith, b 0, b 1, b 2, b 3, b 4, b 5)
      at b (suc (suc (suc (suc (suc zero))))) h = omega (arith, b 0, b 1, b 2, b 3, b 4, b 5)
      at b (suc (suc (suc (suc (suc (suc k)))))) h = absurd (omega arith)

pub address_injective : (a b : List ℕ) → OctetArray 6 a → OctetArray 6 b → address_of a ≡ address_of b → a ≡ b
address_injective a b oa ob e = sym (octets_back a oa) ∙ ap address_octets e ∙ octets_back b ob
