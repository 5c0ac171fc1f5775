-- Laws of octets from a place on, and of the numbers that they hold.
use mathlib.Core.Path.{◌≡◌, refl, ◌∙◌}
use mathlib.Core.List.{List, [], ◌∷◌, ◌++◌}
use Prim.Native.Nat.{ℕ, zero, suc, ◌+◌, ◌≤◌}
use native.Mathlib.Nat.{add-zero}
use native.Mathlib.Omega.{arith}
use lib.ListN.{length, take, drop, length-drop}
use lib.Seq.{take-suc, get_or-drop}
use Rattle.std.specs.Int.{w16, w32, w64, from_le_bytes}
use Rattle.records.specs.Octets.{octet_at, tabulate}
use Rattle.lent.specs.Octets.{octets_at, number16, number32, number64}

-- octets that are lent as a part of a slice
pub part_octets : (octets : List ℕ) (at n : ℕ) → at + n ≤ length octets → take n (drop at octets) ≡ octets_at octets at n
unfolding tabulate
part_octets octets at zero h = refl
part_octets octets at (suc n) h =
    let size = length-drop at octets in
    let earlier = part_octets octets at n (omega arith) in
    let last = get_or-drop at octets n 0 in
    take-suc (drop at octets) n 0 (omega (arith, size)) ∙ λ i. earlier i ++ last i ∷ []

-- the numbers in octets from a place on
module _ (octets : List ℕ) (at : ℕ) {copied : List ℕ} where
  pub number16_is : copied ≡ octets_at octets at 2 → from_le_bytes w16 copied ≡ number16 octets at
  unfolding tabulate
  number16_is e =
      let o = λ (k : ℕ). octet_at octets (at + k) in
      let l : octets_at octets at 2 ≡ o 0 ∷ o 1 ∷ [] = refl in
      rw (e ∙ l, add-zero) (omega arith)

  pub number32_is : copied ≡ octets_at octets at 4 → from_le_bytes w32 copied ≡ number32 octets at
  unfolding tabulate
  number32_is e =
      let o = λ (k : ℕ). octet_at octets (at + k) in
      let l : octets_at octets at 4 ≡ o 0 ∷ o 1 ∷ o 2 ∷ o 3 ∷ [] = refl in
      let a : at + 2 + 1 ≡ at + 3 = omega arith in
      rw (e ∙ l, add-zero, a) (omega arith)

  pub number64_is : copied ≡ octets_at octets at 8 → from_le_bytes w64 copied ≡ number64 octets at
  unfolding tabulate
  number64_is e =
      let o = λ (k : ℕ). octet_at octets (at + k) in
      let l : octets_at octets at 8 ≡ o 0 ∷ o 1 ∷ o 2 ∷ o 3 ∷ o 4 ∷ o 5 ∷ o 6 ∷ o 7 ∷ [] = refl in
      let a : at + 2 + 1 ≡ at + 3 = omega arith in
      let b : at + 4 + 1 ≡ at + 5 = omega arith in
      let c : at + 4 + 2 ≡ at + 6 = omega arith in
      let d : at + 6 + 1 ≡ at + 7 = omega arith in
      rw (e ∙ l, add-zero, a, b, c, d) (omega arith)
