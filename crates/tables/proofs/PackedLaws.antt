-- Laws of octets packed into a word: what is done to the word is done to each octet, and each octet is read back.
use Rattle.std.proofs.Common.{◌≡◌, ℕ, zero, suc, ◌+◌, ◌-◌, ◌*◌, ◌/◌, ◌%◌, ◌^◌, ◌<◌, ◌≤◌, Bool, cond, sym, refl, ap, ◌∙◌, ap₂, not-suc-le-zero, mul_assoc, pow-suc, mul-add, mul_left_comm, arith, eq-eqb, ne_eqb}
use mathlib.Core.Logic.{by_cases}
use native.Mathlib.Decide.{ℕ_discrete}
use native.Mathlib.Nat.{pow-succ', pow-le-pow_right, div-div-eq-div-mul}
use lib.Bits.{bit_and, and_block}
use lib.Dec.{eqb-zero-suc, eqb-suc-zero, eqb-suc-suc}
use Rattle.records.proofs.Booleans.{cond_no}
use Rattle.tables.specs.Packed.{packed, octet_of, updated}

pub packed_same : (f g : ℕ → ℕ) (n : ℕ) → ((k : ℕ) → k < n → f k ≡ g k) → packed f n ≡ packed g n
unfolding packed
packed_same f g zero e = refl
packed_same f g (suc n) e = rw (e 0 (omega arith), packed_same (λ k. f (suc k)) (λ k. g (suc k)) n (λ k l. e (suc k) (omega arith)))

pub packed_below : (f : ℕ → ℕ) (n : ℕ) → ((k : ℕ) → k < n → f k < 256) → packed f n < 256 ^ n
unfolding packed
packed_below f zero b = omega arith
packed_below f (suc n) b = omega (arith, b 0 (omega arith), pow-suc 256 n, packed_below (λ k. f (suc k)) n (λ k l. b (suc k) (omega arith)))

-- ---- word operations, octet by octet

pub packed_sum : (f g : ℕ → ℕ) (n : ℕ) → packed f n + packed g n ≡ packed (λ k. f k + g k) n
unfolding packed
packed_sum f g zero = refl
packed_sum f g (suc n) = omega (arith, packed_sum (λ k. f (suc k)) (λ k. g (suc k)) n)

pub packed_times : (p : ℕ) (f : ℕ → ℕ) (n : ℕ) → p * packed f n ≡ packed (λ k. p * f k) n
unfolding packed
packed_times p f zero = omega arith
packed_times p f (suc n) =
    let rest = packed (λ k. f (suc k)) n in
    mul-add p (f 0) (256 * rest) ∙ ap (λ (x : ℕ). p * f 0 + x) (mul_left_comm p 256 rest ∙ ap (λ (x : ℕ). 256 * x) (packed_times p (λ k. f (suc k)) n))

pub packed_and : (f g : ℕ → ℕ) (n : ℕ) → ((k : ℕ) → k < n → f k < 256) → ((k : ℕ) → k < n → g k < 256)
    → bit_and (packed f n) (packed g n) ≡ packed (λ k. bit_and (f k) (g k)) n
unfolding packed
packed_and f g zero a b = refl
packed_and f g (suc n) a b =
    let p = packed (λ k. f (suc k)) n in
    let q = packed (λ k. g (suc k)) n in
    let ih = packed_and (λ k. f (suc k)) (λ k. g (suc k)) n (λ k l. a (suc k) (omega arith)) (λ k l. b (suc k) (omega arith)) in
    ap₂ bit_and (swapped (f 0) p) (swapped (g 0) q) ∙ and_block 8 p q (f 0) (g 0) (a 0 (omega arith)) (b 0 (omega arith))
    ∙ omega (arith, ih)
  where
    swapped : (x y : ℕ) → x + 256 * y ≡ y * 2 ^ 8 + x
    swapped x y = omega arith

-- ---- octets read

-- an octet but the first of a number is one of its quotient by 256
octet_next : (w k : ℕ) → w / 256 ^ suc k ≡ w / 256 / 256 ^ k
octet_next w k = ap (λ (p : ℕ). w / p) (pow-succ' 256 k) ∙ sym (div-div-eq-div-mul w 256 (256 ^ k))

pub packed_octet : (f : ℕ → ℕ) (n k : ℕ) → ((j : ℕ) → j < n → f j < 256) → k < n → octet_of (packed f n) k ≡ f k
unfolding packed
packed_octet f zero k b h = absurd (not-suc-le-zero h)
packed_octet f (suc n) zero b h = omega (arith, b 0 h)
packed_octet f (suc n) (suc k) b h =
    let rest = packed (λ j. f (suc j)) n in
    let e : (f 0 + 256 * rest) / 256 ≡ rest = omega (arith, b 0 (omega arith)) in
    ap (λ (x : ℕ). x % 256) (octet_next (f 0 + 256 * rest) k ∙ ap (λ (x : ℕ). x / 256 ^ k) e)
    ∙ packed_octet (λ j. f (suc j)) n k (λ j l. b (suc j) (omega arith)) (omega arith)

pub octets_packed : (w n : ℕ) → w < 256 ^ n → packed (octet_of w) n ≡ w
unfolding packed
octets_packed w zero h = omega arith
octets_packed w (suc n) h =
    let rest = packed_same (λ k. octet_of w (suc k)) (octet_of (w / 256)) n (λ k l. ap (λ (x : ℕ). x % 256) (octet_next w k)) in
    omega (arith, rest, octets_packed (w / 256) n (omega (arith, pow-suc 256 n)))

-- ---- one octet replaced

-- a bound of all values, the new one too
pub updated_below : (f : ℕ → ℕ) (i v k : ℕ) {most : ℕ} → v < most → f k < most → updated f i v k < most
updated_below f i v k a b = by_cases (ℕ_discrete k i) (λ q. rw (eq-eqb k i q) a) (λ q. rw (ne_eqb k i q) b)

pub packed_updated : (f : ℕ → ℕ) (n i v : ℕ) → i < n → packed (updated f i v) n + f i * 256 ^ i ≡ packed f n + v * 256 ^ i
unfolding packed
packed_updated f zero i v h = absurd (not-suc-le-zero h)
packed_updated f (suc n) zero v h =
    let e = packed_same (λ k. updated f 0 v (suc k)) (λ k. f (suc k)) n (λ k l. cond_no _ _ (eqb-suc-zero k)) in omega (arith, e)
packed_updated f (suc n) (suc i) v h =
    let r = packed_same (λ k. updated f (suc i) v (suc k)) (updated (λ k. f (suc k)) i v) n
    (λ k l. ap (λ (b : Bool). cond b v (f (suc k))) (eqb-suc-suc k i)) in
    let z : updated f (suc i) v 0 ≡ f 0 = cond_no _ _ (eqb-zero-suc i) in
    omega (arith, r, z, next (f (suc i)), next v, packed_updated (λ k. f (suc k)) n i v (omega arith))
  where
    next : (x : ℕ) → x * 256 ^ suc i ≡ x * 256 ^ i * 256
    next x = ap (λ (p : ℕ). x * p) (pow-suc 256 i) ∙ sym (mul_assoc x (256 ^ i) 256)

-- ---- a word made of eight octets, from the last on

-- a number has the octets of f from k on
pub record PackedFrom (f : ℕ → ℕ) (k out : ℕ) : Type 0 where
  pub short : k ≤ 8
  pub octets : out ≡ packed (λ j. f (k + j)) (8 - k)

pub packed_last : (f : ℕ → ℕ) → PackedFrom f 8 0
unfolding packed
packed_last f = record { short = omega arith; octets = refl }

module _ (f : ℕ → ℕ) {k out : ℕ} (p : PackedFrom f k out) where
  -- the octet before them
  module _ (h : 0 < k) {first : ℕ} (e : first ≡ f (k - 1)) where
    pub packed_next : PackedFrom f (k - 1) (first + 256 * out)
    unfolding packed
    packed_next =
        let n : 8 - (k - 1) ≡ suc (8 - k) = omega (arith, p.short) in
        let z : k - 1 ≡ k - 1 + 0 = omega arith in
        let rest = packed_same (λ j. f (k + j)) (λ j. f (k - 1 + suc j)) (8 - k) (λ j l. ap f (omega arith)) in
        record { short = omega (arith, p.short); octets = rw n (omega (arith, e ∙ ap f z, p.octets ∙ rest)) }

    pub packed_fits : ((j : ℕ) → j < 8 → f j < 256) → first + 256 * out < 2 ^ 64
    packed_fits b =
        let w = packed_below (λ j. f (k - 1 + j)) (8 - (k - 1)) (λ j l. b (k - 1 + j) (omega arith)) in
        let m = pow-le-pow_right {n = 256} (omega arith) {i = 8 - (k - 1)} {j = 8} (omega arith) in
        omega (arith, packed_next.octets, w, m)
