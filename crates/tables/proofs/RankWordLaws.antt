-- Laws of a word of eight ranks: what is done to all of them at once, and to one.
use Rattle.std.proofs.Common.{◌≡◌, ℕ, zero, suc, ◌+◌, ◌-◌, ◌*◌, ◌/◌, ◌%◌, ◌^◌, ◌<◌, ◌≤◌, sym, refl, ap, ◌∙◌, pow-suc, arith, pow-add, shl_exact, le-ltb, lt-ltb}
use mathlib.Core.Logic.{by_cases}
use native.Mathlib.Decide.{dec_lt}
use lib.Bits.{bit_and, and_mask, and_high}
use Rattle.records.proofs.Booleans.{cond_yes, cond_no}
use Rattle.tables.proofs.PackedLaws.{packed_same, packed_below, packed_sum, packed_times, packed_and, octets_packed, packed_updated, updated_below}
use Rattle.tables.specs.Order.{raised, rank_in}
use Rattle.tables.specs.Packed.{packed, octet_of, updated}

-- ---- the low seven bits

pub low_ranks : (w : ℕ) → w < 2 ^ 64 → bit_and w 0x7f7f7f7f7f7f7f7f ≡ packed (rank_in w) 8
unfolding packed
low_ranks w h =
    ap (λ (x : ℕ). bit_and x 0x7f7f7f7f7f7f7f7f) (sym (octets_packed w 8 h))
    ∙ packed_and (octet_of w) (λ k. 127) 8 (λ k l. omega arith) (λ k l. omega arith)
    ∙ packed_same (λ k. bit_and (octet_of w k) 127) (rank_in w) 8 (λ k l. and_mask (octet_of w k) 7 ∙ omega arith)

pub ranks_most : (w : ℕ) → packed (rank_in w) 8 ≤ 0x7f7f7f7f7f7f7f7f
unfolding packed
ranks_most w = omega arith

-- ---- the ranks below one raised

-- a number in each octet
same_octets : (c : ℕ) → 0x0101010101010101 * c ≡ packed (λ k. c) 8
unfolding packed
same_octets c = omega arith

module _ (old : ℕ) (one : 1 ≤ old) (small : old < 128) where
  -- 1 in the octets whose rank is below, and 0 in the others
  abbrev below : ℕ → ℕ
  below x = 1 - (x + (128 - old)) / 128

  raised_by : (x : ℕ) → x < 128 → x + below x ≡ raised old x
  raised_by x h =
      by_cases (dec_lt x old)
      (λ l. omega arith ∙ sym (cond_yes _ _ (lt-ltb x old l)))
      (λ l. omega arith ∙ sym (cond_no _ _ (le-ltb x old (omega arith))))

  -- the high bit of a sum
  high_bit : (x : ℕ) → x < 128 → bit_and (x + (128 - old)) 128 ≡ 128 * ((x + (128 - old)) / 128)
  high_bit x h = and_high (x + (128 - old)) 1 7 ∙ omega arith

  module _ (r : ℕ → ℕ) (b : (k : ℕ) → r k < 128) where
    sums : packed r 8 + 0x0101010101010101 * (128 - old) ≡ packed (λ k. r k + (128 - old)) 8
    sums = ap (λ (x : ℕ). packed r 8 + x) (same_octets (128 - old)) ∙ packed_sum r (λ k. 128 - old) 8

    high_bits : bit_and (packed (λ k. r k + (128 - old)) 8) 0x8080808080808080 ≡ 128 * packed (λ k. (r k + (128 - old)) / 128) 8
    unfolding packed
    high_bits =
        packed_and (λ k. r k + (128 - old)) (λ k. 128) 8 (λ k l. omega (arith, b k)) (λ k l. omega arith)
        ∙ packed_same (λ k. bit_and (r k + (128 - old)) 128) (λ k. 128 * ((r k + (128 - old)) / 128)) 8 (λ k l. high_bit (r k) (b k))
        ∙ sym (packed_times 128 (λ k. (r k + (128 - old)) / 128) 8)

    raised_all : packed r 8 + (0x8080808080808080 - 128 * packed (λ k. (r k + (128 - old)) / 128) 8) / 128 ≡ packed (λ k. raised old (r k)) 8
    raised_all =
        let q : ℕ → ℕ = λ k. (r k + (128 - old)) / 128 in
        let n : ℕ → ℕ = λ k. below (r k) in
        let e : packed n 8 + packed q 8 ≡ 0x0101010101010101 =
        packed_sum n q 8 ∙ packed_same (λ k. n k + q k) (λ k. 1) 8 (λ k l. omega (arith, b k)) ∙ sym (same_octets 1) in
        let d : (0x8080808080808080 - 128 * packed q 8) / 128 ≡ packed n 8 = omega (arith, e) in
        ap (λ (x : ℕ). packed r 8 + x) d ∙ packed_sum r n 8
        ∙ packed_same (λ k. r k + n k) (λ k. raised old (r k)) 8 (λ k l. raised_by (r k) (b k))

  -- as `raised_word` goes
  pub raised_word_lem : (w : ℕ) {low : ℕ} → low ≡ packed (rank_in w) 8
      → low + (0x8080808080808080 - bit_and (low + 0x0101010101010101 * (128 - old)) 0x8080808080808080) / 128
      ≡ packed (λ j. raised old (rank_in w j)) 8
  raised_word_lem w e =
      let r = rank_in w in
      let b : (k : ℕ) → r k < 128 = λ k. omega arith in
      rw (e, sums r b, high_bits r b) (raised_all r b)

-- ---- one octet replaced

-- 256 ^ k as the shifts have it
octet_power : (k : ℕ) → 2 ^ (8 * k) ≡ 256 ^ k
octet_power zero = refl
octet_power (suc k) =
    let e : 8 * suc k ≡ 8 * k + 8 = omega arith in
    ap (λ (n : ℕ). 2 ^ n) e ∙ pow-add 2 (8 * k) 8 ∙ ap (λ (x : ℕ). x * 256) (octet_power k) ∙ sym (pow-suc 256 k)

pub rank_shifted : (w k : ℕ) → w / 2 ^ (8 * k) % 128 ≡ rank_in w k
rank_shifted w k = ap (λ (p : ℕ). w / p % 128) (octet_power k)

module _ (w place : ℕ) (wide : w < 2 ^ 64) (h : place < 8) {old v : ℕ} (o : octet_of w place ≡ old) (b : v < 256) where
  shifted_octet : (x : ℕ) → x < 256 → x * 2 ^ (8 * place) % 2 ^ 64 ≡ x * 256 ^ place
  shifted_octet x l = shl_exact 8 (8 * place) 64 l (omega arith) ∙ ap (λ (p : ℕ). x * p) (octet_power place)

  -- what the old octet adds to the word is taken off, and what the new one adds is put on
  pub record Replaced (off on : ℕ) : Type 0 where
    pub within : off ≤ w
    pub word : w - off + on ≡ packed (updated (octet_of w) place v) 8
    pub fits : w - off + on < 2 ^ 64

  pub replaced : Replaced (old * 2 ^ (8 * place) % 2 ^ 64) (v * 2 ^ (8 * place) % 2 ^ 64)
  replaced =
      let out = ap (λ (x : ℕ). x * 256 ^ place) o in
      let e = packed_updated (octet_of w) 8 place v h in
      let z = packed_updated (octet_of w) 8 place 0 h in
      let l = packed_below (updated (octet_of w) place v) 8 (λ k m. updated_below (octet_of w) place v k b (omega arith)) in
      rw (shifted_octet old (omega arith), shifted_octet v b) (record {
        within = omega (arith, out, z, octets_packed w 8 wide);
        word = omega (arith, out, z, e, octets_packed w 8 wide);
        fits = omega (arith, out, z, e, l, octets_packed w 8 wide);
      })
