-- Laws of numbers in octets, one octet at a time.
use mathlib.Core.Path.{◌≡◌, sym, ◌∙◌}
use mathlib.Core.List.{List, [], ◌∷◌}
use Prim.Native.Nat.{ℕ, suc, ◌+◌, ◌*◌, ◌^◌, ◌≤◌, ◌<◌, min}
use native.Mathlib.Nat.{add-zero, pow-suc, pow-le-pow_right}
use native.Mathlib.Numerals.{add-one}
use native.Mathlib.Omega.{arith}
use mathlib.Core.Bool.{cond}
use borrow.Author.Tests.{le-leb, lt-leb}
use lib.Dec.{leb}
use lib.ListN.{length, take, drop, length-take, drop_of_length-le}
use lib.Seq.{drop-cons, get_or-take, take_all}
use Rattle.records.specs.Legal.{Octets}
use Rattle.records.specs.Octets.{octet_at}
use Rattle.wire.specs.Number.{big_endian_from, big_endian, unsigned_int}
use Rattle.std.proofs.Common.{Some, None, Result, Ok, Err}
use Rattle.std.specs.Result.{OkIff, result_ok}

module _ (octets : List ℕ) (value i : ℕ) where
  pub number_more :
      i < length octets → i < 4
      → big_endian_from value (drop i (take 4 octets)) ≡ big_endian_from (value * 256 + octet_at octets i) (drop (i + 1) (take 4 octets))
  unfolding big_endian_from
  number_more h l =
      let w : i < length (take 4 octets) = simp length-take (omega arith) in
      rw (add-one, drop-cons (take 4 octets) i 0 w, get_or-take 4 octets i 0 l)

  pub number_end : min (length octets) 4 ≤ i → big_endian_from value (drop i (take 4 octets)) ≡ value
  unfolding big_endian_from
  number_end h = rw (drop_of_length-le (take 4 octets) {i = i} (simp length-take (omega arith)))

-- a number of i octets and one more
pub number_fits : (i value octet : ℕ) → value < 256 ^ i → octet < 256 → value * 256 + octet < 256 ^ (i + 1)
number_fits i value octet h l = rw (add-one, pow-suc) (omega arith)

-- a number of i octets and all that follow
number_all_fits : (octets : List ℕ) → Octets octets → (i value : ℕ) → value < 256 ^ i → big_endian_from value octets < 256 ^ (i + length octets)
unfolding big_endian_from
number_all_fits [] o i value h = rw add-zero h
number_all_fits (octet ∷ rest) o i value h =
    let e : i + suc (length rest) ≡ i + 1 + length rest = omega arith in
    rw e (number_all_fits rest (λ k. o (suc k)) (i + 1) (value * 256 + octet) (number_fits i value octet h (o 0)))

-- a number of n octets at most
pub number_below : (octets : List ℕ) → Octets octets → (n : ℕ) → length octets ≤ n → big_endian octets < 256 ^ n
number_below octets o n h =
    omega (arith, number_all_fits octets o 0 0 (omega arith), pow-le-pow_right {n = 256} (omega arith) {i = 0 + length octets} {j = n} (omega arith))

-- three octets at most leave room for a fourth in 32 bits
pub fourth_fits : (i value : ℕ) → i < 4 → value < 256 ^ i → value < 2 ^ 24
fourth_fits i value h l = omega (arith, pow-le-pow_right {n = 256} (omega arith) {i = i} {j = 3} (omega arith))

-- an unsigned integer, by its length and its value
module _ (octets : List ℕ) where
  pub unsigned_none : length octets ≡ 0 → unsigned_int octets ≡ None
  unfolding unsigned_int
  unsigned_none e = rw e

  pub unsigned_long : 4 < length octets → unsigned_int octets ≡ None
  unfolding unsigned_int
  unsigned_long h = rw (le-leb 1 (length octets) (omega arith), lt-leb (length octets) 4 h)

  module _ (one : 1 ≤ length octets) (four : length octets ≤ 4) {value : ℕ} (e : value ≡ big_endian (take 4 octets)) where
    unsigned_limited : unsigned_int octets ≡ cond (leb value 65535) (Some value) None
    unfolding unsigned_int
    unsigned_limited = rw (le-leb 1 (length octets) one, le-leb (length octets) 4 four, e, take_all 4 octets four)

    -- by its conversion to 16 bits
    pub unsigned_converted : {E : Type 0} (r : Result ℕ E) → OkIff r (value < 65536) value → result_ok r ≡ unsigned_int octets
    unsigned_converted (Ok v) c = rw (c.1) (sym (unsigned_limited ∙ rw (le-leb value 65535 (omega arith))))
    unsigned_converted (Err x) c = sym (unsigned_limited ∙ rw (lt-leb value 65535 (omega arith)))
