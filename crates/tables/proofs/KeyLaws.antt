-- Laws of keys: the words of a name, one at a time, and that keys are equal exactly when their numbers and names are.
use Rattle.std.proofs.Common.{◌≡◌, ℕ, zero, suc, ◌+◌, ◌*◌, ◌/◌, ◌%◌, ◌^◌, ◌<◌, ◌≤◌, ◌↔◌, List, [], ◌∷◌, length, get_or, set, replicate, sym, refl, ap, ◌∙◌, arith, get_or-take, ext_get_or, le-ltb, lt-ltb}
use mathlib.Core.List.{head-eq_of_cons-eq, tail-eq_of_cons-eq}
use mathlib.Core.Logic.{by_cases}
use native.Mathlib.Decide.{dec_lt}
use lib.ListN.{get_or-eq_default}
use Rattle.records.proofs.Booleans.{cond_yes, cond_no}
use Rattle.records.proofs.NameLaws.{tabulate_at, tabulate_same, padded_at, length_name}
use Rattle.records.proofs.OctetLaws.{octets_take}
use Rattle.records.specs.Legal.{Octets, OctetArray}
use Rattle.records.specs.Name.{valid_len, name_of, padded}
use Rattle.records.specs.Octets.{tabulate, octet_at, overwritten}
use Rattle.tables.proofs.PackedLaws.{packed_same, packed_octet}
use Rattle.tables.specs.Key.{name_word, summed, key_of}
use Rattle.tables.specs.Packed.{packed, octet_of}

-- ---- the words of a name

summed_same : (number : ℕ) (f g : ℕ → ℕ) (n : ℕ) → ((k : ℕ) → k < n → f k ≡ g k) → summed number f n ≡ summed number g n
unfolding summed
summed_same number f g zero e = refl
summed_same number f g (suc n) e = rw (e n (omega arith), summed_same number f g n (λ k l. e k (omega arith)))

summed_below : (number : ℕ) (f : ℕ → ℕ) (n : ℕ) → number < 2 ^ 64 → summed number f n < 2 ^ 64
unfolding summed
summed_below number f zero h = h
summed_below number f (suc n) h = omega arith

-- the sum that is made of the words in a key
abbrev sum_in : ℕ → List ℕ → ℕ
sum_in number key = ((((number + get_or key 2 0) % 2 ^ 64 + get_or key 3 0) % 2 ^ 64 + get_or key 4 0) % 2 ^ 64 + get_or key 5 0) % 2 ^ 64

sum_written : (number : ℕ) (f : ℕ → ℕ) {sum : ℕ} {key : List ℕ} → key ≡ overwritten (replicate 10 0) 2 f 8 → sum ≡ sum_in number key → sum ≡ summed number f 4
unfolding summed overwritten
sum_written number f e s = s ∙ ap (sum_in number) e

-- the key that is written: the sum, the length and the words
pub key_written : (f : ℕ → ℕ) (sum len : ℕ) {key : List ℕ} → key ≡ overwritten (replicate 10 0) 2 f 8
    → set (set key 0 sum) 1 len ≡ sum ∷ len ∷ tabulate f 8
unfolding overwritten tabulate
key_written f sum len e = rw e

-- a name that a frame states, and its octets with zeros behind its end, have the same words
module _ (octets : List ℕ) (len : ℕ) (size : length octets ≡ 64) where
  octet_same : (k : ℕ) → k < 64 → octet_at (padded octets (valid_len len)) k ≡ octet_at (name_of octets len) k
  octet_same k h =
      padded_at octets (valid_len len) k h
      ∙ by_cases (dec_lt k (valid_len len))
      (λ l. cond_yes _ _ (lt-ltb k (valid_len len) l) ∙ sym (get_or-take (valid_len len) octets k 0 l))
      (λ l. cond_no _ _ (le-ltb k (valid_len len) (omega arith))
      ∙ sym (get_or-eq_default (name_of octets len) 0 {n = k} (omega (arith, length_name octets len size))))

  name_word_lem : (k : ℕ) → k < 8 → packed (λ j. octet_at (padded octets (valid_len len)) (k * 8 + j)) 8 ≡ name_word (name_of octets len) k
  unfolding name_word
  name_word_lem k h = packed_same _ _ 8 (λ j l. octet_same (k * 8 + j) (omega arith))

  pub key_of_frame : (number : ℕ) {sum valid : ℕ} {name key : List ℕ} → valid ≡ valid_len len → name ≡ padded octets valid
      → key ≡ overwritten (replicate 10 0) 2 (λ k. packed (λ j. octet_at name (k * 8 + j)) 8) 8
      → sum ≡ sum_in number key
      → set (set key 0 sum) 1 valid ≡ key_of number (name_of octets len)
  unfolding key_of
  key_of_frame number {sum} {valid} {name} v n e s =
      let f : ℕ → ℕ = λ k. packed (λ j. octet_at name (k * 8 + j)) 8 in
      let each : (k : ℕ) → k < 8 → f k ≡ name_word (name_of octets len) k = λ k h.
      ap (λ (o : List ℕ). packed (λ j. octet_at o (k * 8 + j)) 8) (n ∙ ap (padded octets) v) ∙ name_word_lem k h in
      let p = sum_written number f e s ∙ summed_same number f (name_word (name_of octets len)) 4 (λ k h. each k (omega arith)) in
      let q = v ∙ sym (length_name octets len size) in
      let r = tabulate_same f (name_word (name_of octets len)) 8 each in
      key_written f sum valid e ∙ (λ i. p i ∷ q i ∷ r i)

-- ---- keys told apart

-- octets packed into equal words are equal
packed_injective : (f g : ℕ → ℕ) (n : ℕ) → ((k : ℕ) → f k < 256) → ((k : ℕ) → g k < 256) → packed f n ≡ packed g n → (k : ℕ) → k < n → f k ≡ g k
packed_injective f g n a b e k h =
    sym (packed_octet f n k (λ j l. a j) h) ∙ ap (λ (w : ℕ). octet_of w k) e ∙ packed_octet g n k (λ j l. b j) h

-- equal sums with equal words were made of equal numbers
summed_injective : (m n : ℕ) (f : ℕ → ℕ) (k : ℕ) → m < 2 ^ 64 → n < 2 ^ 64 → summed m f k ≡ summed n f k → m ≡ n
unfolding summed
summed_injective m n f zero a b e = e
summed_injective m n f (suc k) a b e = summed_injective m n f k a b (omega (arith, e, summed_below m f k a, summed_below n f k b))

-- names of equal words have equal octets
octet_of_word : (a b : List ℕ) → Octets a → Octets b → ((k : ℕ) → k < 8 → name_word a k ≡ name_word b k) → (k : ℕ) → k < 64 → octet_at a k ≡ octet_at b k
unfolding name_word
octet_of_word a b oa ob word k h =
    let i = k / 8 in
    let r = k % 8 in
    let s : i * 8 + r ≡ k = omega arith in
    rw s at (packed_injective (λ j. octet_at a (i * 8 + j)) (λ j. octet_at b (i * 8 + j)) 8 (λ j. oa (i * 8 + j)) (λ j. ob (i * 8 + j))
    (word i (omega arith)) r (omega arith))

-- a number of 64 bits and a name of at most 64 octets
pub record LegalKey (number : ℕ) (name : List ℕ) : Type 0 where
  pub width : number < 2 ^ 64
  pub short : length name ≤ 64
  pub octets : Octets name

-- keys are equal exactly when their numbers and names are
module _ (m n : ℕ) (a b : List ℕ) (la : LegalKey m a) (lb : LegalKey n b) where
  pub key_injective : key_of m a ≡ key_of n b → (m ≡ n) × (a ≡ b)
  unfolding key_of
  key_injective e =
      let words = tail-eq_of_cons-eq (tail-eq_of_cons-eq e) in
      let word : (k : ℕ) → k < 8 → name_word a k ≡ name_word b k = λ k h.
      sym (tabulate_at (name_word a) 8 k 0 h) ∙ ap (λ (l : List ℕ). get_or l k 0) words ∙ tabulate_at (name_word b) 8 k 0 h in
      let size : length a ≡ length b = head-eq_of_cons-eq (tail-eq_of_cons-eq e) in
      let same = ext_get_or 0 a b size (λ k h. octet_of_word a b la.octets lb.octets word k (omega (arith, la.short))) in
      (summed_injective m n (name_word a) 4 la.width lb.width (rw (← same) at (head-eq_of_cons-eq e)), same)

  pub key_equal : (key_of m a ≡ key_of n b) ↔ ((m ≡ n) × (a ≡ b))
  key_equal = (key_injective, λ e. rw (e.0, e.1))

-- the name that a frame states is such a name, so keys of frames are equal exactly when numbers and names are
pub legal_name : (number : ℕ) (octets : List ℕ) (len : ℕ) → number < 2 ^ 64 → OctetArray 64 octets → LegalKey number (name_of octets len)
legal_name number octets len w a =
    record { width = w; short = omega (arith, length_name octets len a.size); octets = octets_take octets a.octets (valid_len len) }

module _ (m n : ℕ) (a b : List ℕ) (i j : ℕ) (wm : m < 2 ^ 64) (wn : n < 2 ^ 64) (oa : OctetArray 64 a) (ob : OctetArray 64 b) where
  pub frame_keys_equal : (key_of m (name_of a i) ≡ key_of n (name_of b j)) ↔ ((m ≡ n) × (name_of a i ≡ name_of b j))
  frame_keys_equal = key_equal m n (name_of a i) (name_of b j) (legal_name m a i wm oa) (legal_name n b j wn ob)

-- ---- the key of no name

summed_zero : (number n : ℕ) → number < 2 ^ 64 → summed number (λ k. 0) n ≡ number
unfolding summed
summed_zero number zero h = refl
summed_zero number (suc n) h = let e = summed_zero number n h in omega (arith, e)

none_keyed : (number : ℕ) → number < 2 ^ 64 → number ∷ 0 ∷ replicate 8 0 ≡ key_of number []
unfolding key_of summed name_word packed tabulate
none_keyed number h = let e = sym (summed_zero number 4 h) in λ i. e i ∷ 0 ∷ replicate 8 0

pub empty_key : (number : ℕ) (octets : List ℕ) {len : ℕ} → number < 2 ^ 64 → len ≡ 0 → number ∷ 0 ∷ replicate 8 0 ≡ key_of number (name_of octets len)
empty_key number octets h e = none_keyed number h ∙ ap (λ (n : ℕ). key_of number (name_of octets n)) (sym e)
