-- Laws of tables by name: the words of two keys that agree, words stored at once, and a comparison of keys that comes to the name.
use Rattle.std.proofs.Common.{◌≡◌, ℕ, ◌+◌, ◌-◌, ◌*◌, ◌<◌, ◌≤◌, Bool, true, List, ◌++◌, length, get_or, take, drop, sym, ap, ◌∙◌, arith, length-append, length-drop, length-take-le, get_or-append-add, get_or-drop, get_or-take, ext_get_or, lt-ltb, eq-eqb}
use native.Mathlib.Decide.{dec_lt}
use borrow.Rule.Slice.PartMut.{put_mid}
use lib.ListN.{get_or-append}
use Rattle.records.proofs.Booleans.{and_yes}
use Rattle.records.proofs.NameLaws.{length_overwritten, overwritten_in, overwritten_out}
use Rattle.records.specs.Octets.{agree, overwritten}
use Rattle.tables.specs.Named.{has_key}

-- what agrees up to k agrees up to n, where k is n
pub agree_upto : (f g : ℕ → ℕ) (k n : ℕ) → agree f g k ≡ true → k ≡ n → true ≡ agree f g n
agree_upto f g k n e q = sym e ∙ ap (agree f g) q

-- words stored at once, and each
module _ (l p : List ℕ) (start n : ℕ) (f : ℕ → ℕ) (h : start + n ≤ length l) (z : length p ≡ n) (e : (k : ℕ) → k < n → get_or p k 0 ≡ f k) where
  before : length (take start l) ≡ start
  before = length-take-le start l (omega arith)

  length_mid : length (put_mid start n l p) ≡ length l
  length_mid = omega (
    arith,
    before,
    length-append (take start l) (p ++ drop n (drop start l)),
    length-append p (drop n (drop start l)),
    length-drop start l,
    length-drop n (drop start l),
  )

  pub words_written : put_mid start n l p ≡ overwritten l start f n
  words_written = ext_get_or 0 _ _ (length_mid ∙ sym (length_overwritten l f start n)) (λ k w. go k w (dec_lt k start) (dec_lt k (start + n)))
    where
      rest : List ℕ
      rest = drop n (drop start l)

      go : (k : ℕ) → k < length (put_mid start n l p) → Dec (k < start) → Dec (k < start + n)
          → get_or (put_mid start n l p) k 0 ≡ get_or (overwritten l start f n) k 0
      go k w (yes a) d =
          get_or-append (take start l) (p ++ rest) 0 k (omega (arith, before))
          ∙ get_or-take start l k 0 a ∙ sym (overwritten_out l start f n k (λ j m q. omega arith))
      go k w (no a) (yes b) =
          let j = k - start in
          let at : k ≡ length (take start l) + j = omega (arith, before) in
          let here : k ≡ start + j = omega arith in
          ap (λ (x : ℕ). get_or (put_mid start n l p) x 0) at
          ∙ get_or-append-add (take start l) (p ++ rest) j 0
          ∙ get_or-append p rest 0 j (omega arith) ∙ e j (omega arith)
          ∙ sym (ap (λ (x : ℕ). get_or (overwritten l start f n) x 0) here ∙ overwritten_in l start f n j (omega arith) (omega arith))
      go k w (no a) (no b) =
          let j = k - start - n in
          let at : k ≡ length (take start l) + (length p + j) = omega (arith, before) in
          let here : start + (n + j) ≡ k = omega arith in
          ap (λ (x : ℕ). get_or (put_mid start n l p) x 0) at
          ∙ get_or-append-add (take start l) (p ++ rest) (length p + j) 0
          ∙ get_or-append-add p rest j 0
          ∙ get_or-drop n (drop start l) j 0 ∙ get_or-drop start l (n + j) 0
          ∙ ap (λ (x : ℕ). get_or l x 0) here ∙ sym (overwritten_out l start f n k (λ i m q. omega arith))

-- n words of a list from one on
pub words_from : (l : List ℕ) (start n : ℕ) → start + n ≤ length l → (length (take n (drop start l)) ≡ n)
    × ((k : ℕ) → k < n → get_or (take n (drop start l)) k 0 ≡ get_or l (start + k) 0)
words_from l start n h = (
  length-take-le n (drop start l) (omega (arith, length-drop start l)),
  λ k w. get_or-take n (drop start l) k 0 w ∙ get_or-drop start l k 0,
)

-- a comparison of keys that comes to the name
module _ (start : ℕ) (t key : List ℕ) (slot : ℕ) (h : slot < 16) (e : get_or t (start + slot) 0 ≡ get_or key 0 0) where
  pub name_decides : {r : Bool} → get_or t (start + 16 + slot) 0 ≡ get_or key 1 0
      → r ≡ agree (λ k. get_or t (start + 32 + slot * 8 + k) 0) (λ k. get_or key (k + 2) 0) 8 → r ≡ has_key start t key slot
  unfolding has_key
  name_decides l q =
      sym (and_yes (lt-ltb slot 16 h) (and_yes (eq-eqb (get_or t (start + slot) 0) (get_or key 0 0) e)
      (and_yes (eq-eqb (get_or t (start + 16 + slot) 0) (get_or key 1 0) l) (sym q))))
