-- Laws of names: octets compared, stored and copied one by one.
use Rattle.std.proofs.Common.{◌≡◌, ℕ, zero, suc, ◌+◌, ◌<◌, ◌≤◌, true, false, cond, eqb, ltb, List, [], ◌∷◌, ◌++◌, length, get_or, drop, set, replicate, sym, refl, ap, ◌∙◌, ⊎_elim, append_assoc, append-nil, le_of_suc-le-suc, not-suc-le-zero, eq-or-lt_of_le, zero-add, add-one, arith, length-append, length-set, drop_of_length-le, length-take-le, take-append-drop, take, length-drop, drop-cons, get_or-set_other, get_or-take, get_or-set_same, ext_get_or, le-ltb, lt-ltb, eq-eqb, ne_eqb, eqb-true}
use native.Mathlib.Decide.{ℕ_discrete, dec_lt}
use lib.ListN.{get_or-append}
use lib.Seq.{set_at, set_out, set-get_or, get_or_at}
use Rattle.records.proofs.Booleans.{cond_yes, cond_no, and-true, and-false, and_no, and_both}
use Rattle.records.proofs.Lists.{get_d_constant}
use Rattle.records.specs.Name.{valid_len, name_of, padded}
use Rattle.records.specs.Octets.{tabulate, octet_at, agree, overwritten}

module _ (f g : ℕ → ℕ) (i : ℕ) where
  pub agree_more : f i ≡ g i → agree f g (i + 1) ≡ agree f g i
  unfolding agree
  agree_more e = rw (add-one, eq-eqb (f i) (g i) e) (and-true (agree f g i))

-- f and g do not agree where one place differs
pub agree_no : (f g : ℕ → ℕ) (n k : ℕ) → k < n → (f k ≡ g k → ⊥) → agree f g n ≡ false
unfolding agree
agree_no f g zero k h d = absurd (not-suc-le-zero h)
agree_no f g (suc n) k h d =
    ⊎_elim (λ e. rw (ne_eqb (f n) (g n) (λ q. d (rw e q))) (and-false (agree f g n)))
    (λ l. and_no (eqb (f n) (g n)) (agree_no f g n k l d))
    (eq-or-lt_of_le (le_of_suc-le-suc h))

pub length_tabulate : (f : ℕ → ℕ) (n : ℕ) → length (tabulate f n) ≡ n
unfolding tabulate
length_tabulate f zero = refl
length_tabulate f (suc n) = let ih = length_tabulate f n in simp length-append (omega arith)

module _ (l : List ℕ) (f : ℕ → ℕ) where
  pub overwritten_more :
      (start i : ℕ) {at v : ℕ} {out : List ℕ}
      → out ≡ overwritten l start f i → at ≡ start + i → v ≡ f i → set out at v ≡ overwritten l start f (i + 1)
  unfolding overwritten
  overwritten_more start i o a e = rw (add-one, o, a, e)

  pub length_overwritten : (start n : ℕ) → length (overwritten l start f n) ≡ length l
  unfolding overwritten
  length_overwritten start zero = refl
  length_overwritten start (suc n) = simp length-set (length_overwritten start n)

  -- nothing is written past the list's end
  pub overwritten_past : (start n m : ℕ) → length l ≤ start + n → n ≤ m → overwritten l start f m ≡ overwritten l start f n
  unfolding overwritten
  overwritten_past start n zero h w = let e : n ≡ 0 = omega arith in rw e
  overwritten_past start n (suc m) h w = go (ℕ_discrete n (suc m)) (overwritten_past start n m h)
    where
      go : Dec (n ≡ suc m) → (n ≤ m → overwritten l start f m ≡ overwritten l start f n)
          → set (overwritten l start f m) (start + m) (f m) ≡ overwritten l start f n
      go (yes e) ih = rw e
      go (no e) ih = set_out (overwritten l start f m) (start + m) (f m) (omega (arith, length_overwritten start m)) ∙ ih (omega arith)

  pub overwritten_none : (start m : ℕ) → length l ≤ start → overwritten l start f m ≡ l
  unfolding overwritten
  overwritten_none start m h = overwritten_past start 0 m (omega arith) (omega arith)

  -- the list in front of the places, what is written there, and the list behind them
  overwritten_parts : (start n : ℕ) → start + n ≤ length l → overwritten l start f n ≡ take start l ++ (tabulate f n ++ drop n (drop start l))
  unfolding overwritten tabulate
  overwritten_parts start zero h = sym (take-append-drop start l)
  overwritten_parts start (suc n) h =
      let room : n < length (drop start l) = simp length-drop (omega arith) in
      rw (overwritten_parts start n (omega arith), drop-cons (drop start l) n 0 room, ← append_assoc)
      (set_at (take start l ++ tabulate f n) _ (drop (suc n) (drop start l)) (f n) (start + n)
      (simp (length-append, length_tabulate) (omega (arith, length-take-le start l (omega arith))))
      ∙ simp append_assoc)

  pub overwritten_whole : (n : ℕ) → length l ≡ n → overwritten l 0 f n ≡ tabulate f n
  overwritten_whole n h =
      overwritten_parts 0 n (omega arith)
      ∙ ap (λ (r : List ℕ). tabulate f n ++ r) (drop_of_length-le l {i = n} (omega arith))
      ∙ append-nil (tabulate f n)

-- ---- octet by octet

pub tabulate_at : (f : ℕ → ℕ) (n k d : ℕ) → k < n → get_or (tabulate f n) k d ≡ f k
unfolding tabulate
tabulate_at f zero k d h = absurd (not-suc-le-zero h)
tabulate_at f (suc n) k d h =
    ⊎_elim (λ e. rw e (get_or_at (tabulate f n) (f n) [] d n (length_tabulate f n)))
    (λ l. get_or-append (tabulate f n) (f n ∷ []) d k (omega (arith, length_tabulate f n)) ∙ tabulate_at f n k d l)
    (eq-or-lt_of_le (le_of_suc-le-suc h))

module _ (octets : List ℕ) (len : ℕ) where
  pub length_padded : length (padded octets len) ≡ 64
  unfolding padded
  length_padded = length_tabulate _ 64

  -- below the name's length its octets, zeros behind
  pub padded_at : (k : ℕ) → k < 64 → octet_at (padded octets len) k ≡ cond (ltb k len) (octet_at octets k) 0
  unfolding padded
  padded_at k h = tabulate_at _ 64 k 0 h

module _ (f g : ℕ → ℕ) where
  pub agree_at : (n : ℕ) → agree f g n ≡ true → (k : ℕ) → k < n → f k ≡ g k
  unfolding agree
  agree_at zero e k h = absurd (not-suc-le-zero h)
  agree_at (suc n) e k h =
      let b = and_both (agree f g n) (eqb (f n) (g n)) e in
      ⊎_elim (λ i. rw i (eqb-true (f n) (g n) b.1)) (λ l. agree_at n b.0 k l)
      (eq-or-lt_of_le (le_of_suc-le-suc h))

  pub agree_all : (n : ℕ) → ((k : ℕ) → k < n → f k ≡ g k) → agree f g n ≡ true
  unfolding agree
  agree_all zero h = refl
  agree_all (suc n) h = rw (agree_all n (λ k l. h k (omega arith)), eq-eqb (f n) (g n) (h n (omega arith)))

  pub tabulate_same : (n : ℕ) → ((k : ℕ) → k < n → f k ≡ g k) → tabulate f n ≡ tabulate g n
  unfolding tabulate
  tabulate_same zero h = refl
  tabulate_same (suc n) h = rw (tabulate_same n (λ k l. h k (omega arith)), h n (omega arith))

-- ---- what a slot holds after a name is stored

module _ (l : List ℕ) (start : ℕ) (f : ℕ → ℕ) where
  pub overwritten_in : (n k : ℕ) → k < n → start + k < length l → octet_at (overwritten l start f n) (start + k) ≡ f k
  unfolding overwritten
  overwritten_in zero k h w = absurd (not-suc-le-zero h)
  overwritten_in (suc n) k h w = go (ℕ_discrete k n) (overwritten_in n k)
    where
      go : Dec (k ≡ n) → (k < n → start + k < length l → octet_at (overwritten l start f n) (start + k) ≡ f k)
          → octet_at (set (overwritten l start f n) (start + n) (f n)) (start + k) ≡ f k
      go (yes e) ih = rw e (get_or-set_same (overwritten l start f n) (start + n) (f n) 0 (omega (arith, length_overwritten l f start n)))
      go (no e) ih = get_or-set_other (overwritten l start f n) (start + n) (start + k) (f n) 0 (λ q. e (omega arith)) ∙ ih (omega arith) w

  pub overwritten_out : (n k : ℕ) → ((j : ℕ) → j < n → k ≡ start + j → ⊥) → octet_at (overwritten l start f n) k ≡ octet_at l k
  unfolding overwritten
  overwritten_out zero k o = refl
  overwritten_out (suc n) k o =
      get_or-set_other (overwritten l start f n) (start + n) k (f n) 0 (o n (omega arith)) ∙ overwritten_out n k (λ j h. o j (omega arith))

-- ---- names as keys

module _ (octets : List ℕ) (len : ℕ) (size : length octets ≡ 64) where
  pub length_name : length (name_of octets len) ≡ valid_len len
  length_name = length-take-le (valid_len len) octets (omega arith)

-- a name of at most 64 octets is what its padded octets state
pub name_padded : (name : List ℕ) → length name ≤ 64 → name_of (padded name (length name)) (length name) ≡ name
name_padded name h =
    let size = length-take-le (valid_len (length name)) (padded name (length name)) (omega (arith, length_padded name (length name))) in
    ext_get_or 0 _ name (size ∙ omega arith) (λ k l.
    let m : k < length name = omega (arith, size) in
    get_or-take (valid_len (length name)) (padded name (length name)) k 0 (omega arith)
    ∙ padded_at name (length name) k (omega arith)
    ∙ cond_yes _ _ (lt-ltb k (length name) m))

-- octets copied in one go
tabulate_octets : (l : List ℕ) (n : ℕ) → n ≤ length l → tabulate (octet_at l) n ≡ take n l
tabulate_octets l n h =
    ext_get_or 0 _ (take n l) (length_tabulate (octet_at l) n ∙ sym (length-take-le n l h)) (λ k m.
    let i : k < n = omega (arith, length_tabulate (octet_at l) n) in
    tabulate_at (octet_at l) n k 0 i ∙ sym (get_or-take n l k 0 i))

pub overwritten_copied : (l octets : List ℕ) (start n : ℕ) {k : ℕ} {copied : List ℕ} → k ≡ n → copied ≡ take n octets
    → n ≤ length octets → start + n ≤ length l
    → take start l ++ (copied ++ drop k (drop start l)) ≡ overwritten l start (octet_at octets) n
overwritten_copied l octets start n e p h m =
    rw (e, p, ← tabulate_octets octets n h) (sym (overwritten_parts l (octet_at octets) start n m))

-- a name put over zeros
padded_put_at : (octets : List ℕ) (k : ℕ) → k < 64 → Dec (k < length octets)
    → octet_at (overwritten (replicate 64 0) 0 (octet_at octets) (length octets)) k ≡ octet_at (padded octets (length octets)) k
padded_put_at octets k h (yes l) =
    rw zero-add at (overwritten_in (replicate 64 0) 0 (octet_at octets) (length octets) k l (omega arith))
    ∙ sym (padded_at octets (length octets) k h ∙ cond_yes _ _ (lt-ltb k (length octets) l))
padded_put_at octets k h (no l) =
    overwritten_out (replicate 64 0) 0 (octet_at octets) (length octets) k (λ j i e. l (omega arith))
    ∙ get_d_constant 64 k 0
    ∙ sym (padded_at octets (length octets) k h ∙ cond_no _ _ (le-ltb k (length octets) (omega arith)))

pub padded_put : (octets : List ℕ) → overwritten (replicate 64 0) 0 (octet_at octets) (length octets) ≡ padded octets (length octets)
padded_put octets = let size = length_overwritten (replicate 64 0) (octet_at octets) 0 (length octets) in
    ext_get_or 0 _ _ (size ∙ sym (length_padded octets (length octets))) (λ k h. padded_put_at octets k (omega (arith, size)) (dec_lt k (length octets)))

-- what a slot holds is the same when it is stored again
pub overwritten_again : (l : List ℕ) (start : ℕ) (f : ℕ → ℕ) (n : ℕ) → ((k : ℕ) → k < n → octet_at l (start + k) ≡ f k) → overwritten l start f n ≡ l
unfolding overwritten
overwritten_again l start f zero e = refl
overwritten_again l start f (suc n) e =
    rw (overwritten_again l start f n (λ k h. e k (omega arith)), ← e n (omega arith)) (set-get_or l (start + n) 0)
