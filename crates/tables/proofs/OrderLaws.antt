-- Laws of the ranks of a table: read, replaced all at once or one of them, and each way out of a use and of forgetting.
use Rattle.std.proofs.Common.{◌≡◌, ℕ, zero, suc, ◌+◌, ◌-◌, ◌*◌, ◌/◌, ◌%◌, ◌<◌, ◌≤◌, Bool, true, false, cond, not, ◌&&◌, eqb, ltb, ◌≢◌, List, length, get_or, set, sym, refl, ap, ◌∙◌, arith, length-set, get_or-set_other, get_or-set_same, ext_get_or, le-ltb, lt-ltb, eq-eqb, ne_eqb, eqb-true}
use mathlib.Core.Logic.{by_cases}
use native.Mathlib.Decide.{ℕ_discrete, dec_lt}
use Rattle.records.proofs.Booleans.{cond_yes, cond_no, and_no, and_yes, and_both, cond_holds}
use Rattle.tables.proofs.PackedLaws.{packed_same, packed_octet, updated_below}
use Rattle.tables.specs.Order.{in_use, raised, lowered, used_rank, forgotten_rank, rank_in, rank_of, reranked}
use Rattle.tables.specs.Order.{rank_set, used_slot, forgotten_slot, free_word, all_free}
use Rattle.tables.specs.Packed.{packed, octet_of, updated}

-- ---- ranks read

pub rank_below : (t : List ℕ) (i : ℕ) → rank_of t i < 128
unfolding rank_of
rank_below t i = omega arith

-- ranks are read from the first two words
pub rank_same : (t u : List ℕ) (i : ℕ) → i < 16 → ((x : ℕ) → x < 2 → get_or u x 0 ≡ get_or t x 0) → rank_of u i ≡ rank_of t i
unfolding rank_of
rank_same t u i h e = ap (λ (w : ℕ). rank_in w (i % 8)) (e (i / 8) (omega arith))

rank_word : (t : List ℕ) (h j i : ℕ) → j < 8 → i ≡ h * 8 + j → rank_of t i ≡ rank_in (get_or t h 0) j
unfolding rank_of
rank_word t h j i l e =
    let a : i / 8 ≡ h = omega arith in
    let b : i % 8 ≡ j = omega arith in
    rw (a, b)

-- whether a slot is in use, by a rank that was read
pub in_use_read : {r rank : ℕ} {b : Bool} → r ≡ rank → ltb r 16 ≡ b → ltb rank 16 ≡ b
in_use_read e h = ap (λ (x : ℕ). ltb x 16) (sym e) ∙ h

-- words of free slots
module _ (t : List ℕ) (e : all_free t ≡ true) where
  free_word_lem : (x : ℕ) → x < 2 → get_or t x 0 ≡ packed (λ k. 16) 8
  unfolding all_free packed
  free_word_lem zero l = eqb-true (get_or t 0 0) free_word (and_both (eqb (get_or t 0 0) free_word) _ e).0
  free_word_lem (suc zero) l = eqb-true (get_or t 1 0) free_word (and_both (eqb (get_or t 0 0) free_word) _ e).1
  free_word_lem (suc (suc x)) l = absurd (omega arith)

  pub free_rank : (i : ℕ) → i < 16 → rank_of t i ≡ 16
  unfolding rank_of
  free_rank i h =
      let o = packed_octet (λ k. 16) 8 (i % 8) (λ k l. omega arith) (omega arith) in
      ap (λ (w : ℕ). rank_in w (i % 8)) (free_word_lem (i / 8) (omega arith)) ∙ omega (arith, o)

  pub none_in_use : (i : ℕ) → i < 16 → in_use (rank_of t) i ≡ false
  none_in_use i h = le-ltb (rank_of t i) 16 (omega (arith, free_rank i h))

-- ---- ranks replaced

-- a table whose ranks alone were changed
pub record OnlyRanks (t u : List ℕ) : Type 0 where
  pub size : length u ≡ length t
  pub rest : (x : ℕ) → 2 ≤ x → get_or u x 0 ≡ get_or t x 0

module _ (t : List ℕ) (f : ℕ → ℕ) where
  pub length_reranked : length (reranked t f) ≡ length t
  unfolding reranked
  length_reranked = simp length-set refl

  pub reranked_out : (x : ℕ) → 2 ≤ x → get_or (reranked t f) x 0 ≡ get_or t x 0
  unfolding reranked
  reranked_out x o = get_or-set_other (set t 0 (packed f 8)) 1 x _ 0 (λ q. omega arith) ∙ get_or-set_other t 0 x (packed f 8) 0 (λ q. omega arith)

  reranked_only : OnlyRanks t (reranked t f)
  reranked_only = record { size = length_reranked; rest = reranked_out }

  reranked_if : (b : Bool) → OnlyRanks t (cond b (reranked t f) t)
  reranked_if true = reranked_only
  reranked_if false = record { size = refl; rest = λ x o. refl }

  module _ (z : 2 ≤ length t) where
    reranked_word : (h : ℕ) → h < 2 → get_or (reranked t f) h 0 ≡ packed (λ j. f (h * 8 + j)) 8
    unfolding reranked
    reranked_word zero l =
        get_or-set_other (set t 0 (packed f 8)) 1 0 _ 0 (λ q. omega arith) ∙ get_or-set_same t 0 (packed f 8) 0 (omega arith)
        ∙ packed_same f (λ j. f (0 * 8 + j)) 8 (λ j m. ap f (omega arith))
    reranked_word (suc zero) l = get_or-set_same (set t 0 (packed f 8)) 1 (packed (λ j. f (8 + j)) 8) 0 (simp length-set (omega arith))
    reranked_word (suc (suc h)) l = absurd (omega arith)

    reranked_place : ((i : ℕ) → i < 16 → f i < 128) → (h j : ℕ) → h < 2 → j < 8 → octet_of (get_or (reranked t f) h 0) j ≡ f (h * 8 + j)
    reranked_place b h j l m =
        ap (λ (w : ℕ). octet_of w j) (reranked_word h l) ∙ packed_octet (λ k. f (h * 8 + k)) 8 j (λ k n. omega (arith, b (h * 8 + k) (omega arith))) m

    reranked_octet : ((i : ℕ) → i < 16 → f i < 128) → (i : ℕ) → i < 16 → octet_of (get_or (reranked t f) (i / 8) 0) (i % 8) ≡ f i
    reranked_octet b i l =
        let e : i / 8 * 8 + i % 8 ≡ i = omega arith in
        reranked_place b (i / 8) (i % 8) (omega arith) (omega arith) ∙ ap f e

    pub reranked_in : ((i : ℕ) → i < 16 → f i < 128) → (i : ℕ) → i < 16 → rank_of (reranked t f) i ≡ f i
    unfolding rank_of
    reranked_in b i l = omega (arith, reranked_octet b i l, b i l)

-- the rank of one slot replaced in its word
module _ (t : List ℕ) (f : ℕ → ℕ) (z : 2 ≤ length t) (b : (i : ℕ) → i < 16 → f i < 128) (s v : ℕ) (h : s < 16) where
  abbrev updated_word : ℕ
  updated_word = packed (updated (octet_of (get_or (reranked t f) (s / 8) 0)) (s % 8) v) 8

  updated_here : updated_word ≡ packed (λ j. updated f s v (s / 8 * 8 + j)) 8
  updated_here = packed_same _ _ 8 (λ j l. go j l (ℕ_discrete j (s % 8)))
    where
      go : (j : ℕ) → j < 8 → Dec (j ≡ s % 8) → updated (octet_of (get_or (reranked t f) (s / 8) 0)) (s % 8) v j ≡ updated f s v (s / 8 * 8 + j)
      go j l (yes e) = cond_yes _ _ (eq-eqb j (s % 8) e) ∙ sym (cond_yes _ _ (eq-eqb (s / 8 * 8 + j) s (omega arith)))
      go j l (no n) =
          cond_no _ _ (ne_eqb j (s % 8) n) ∙ reranked_place t f z b (s / 8) j (omega arith) l
          ∙ sym (cond_no _ _ (ne_eqb (s / 8 * 8 + j) s (λ q. n (omega arith))))

  reranked_word_set : set (reranked t f) (s / 8) updated_word ≡ reranked t (updated f s v)
  reranked_word_set =
      ext_get_or 0 (set (reranked t f) (s / 8) updated_word) (reranked t (updated f s v))
      (simp length-set (length_reranked t f ∙ sym (length_reranked t (updated f s v)))) (λ x l.
      by_cases (dec_lt x 2) (λ p. within x p (ℕ_discrete x (s / 8))) (λ p.
      get_or-set_other (reranked t f) (s / 8) x updated_word 0 (λ q. omega arith) ∙ reranked_out t f x (omega arith)
      ∙ sym (reranked_out t (updated f s v) x (omega arith))))
    where
      within : (x : ℕ) → x < 2 → Dec (x ≡ s / 8) → get_or (set (reranked t f) (s / 8) updated_word) x 0 ≡ get_or (reranked t (updated f s v)) x 0
      within x p (yes q) =
          rw q (get_or-set_same (reranked t f) (s / 8) updated_word 0 (omega (arith, length_reranked t f)) ∙ updated_here)
          ∙ sym (reranked_word t (updated f s v) z x p)
      within x p (no q) =
          get_or-set_other (reranked t f) (s / 8) x updated_word 0 q ∙ reranked_word t f z x p
          ∙ packed_same _ _ 8 (λ j l. sym (cond_no _ _ (ne_eqb (x * 8 + j) s (λ e. q (omega arith)))))
          ∙ sym (reranked_word t (updated f s v) z x p)

  reranked_updated : {out : List ℕ} {word : ℕ} → out ≡ reranked t f → word ≡ packed (updated (octet_of (get_or out (s / 8) 0)) (s % 8) v) 8
      → set out (s / 8) word ≡ reranked t (updated f s v)
  reranked_updated o e = rw (e, o) reranked_word_set

-- every rank changed by what it was, a word at a time, and then that of one slot
module _ (t : List ℕ) (z : 2 ≤ length t) (g : ℕ → ℕ) (b : (r : ℕ) → r < 128 → g r < 128) (s : ℕ) (h : s < 16) {first second : ℕ}
    (p : first ≡ packed (λ j. g (rank_in (get_or t 0 0) j)) 8) (q : second ≡ packed (λ j. g (rank_in (get_or (set t 0 first) 1 0) j)) 8) where
  each-is : set (set t 0 first) 1 second ≡ reranked t (λ i. g (rank_of t i))
  unfolding reranked
  each-is =
      let a = p ∙ packed_same _ (λ j. g (rank_of t j)) 8 (λ j l. ap g (sym (rank_word t 0 j j l (omega arith)))) in
      let c = q ∙ ap (λ (w : ℕ). packed (λ j. g (rank_in w j)) 8) (get_or-set_other t 0 1 first 0 (λ e. omega arith))
      ∙ packed_same _ (λ j. g (rank_of t (8 + j))) 8 (λ j l. ap g (sym (rank_word t 1 j (8 + j) l (omega arith)))) in
      ap (λ (w : ℕ). set (set t 0 first) 1 w) c ∙ ap (λ (w : ℕ). set (set t 0 w) 1 (packed (λ j. g (rank_of t (8 + j))) 8)) a

  own_octet : octet_of (get_or (set (set t 0 first) 1 second) (s / 8) 0) (s % 8) ≡ g (rank_of t s)
  own_octet = ap (λ (l : List ℕ). octet_of (get_or l (s / 8) 0) (s % 8)) each-is ∙ reranked_octet t _ z (λ i l. b (rank_of t i) (rank_below t i)) s h

  own_replaced : (v : ℕ) {word : ℕ} → word ≡ packed (updated (octet_of (get_or (set (set t 0 first) 1 second) (s / 8) 0)) (s % 8) v) 8
      → set (set (set t 0 first) 1 second) (s / 8) word ≡ reranked t (updated (λ i. g (rank_of t i)) s v)
  own_replaced v e = reranked_updated t (λ i. g (rank_of t i)) z (λ i l. b (rank_of t i) (rank_below t i)) s v h each-is e

-- ---- a rank set

module _ (t : List ℕ) (s v : ℕ) where
  pub set_outside : 16 ≤ s → t ≡ rank_set t s v
  unfolding rank_set
  set_outside h = sym (cond_no _ _ (le-ltb s 16 h))

  rank_set_is : s < 16 → rank_set t s v ≡ reranked t (updated (rank_of t) s v)
  unfolding rank_set
  rank_set_is h = cond_yes _ _ (lt-ltb s 16 h)

  pub rank_set_only : OnlyRanks t (rank_set t s v)
  unfolding rank_set
  rank_set_only = reranked_if t (updated (rank_of t) s v) (ltb s 16)

  module _ (h : s < 16) (z : 2 ≤ length t) {old first second : ℕ} (o : old ≡ rank_of t s) (p : first ≡ packed (rank_in (get_or t 0 0)) 8)
      (q : second ≡ packed (rank_in (get_or (set t 0 first) 1 0)) 8) where
    pub set_octet : octet_of (get_or (set (set t 0 first) 1 second) (s / 8) 0) (s % 8) ≡ old
    set_octet = own_octet t z (λ r. r) (λ r l. l) s h p q ∙ sym o

    pub set_done : {word : ℕ} → word ≡ packed (updated (octet_of (get_or (set (set t 0 first) 1 second) (s / 8) 0)) (s % 8) v) 8
        → set (set (set t 0 first) 1 second) (s / 8) word ≡ rank_set t s v
    set_done e = own_replaced t z (λ r. r) (λ r l. l) s h p q v e ∙ sym (rank_set_is h)

-- ---- a use

raised_self : (old : ℕ) → raised old old ≡ old
raised_self old = cond_no _ _ (le-ltb old old (omega arith))

pub raised_least : (old r : ℕ) → r ≤ raised old r
raised_least old r = cond_holds (λ (n : ℕ). r ≤ n) (ltb r old) (omega arith) (omega arith)

raised_rank : (old r : ℕ) → old < 128 → r < 128 → raised old r < 128
raised_rank old r o h =
    by_cases (dec_lt r old) (λ l. rw (lt-ltb r old l) (omega arith)) (λ l. rw (le-ltb r old (omega arith)) h)

-- a slot's rank in its word
pub own_rank : (t : List ℕ) (s h : ℕ) {word : ℕ} → word ≡ get_or t h 0 → eqb (s / 8) h ≡ true → rank_in word (s % 8) ≡ rank_of t s
unfolding rank_of
own_rank t s h w e = ap (λ (x : ℕ). rank_in x (s % 8)) (w ∙ ap (λ (k : ℕ). get_or t k 0) (sym (eqb-true (s / 8) h e)))

-- a slot by its word and its place there
own_place : (s h j i : ℕ) → j < 8 → i ≡ h * 8 + j → eqb (s / 8) h && eqb j (s % 8) ≡ eqb i s
own_place s h j i l e =
    by_cases (ℕ_discrete i s)
    (λ q. and_yes (eq-eqb (s / 8) h (omega arith)) (eq-eqb j (s % 8) (omega arith)) ∙ sym (eq-eqb i s q))
    (λ q. by_cases (ℕ_discrete (s / 8) h)
    (λ a. and_yes (eq-eqb (s / 8) h a) (ne_eqb j (s % 8) (λ b. q (omega arith))))
    (λ a. and_no _ (ne_eqb (s / 8) h a)) ∙ sym (ne_eqb i s q))

-- a word with its ranks raised, and the rank of the slot that is used, if it is the word's, made 0
module _ (old word place w : ℕ) (o : old < 128) (h : place < 8) (e : w ≡ packed (λ j. raised old (rank_in word j)) 8) where
  raised_octet : (j : ℕ) → j < 8 → octet_of w j ≡ raised old (rank_in word j)
  raised_octet j l =
      ap (λ (x : ℕ). octet_of x j) e
      ∙ packed_octet (λ k. raised old (rank_in word k)) 8 j (λ k m. omega (arith, raised_rank old (rank_in word k) o (omega arith))) l

  pub own_raised : rank_in word place ≡ old → octet_of w place ≡ old
  own_raised r = raised_octet place h ∙ ap (raised old) r ∙ raised_self old

  pub used_own : {own : Bool} {out : ℕ} → own ≡ true → out ≡ packed (updated (octet_of w) place 0) 8
      → out ≡ packed (λ j. cond (own && eqb j place) 0 (raised old (rank_in word j))) 8
  used_own t q = q ∙ rw t (packed_same _ _ 8 (λ j l. ap (λ (r : ℕ). cond (eqb j place) 0 r) (raised_octet j l)))

module _ (t : List ℕ) (s : ℕ) where
  pub use_outside : 16 ≤ s → t ≡ used_slot t s
  unfolding used_slot
  use_outside h = sym (cond_no _ _ (and_no _ (le-ltb s 16 h)))

  pub used_only : OnlyRanks t (used_slot t s)
  unfolding used_slot
  used_only = reranked_if t (used_rank (rank_of t) s) (ltb s 16 && not (eqb (rank_of t s) 0))

  module _ (h : s < 16) where
    -- a use of the slot that was used last changes nothing
    pub use_last : rank_of t s ≡ 0 → t ≡ used_slot t s
    unfolding used_slot
    use_last e = sym (cond_no _ _ (and_yes (lt-ltb s 16 h) (ap not (eq-eqb (rank_of t s) 0 e))))

    used_is : rank_of t s ≢ 0 → used_slot t s ≡ reranked t (used_rank (rank_of t) s)
    unfolding used_slot
    used_is n = cond_yes _ _ (and_yes (lt-ltb s 16 h) (ap not (ne_eqb (rank_of t s) 0 n)))

    module _ (z : 2 ≤ length t) where
      pub used_rank_lem : (i : ℕ) → i < 16 → rank_of (used_slot t s) i ≡ used_rank (rank_of t) s i
      used_rank_lem i l =
          by_cases (ℕ_discrete (rank_of t s) 0)
          (λ e. ap (λ (u : List ℕ). rank_of u i) (sym (use_last e)) ∙ same e (ℕ_discrete i s))
          (λ n. rw (used_is n) (reranked_in t (used_rank (rank_of t) s) z
          (λ j m. updated_below (λ x. raised (rank_of t s) (rank_of t x)) s 0 j (omega arith) (raised_rank _ _ (rank_below t s) (rank_below t j))) i l))
        where
          same : rank_of t s ≡ 0 → Dec (i ≡ s) → rank_of t i ≡ used_rank (rank_of t) s i
          same e (yes q) = rw q (e ∙ sym (cond_yes _ _ (eq-eqb s s refl)))
          same e (no q) = sym (cond_no _ _ (ne_eqb i s q) ∙ cond_no _ _ (le-ltb (rank_of t i) (rank_of t s) (omega arith)))

      -- both words after a use
      pub use_done : {old first second : ℕ} → old ≡ rank_of t s → (old ≡ 0 → ⊥)
          → first ≡ packed (λ j. cond (eqb (s / 8) 0 && eqb j (s % 8)) 0 (raised old (rank_in (get_or t 0 0) j))) 8
          → second ≡ packed (λ j. cond (eqb (s / 8) 1 && eqb j (s % 8)) 0 (raised old (rank_in (get_or (set t 0 first) 1 0) j))) 8
          → set (set t 0 first) 1 second ≡ used_slot t s
      unfolding reranked
      use_done {old} {first} {second} o n p q =
          let a : first ≡ packed (used_rank (rank_of t) s) 8 = p ∙ packed_same _ _ 8 (λ j l. used_at 0 j j l (omega arith) o refl) in
          let c : second ≡ packed (λ j. used_rank (rank_of t) s (8 + j)) 8 =
          q ∙ packed_same _ _ 8 (λ j l. used_at 1 j (8 + j) l (omega arith) o (get_or-set_other t 0 1 first 0 (λ e. omega arith))) in
          (λ i. set (set t 0 (a i)) 1 (c i)) ∙ sym (used_is (λ e. n (o ∙ e)))
        where
          used_at : (h j i : ℕ) → j < 8 → i ≡ h * 8 + j → {old word : ℕ} → old ≡ rank_of t s → word ≡ get_or t h 0
              → cond (eqb (s / 8) h && eqb j (s % 8)) 0 (raised old (rank_in word j)) ≡ used_rank (rank_of t) s i
          used_at h j i l e o w =
              rw (o, w, own_place s h j i l e) (ap (λ (r : ℕ). cond (eqb i s) 0 (raised (rank_of t s) r)) (sym (rank_word t h j i l e)))

-- ---- an entry forgotten

lowered_self : (old : ℕ) → lowered old old ≡ old
lowered_self old = cond_no _ _ (and_no _ (le-ltb old old (omega arith)))

pub lowered_most : (old r : ℕ) → lowered old r ≤ r
lowered_most old r = go (ltb old r && ltb r 16)
  where
    go : (b : Bool) → cond b (r - 1) r ≤ r
    go true = omega arith
    go false = omega arith

module _ (t : List ℕ) (s : ℕ) where
  pub forget_outside : 16 ≤ s → t ≡ forgotten_slot t s
  unfolding forgotten_slot
  forget_outside h = sym (cond_no _ _ (and_no _ (le-ltb s 16 h)))

  pub forgotten_only : OnlyRanks t (forgotten_slot t s)
  unfolding forgotten_slot
  forgotten_only = reranked_if t (forgotten_rank (rank_of t) s) (ltb s 16 && ltb (rank_of t s) 16)

  module _ (h : s < 16) where
    pub forget_free : 16 ≤ rank_of t s → t ≡ forgotten_slot t s
    unfolding forgotten_slot
    forget_free e = sym (cond_no _ _ (and_yes (lt-ltb s 16 h) (le-ltb (rank_of t s) 16 e)))

    module _ (z : 2 ≤ length t) (e : rank_of t s < 16) where
      forgotten_is : forgotten_slot t s ≡ reranked t (forgotten_rank (rank_of t) s)
      unfolding forgotten_slot
      forgotten_is = cond_yes _ _ (and_yes (lt-ltb s 16 h) (lt-ltb (rank_of t s) 16 e))

      pub forgotten_rank_lem : (i : ℕ) → i < 16 → rank_of (forgotten_slot t s) i ≡ forgotten_rank (rank_of t) s i
      forgotten_rank_lem i l =
          rw forgotten_is (reranked_in t (forgotten_rank (rank_of t) s) z
          (λ j m. updated_below (λ x. lowered (rank_of t s) (rank_of t x)) s 16 j (omega arith)
          (omega (arith, lowered_most (rank_of t s) (rank_of t j), rank_below t j))) i l)

      module _ {old first second : ℕ} (o : old ≡ rank_of t s) (p : first ≡ packed (λ j. lowered old (rank_in (get_or t 0 0) j)) 8)
          (q : second ≡ packed (λ j. lowered old (rank_in (get_or (set t 0 first) 1 0) j)) 8) where
        lowered_each : (r : ℕ) → r < 128 → lowered old r < 128
        lowered_each r l = omega (arith, lowered_most old r)

        pub forget_octet : octet_of (get_or (set (set t 0 first) 1 second) (s / 8) 0) (s % 8) ≡ old
        forget_octet = own_octet t z (lowered old) lowered_each s h p q ∙ ap (lowered old) (sym o) ∙ lowered_self old

        pub forget_done : {word : ℕ} → word ≡ packed (updated (octet_of (get_or (set (set t 0 first) 1 second) (s / 8) 0)) (s % 8) 16) 8
            → set (set (set t 0 first) 1 second) (s / 8) word ≡ forgotten_slot t s
        forget_done e =
            own_replaced t z (lowered old) lowered_each s h p q 16 e
            ∙ ap (λ (x : ℕ). reranked t (updated (λ i. lowered x (rank_of t i)) s 16)) o
            ∙ sym forgotten_is
