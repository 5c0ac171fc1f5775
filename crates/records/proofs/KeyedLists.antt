-- Laws of keyed lists: the value of a key, the list without a key, each key once.
use Rattle.std.proofs.Common.{◌≡◌, ℕ, zero, suc, ◌+◌, ◌<◌, ◌≤◌, max, cond, ltb, ◌≢◌, ◌↔◌, List, [], ◌∷◌, ◌++◌, map, length, take, sym, refl, ap, ◌∙◌, arith, take-take, le-ltb, lt-ltb}
use Prim.Native.Nat.compare
use mathlib.Core.Logic.{by_cases, if_pos, if_neg}
use mathlib.Core.Option.{Option, none, some, none-ne-some, some-ne-none, some-injective}
use native.Mathlib.Decide.{ℕ_discrete}
use Rattle.records.proofs.Lists.{map-take}
use Rattle.records.specs.Decide.{decide_pair}
use Rattle.records.specs.Remembered.{lookup, without, distinct, since}

module _ {K A : Type 0} where
  -- every entry has the property
  abbrev pub All : (K × A → Type 0) → List (K × A) → Type 0
  All P [] = Unit {0}
  All P (e ∷ l) = P e × All P l

  -- every two entries are so related, in the order of the list
  abbrev pub Pairwise : (K × A → K × A → Type 0) → List (K × A) → Type 0
  Pairwise R [] = Unit {0}
  Pairwise R (e ∷ l) = All (R e) l × Pairwise R l

  abbrev pub Absent : K → List (K × A) → Type 0
  Absent k = All (λ e. k ≢ e.0)

  abbrev pub Distinct : List (K × A) → Type 0
  Distinct = Pairwise (λ e f. e.0 ≢ f.0)

  pub all_weaker : (P Q : K × A → Type 0) → ((x : K × A) → P x → Q x) → (l : List (K × A)) → All P l → All Q l
  all_weaker P Q e [] a = tt
  all_weaker P Q e (x ∷ l) a = (e x a.0, all_weaker P Q e l a.1)

  pub all_take : (P : K × A → Type 0) (n : ℕ) (l : List (K × A)) → All P l → All P (take n l)
  all_take P zero l a = tt
  all_take P (suc n) [] a = tt
  all_take P (suc n) (e ∷ l) a = (a.0, all_take P n l a.1)

  pub all_append : (P : K × A → Type 0) (l m : List (K × A)) → All P (l ++ m) ↔ (All P l × All P m)
  all_append P [] m = (λ a. (tt, a), λ a. a.1)
  all_append P (e ∷ l) m = let r = all_append P l m in (λ a. ((a.0, (r.0 a.1).0), (r.0 a.1).1), λ a. (a.0.0, r.1 (a.0.1, a.1)))

  pub pairwise_take : (R : K × A → K × A → Type 0) (n : ℕ) (l : List (K × A)) → Pairwise R l → Pairwise R (take n l)
  pairwise_take R zero l a = tt
  pairwise_take R (suc n) [] a = tt
  pairwise_take R (suc n) (e ∷ l) a = (all_take (R e) n l a.0, pairwise_take R n l a.1)

-- the number of values
abbrev pub present : {A : Type 0} → Option A → ℕ
present none = 0
present (some a) = 1

pub present_le : {A : Type 0} (o : Option A) → present o ≤ 1
present_le none = omega arith
present_le (some a) = omega arith

module _ {K A : Type 0} (dec : Discrete K) where
  pub all_without : (P : K × A → Type 0) (k : K) (l : List (K × A)) → All P l → All P (without dec k l)
  all_without P k [] a = tt
  all_without P k (e ∷ l) a = by_cases (dec k e.0) (λ p. rw if_pos (all_without P k l a.1)) (λ p. rw if_neg (a.0, all_without P k l a.1))

  pub pairwise_without : (R : K × A → K × A → Type 0) (k : K) (l : List (K × A)) → Pairwise R l → Pairwise R (without dec k l)
  pairwise_without R k [] a = tt
  pairwise_without R k (e ∷ l) a =
      by_cases (dec k e.0) (λ p. rw if_pos (pairwise_without R k l a.1)) (λ p. rw if_neg (all_without (R e) k l a.0, pairwise_without R k l a.1))

  pub absent_without : (k : K) (l : List (K × A)) → Absent k (without dec k l)
  absent_without k [] = tt
  absent_without k (e ∷ l) = by_cases (dec k e.0) (λ p. rw if_pos (absent_without k l)) (λ p. rw if_neg (p, absent_without k l))

  pub without_absent : (k : K) (l : List (K × A)) → Absent k l → without dec k l ≡ l
  without_absent k [] a = refl
  without_absent k (e ∷ l) a = let n = a.0 in simp (if_neg, without_absent k l a.1)

  pub without_head : (e : K × A) (l : List (K × A)) → Distinct (e ∷ l) → without dec e.0 (e ∷ l) ≡ l
  without_head e l d = simp (if_pos, without_absent e.0 l d.0)

  pub lookup_absent : (k : K) (l : List (K × A)) → Absent k l → lookup dec k l ≡ none
  lookup_absent k [] a = refl
  lookup_absent k (e ∷ l) a = let n = a.0 in rw if_neg (lookup_absent k l a.1)

  -- taking out one key leaves the values of the others
  pub lookup_without : (j k : K) (l : List (K × A)) → j ≢ k → lookup dec j (without dec k l) ≡ lookup dec j l
  lookup_without j k [] n = refl
  lookup_without j k (e ∷ l) n =
      by_cases (dec k e.0) (λ p. let m : j ≢ e.0 = λ q. n (q ∙ sym p) in simp (if_pos, if_neg) (lookup_without j k l n))
      (λ p. simp (if_neg, lookup_without j k l n))

  pub absent_none : (k : K) (l : List (K × A)) → lookup dec k l ≡ none → Absent k l
  absent_none k [] q = tt
  absent_none k (e ∷ l) q =
      by_cases (dec k e.0) (λ p. absurd (some-ne-none _ (rw if_pos at q))) (λ p. (p, absent_none k l (rw if_neg at q)))

  -- the entries of distinct keys are those that a lookup finds
  pub all_found : (P : K × A → Type 0) (l : List (K × A)) → Distinct l → ((e : K × A) → lookup dec e.0 l ≡ some e.1 → P e) → All P l
  all_found P [] d f = tt
  all_found P (e ∷ l) d f = (
    f e (simp if_pos),
    all_found P l d.1
        (λ x q. f x (by_cases (dec x.0 e.0)
        (λ p. absurd (none-ne-some _ (sym (lookup_absent x.0 l (rw (← p) at d.0)) ∙ q)))
        (λ p. rw if_neg q))),
  )

  -- taking out a key that is there leaves one entry less
  pub length_without : (k : K) (l : List (K × A)) → Distinct l → length l ≡ present (lookup dec k l) + length (without dec k l)
  length_without k [] d = refl
  length_without k (e ∷ l) d =
      by_cases (dec k e.0)
      (λ p. simp (if_pos, without_absent k l (rw (← p) at d.0)) (omega arith))
      (λ p. simp if_neg (omega (arith, length_without k l d.1)))

  -- taking out a key that is there leaves a shorter list, whether or not the keys are distinct
  pub without_shorter : (k : K) (l : List (K × A)) → present (lookup dec k l) + length (without dec k l) ≤ length l
  without_shorter k [] = omega arith
  without_shorter k (e ∷ l) =
      by_cases (dec k e.0) (λ p. simp if_pos (omega (arith, without_shorter k l))) (λ p. simp if_neg (omega (arith, without_shorter k l)))

  -- of more distinct keys than the list has entries, one is absent from it
  unfoldable pub absent_key : (f : ℕ → K) → ((i j : ℕ) → f i ≡ f j → i ≡ j) → (m : ℕ) (l : List (K × A)) → length l < m
      → (i : ℕ) × (i < m) × (lookup dec (f i) l ≡ none)
  absent_key f inj zero l h = absurd (omega arith)
  absent_key f inj (suc m) l h = go (lookup dec (f m) l) refl (absent_key f inj m (without dec (f m) l))
    where
      go : (o : Option A) → lookup dec (f m) l ≡ o → (length (without dec (f m) l) < m → (i : ℕ) × (i < m) × (lookup dec (f i) (without dec (f m) l) ≡ none))
          → (i : ℕ) × (i < suc m) × (lookup dec (f i) l ≡ none)
      go none q r = (m, omega arith, q)
      go (some a) q r =
          let s = r (omega (arith, rw q at (without_shorter (f m) l))) in
          (s.0, omega (arith, s.1), sym (lookup_without (f s.0) (f m) l (λ p. omega (arith, inj s.0 m p, s.1))) ∙ s.2)

  pub distinct_distinct : (l : List (K × A)) → Distinct (distinct dec l)
  distinct_distinct [] = tt
  distinct_distinct (e ∷ l) = (absent_without e.0 (distinct dec l), pairwise_without _ e.0 (distinct dec l) (distinct_distinct l))

  -- in a list of distinct keys, taking one key out of the first n + 1 and cutting to n is taking it out first
  pub take_without : (n : ℕ) (k : K) (l : List (K × A)) → Distinct l → take n (without dec k (take (suc n) l)) ≡ take n (without dec k l)
  take_without n k [] d = refl
  take_without zero k (e ∷ l) d = refl
  take_without (suc n) k (e ∷ l) d =
      by_cases (dec k e.0)
      (λ p.
      let a : Absent k l = rw (← p) at d.0 in
      simp (if_pos, without_absent k l a, without_absent k (take (suc n) l) (all_take _ (suc n) l a)) (take-take (suc n) (suc n) l (omega arith)))
      (λ p. simp (if_neg, take_without n k l d.1))

  -- so an entry may come to the front of the list cut to n
  pub take-front : (n : ℕ) (e : K × A) (l : List (K × A)) → Distinct l → take n (e ∷ without dec e.0 (take n l)) ≡ take n (e ∷ without dec e.0 l)
  take-front zero e l d = refl
  take-front (suc n) e l d = rw (take_without n e.0 l d)

  -- where a key stands among the distinct ones: behind those that came since its latest entry
  pub since_without : (j k : K) (l : List (K × A)) → j ≢ k → since dec j (without dec k l) ≡ without dec k (since dec j l)
  since_without j k [] n = refl
  since_without j k (e ∷ l) n =
      by_cases (dec k e.0)
      (λ p. let m : j ≢ e.0 = λ q. n (q ∙ sym p) in simp (if_pos, if_neg) (since_without j k l n))
      (λ p. by_cases (dec j e.0) (λ q. simp (if_neg, if_pos)) (λ q. simp (if_neg, since_without j k l n)))

  pub since_distinct : (k : K) (l : List (K × A)) → since dec k (distinct dec l) ≡ distinct dec (since dec k l)
  since_distinct k [] = refl
  since_distinct k (e ∷ l) =
      by_cases (dec k e.0) (λ p. simp if_pos) (λ p. simp (if_neg, since_without k e.0 (distinct dec l) p, since_distinct k l))

  pub lookup_distinct : (k : K) (l : List (K × A)) → lookup dec k (distinct dec l) ≡ lookup dec k l
  lookup_distinct k [] = refl
  lookup_distinct k (e ∷ l) =
      by_cases (dec k e.0) (λ p. simp if_pos) (λ p. simp (if_neg, lookup_without k e.0 (distinct dec l) p) (lookup_distinct k l))

  pub lookup_take : (k : K) (n : ℕ) (l : List (K × A)) → lookup dec k (take n l) ≡ cond (ltb (length (since dec k l)) n) (lookup dec k l) none
  lookup_take k zero l = rw (le-ltb (length (since dec k l)) 0 (omega arith))
  lookup_take k (suc n) [] = rw (lt-ltb 0 (suc n) (omega arith))
  lookup_take k (suc n) (e ∷ l) =
      by_cases (dec k e.0) (λ p. simp (if_pos, lt-ltb 0 (suc n) (omega arith))) (λ p. simp (if_neg, lookup_take k n l, compare.suc-suc))

-- the entries that f gives the keys of a list
abbrev pub entries_of : {J K A B : Type 0} → (J → K × B) → List (J × A) → List (K × B)
entries_of f = map (λ e. f e.0)

module _ {J K A B : Type 0} (f : J → K × B) where
  pub entries_other : (g : J → K × B) (j : J) (l : List (J × A)) → ((i : J) → i ≢ j → g i ≡ f i) → Absent j l → entries_of g l ≡ entries_of f l
  entries_other g j [] same a = refl
  entries_other g j (e ∷ l) same a = rw (same e.0 (λ p. a.0 (sym p)), entries_other g j l same a.1)

  pub entries_absent : (k : K) (l : List (J × A)) → All (λ e. k ≢ (f e.0).0) l → Absent k (entries_of f l)
  entries_absent k [] a = tt
  entries_absent k (e ∷ l) a = (a.0, entries_absent k l a.1)

  pub entries_take : (n : ℕ) (l : List (J × A)) → entries_of f (take n l) ≡ take n (entries_of f l)
  entries_take n l = map-take (λ e. f e.0) n l

-- an entry and its key, where f gives each key once
module _ {J K A B : Type 0} (dec_j : Discrete J) (dec_k : Discrete K) (f : J → K × B) (j : J) (a : A) where
  all_entries : (P : K × B → Type 0) (l : List (J × A)) → lookup dec_j j l ≡ some a → All P (entries_of f l) → P (f j)
  all_entries P [] q h = absurd (none-ne-some a q)
  all_entries P (e ∷ l) q h = by_cases (dec_j j e.0) (λ p. rw p h.0) (λ p. all_entries P l (rw if_neg at q) h.1)

  pub entries_lookup : (l : List (J × A)) → lookup dec_j j l ≡ some a → Distinct (entries_of f l) → lookup dec_k (f j).0 (entries_of f l) ≡ some (f j).1
  entries_lookup [] q d = absurd (none-ne-some a q)
  entries_lookup (e ∷ l) q d =
      by_cases (dec_j j e.0)
      (λ p. rw p (simp if_pos))
      (λ p. let m : (f j).0 ≢ (f e.0).0 = λ z. all_entries _ l (rw if_neg at q) d.0 (sym z) in rw if_neg (entries_lookup l (rw if_neg at q) d.1))

  pub entries_without : (l : List (J × A)) → lookup dec_j j l ≡ some a → Distinct l → Distinct (entries_of f l)
      → without dec_k (f j).0 (entries_of f l) ≡ entries_of f (without dec_j j l)
  entries_without [] q c d = refl
  entries_without (e ∷ l) q c d =
      by_cases (dec_j j e.0)
      (λ p. ap (λ (x : J). without dec_k (f x).0 (entries_of f (e ∷ l))) p ∙ without_head dec_k (f e.0) (entries_of f l) d
      ∙ ap (entries_of f) (sym (without_head dec_j e l c)) ∙ ap (λ (x : J). entries_of f (without dec_j x (e ∷ l))) (sym p))
      (λ p. let m : (f j).0 ≢ (f e.0).0 = λ z. all_entries _ l (rw if_neg at q) d.0 (sym z) in
      simp (if_neg, entries_without l (rw if_neg at q) c.1 d.1))

-- a list of distinct numbers below n is no longer than n, and one of all numbers below n is no shorter
module _ {A : Type 0} where
  pub length_at_most : (n : ℕ) (l : List (ℕ × A)) → Distinct l → ((i : ℕ) → n ≤ i → lookup ℕ_discrete i l ≡ none) → length l ≤ n
  length_at_most zero [] d f = omega arith
  length_at_most zero (e ∷ l) d f = absurd ((absent_none ℕ_discrete e.0 (e ∷ l) (f e.0 (omega arith))).0 refl)
  length_at_most (suc n) l d f =
      let m = length_at_most n (without ℕ_discrete n l) (pairwise_without ℕ_discrete _ n l d) (λ i h.
      by_cases (ℕ_discrete i n) (λ p. rw p (lookup_absent ℕ_discrete n (without ℕ_discrete n l) (absent_without ℕ_discrete n l)))
      (λ p. lookup_without ℕ_discrete i n l p ∙ f i (omega arith))) in
      omega (arith, length_without ℕ_discrete n l d, present_le (lookup ℕ_discrete n l))

  pub length_at_least : (n : ℕ) (l : List (ℕ × A)) → Distinct l → ((i : ℕ) → i < n → present (lookup ℕ_discrete i l) ≡ 1) → n ≤ length l
  length_at_least zero l d f = omega arith
  length_at_least (suc n) l d f =
      let m = length_at_least n (without ℕ_discrete n l) (pairwise_without ℕ_discrete _ n l d)
      (λ i h. rw (lookup_without ℕ_discrete i n l (omega arith)) (f i (omega arith))) in
      omega (arith, length_without ℕ_discrete n l d, f n (omega arith))

module _ {K A : Type 0} (dec : Discrete K) where
  -- lists that begin with the same key and agree on key k up to a place agree on it behind their first entries
  pub lookup_tails : (k : K) (n : ℕ) (e e' : K × A) (l l' : List (K × A)) → e.0 ≡ e'.0 → Absent e.0 l → Absent e'.0 l'
      → lookup dec k (take (suc n) (e ∷ l)) ≡ lookup dec k (take (suc n) (e' ∷ l')) → lookup dec k (take n l) ≡ lookup dec k (take n l')
  lookup_tails k n e e' l l' p a a' q =
      by_cases (dec k e.0)
      (λ z. rw (z, lookup_absent dec e.0 (take n l) (all_take _ n l a), p, lookup_absent dec e'.0 (take n l') (all_take _ n l' a')))
      (λ z. let z' : k ≢ e'.0 = λ y. z (y ∙ sym p) in simp if_neg at q)

  -- a place at which two lists differ: up to it they have different values of an entry's key
  pub record Difference (P : K × A → Type 0) (l l' : List (K × A)) : Type 0 where
    pub place : ℕ
    pub within : place < max (length l) (length l')
    pub entry : K × A
    pub holds : P entry
    pub differ : lookup dec entry.0 (take (suc place) l) ≢ lookup dec entry.0 (take (suc place) l')

  -- the first such place
  unfoldable pub difference : Discrete A → (P : K × A → Type 0) (l l' : List (K × A)) → All P l → All P l' → Distinct l → Distinct l' → l ≢ l'
      → Difference P l l'
  difference dec_a P [] [] a a' d d' n = absurd (n refl)
  difference dec_a P [] (y ∷ ys) a a' d d' n =
      record { place = 0; within = omega arith; entry = y; holds = a'.0; differ = λ q. none-ne-some _ (simp if_pos at q) }
  difference dec_a P (x ∷ xs) [] a a' d d' n =
      record { place = 0; within = omega arith; entry = x; holds = a.0; differ = λ q. some-ne-none _ (simp if_pos at q) }
  difference dec_a P (x ∷ xs) (y ∷ ys) a a' d d' n = go (decide_pair dec dec_a x y) (difference dec_a P xs ys a.1 a'.1 d.1 d'.1)
    where
      go : Dec (x ≡ y) → (xs ≢ ys → Difference P xs ys) → Difference P (x ∷ xs) (y ∷ ys)
      go (yes p) rest =
          let r = rest (λ t. n (λ i. p i ∷ t i)) in
          record {
            place = suc r.place;
            within = omega arith;
            entry = r.entry;
            holds = r.holds;
            differ = λ q. r.differ (lookup_tails r.entry.0 (suc r.place) x y xs ys (ap (λ (e : K × A). e.0) p) d.0 d'.0 q);
          }
      go (no p) rest = record {
        place = 0;
        within = omega arith;
        entry = x;
        holds = a.0;
        differ = λ q.
            by_cases (dec x.0 y.0)
            (λ z. p (λ i. (z i, some-injective x.1 y.1 (simp if_pos at q) i)))
            (λ z. some-ne-none x.1 (simp (if_pos, if_neg) at q));
      }
