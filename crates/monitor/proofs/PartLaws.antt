-- Laws of the parts of the words: a part that is lent and comes back changed is an update of its field.
use Prim.Native.Nat.{ℕ, zero, suc, ◌+◌, ◌-◌, ◌≤◌, ◌<◌}
use mathlib.Core.Bool.{cond}
use mathlib.Core.List.{List, [], ◌∷◌, ◌++◌}
use mathlib.Core.Path.{◌≡◌, sym, ap, ◌∙◌}
use native.Mathlib.Decide.{ℕ_discrete, dec_lt}
use native.Mathlib.Nat.{not-suc-le-zero}
use native.Mathlib.Omega.{arith}
use borrow.Author.Tests.{eq-eqb, ne_eqb}
use borrow.Rule.Slice.PartMut.{put_mid}
use lib.Dec.{eqb}
use lib.ListN.{length, take, drop, get_or, set, take-append-drop, length-drop}
use Rattle.std.proofs.lemmas.List.{drop-set-lt, drop-set-add, take-set-le}
use lib.Seq.{take-set-lt, take-append-le, drop-append-le, take_at, drop_at, drop-drop, get_or-take, get_or-drop, length-take-le}
use Rattle.monitor.specs.Monitor.{Monitor, monitor_of, with_part, with_settings, with_totals}
use Rattle.monitor.specs.Parts.{after}

-- the n words from a on are replaced by t
module _ (l t : List ℕ) (a n : ℕ) (h : a + n ≤ length l) (z : length t ≡ n) where
  pub mid_here : take n (drop a (put_mid a n l t)) ≡ t
  mid_here = rw (drop_at (take a l) (t ++ drop n (drop a l)) a (length-take-le a l (omega arith))) (take_at t (drop n (drop a l)) n z)

  pub mid_behind : (c k : ℕ) → a + n ≤ c → take k (drop c (put_mid a n l t)) ≡ take k (drop c l)
  mid_behind c k g =
      let x = c - a - n in
      let e : c ≡ a + (n + x) = omega arith in
      ap (take k)
      (rw (
        e,
        ← drop-drop (n + x) a l,
        ← drop-drop (n + x) a (put_mid a n l t),
        drop_at (take a l) (t ++ drop n (drop a l)) a (length-take-le a l (omega arith)),
      )
      (sym (drop-drop x n (t ++ drop n (drop a l)))
      ∙ ap (drop x) (drop_at t (drop n (drop a l)) n z)
      ∙ drop-drop x n (drop a l)))

  pub mid_before : (c k : ℕ) → c + k ≤ a → take k (drop c (put_mid a n l t)) ≡ take k (drop c l)
  mid_before c k g = front (t ++ drop n (drop a l)) ∙ sym (front (drop a l)) ∙ ap (λ (m : List ℕ). take k (drop c m)) (take-append-drop a l)
    where
      front : (r : List ℕ) → take k (drop c (take a l ++ r)) ≡ take k (drop c (take a l))
      front r =
          let b = length-take-le a l (omega arith) in
          rw (drop-append-le c (take a l) r (omega arith))
          (take-append-le k (drop c (take a l)) r (omega (arith, length-drop c (take a l))))

pub part_length : (l : List ℕ) (a n : ℕ) → a + n ≤ length l → length (take n (drop a l)) ≡ n
part_length l a n h = length-take-le n (drop a l) (omega (arith, length-drop a l))

-- a word of a part is a word of the whole
pub part_word : (l : List ℕ) (a n i : ℕ) → i < n → get_or (take n (drop a l)) i 0 ≡ get_or l (a + i) 0
part_word l a n i h = get_or-take n (drop a l) i 0 h ∙ get_or-drop a l i 0

-- ---- a part lent and back

-- the sizes of the parts, and where each begins
abbrev pub size_of : ℕ → ℕ
size_of k = get_or (10 ∷ 5 ∷ 49 ∷ 177 ∷ 193 ∷ 66 ∷ 210 ∷ 178 ∷ 50 ∷ 210 ∷ []) k 0

abbrev pub first_of : ℕ → ℕ
first_of zero = 0
first_of (suc k) = first_of k + size_of k

-- a part ends before the next begins
in_order : (j k : ℕ) → j < k → first_of j + size_of j ≤ first_of k
in_order j zero h = absurd (not-suc-le-zero h)
in_order j (suc k) h = go (dec_lt j k) (in_order j k)
  where
    go : Dec (j < k) → (j < k → first_of j + size_of j ≤ first_of k) → first_of j + size_of j ≤ first_of k + size_of k
    go (yes l) before = let r = before l in omega (arith, r)
    go (no l) before = let e : j ≡ k = omega arith in rw e (omega arith)

module _ (l t : List ℕ) (z : length l ≡ 1148) (k : ℕ) (h : k < 10) (y : length t ≡ size_of k) where
  -- a part of the words after part k is replaced
  part_after :
      (j : ℕ) → take (size_of j) (drop (first_of j) (put_mid (first_of k) (size_of k) l t)) ≡ cond (eqb k j) t (take (size_of j) (drop (first_of j) l))
  part_after j = go (ℕ_discrete k j) (dec_lt j k)
    where
      inside : first_of k + size_of k ≤ length l
      inside = let r = in_order k 10 h in omega (arith, r)

      go : Dec (k ≡ j) → Dec (j < k)
          → take (size_of j) (drop (first_of j) (put_mid (first_of k) (size_of k) l t)) ≡ cond (eqb k j) t (take (size_of j) (drop (first_of j) l))
      go (yes e) d = rw (eq-eqb k j e, ← e) (mid_here l t (first_of k) (size_of k) inside y)
      go (no n) (yes d) = rw (ne_eqb k j n) (mid_before l t (first_of k) (size_of k) inside y (first_of j) (size_of j) (in_order j k d))
      go (no n) (no d) = rw (ne_eqb k j n) (mid_behind l t (first_of k) (size_of k) inside y (first_of j) (size_of j) (in_order k j (omega (arith, n, d))))

  pub part_back : monitor_of (put_mid (first_of k) (size_of k) l t) ≡ with_part k (monitor_of l) t
  unfolding monitor_of
  part_back =
      λ i. record {
        settings = part_after 0 i;
        totals = part_after 1 i;
        mms_rules = part_after 2 i;
        goose_publishers = part_after 3 i;
        sv_publishers = part_after 4 i;
        rate_buckets = part_after 5 i;
        goose_seq = part_after 6 i;
        sv_seq = part_after 7 i;
        time_trackers = part_after 8 i;
        cb_reservations = part_after 9 i;
      }

-- a check of a part that is lent, and comes back
pub lent : {A C : Type 0} (with_part : List ℕ → Monitor) (part : C → List ℕ) (answer : C → A) {m : Monitor} {c c' : C} → m ≡ with_part (part c) → c ≡ c'
    → record { monitor = m; answer = answer c } ≡ after with_part part answer c'
lent with_part part answer {c = c} b e = (λ i. record { monitor = b i; answer = answer c }) ∙ ap (after with_part part answer) e

-- the same of part k of the words
pub part_checked :
    {A C : Type 0} (k : ℕ) (part : C → List ℕ) (answer : C → A) (l : List ℕ) {c c' : C} → k < 10 → length l ≡ 1148 → length (part c) ≡ size_of k → c ≡ c'
    → record { monitor = monitor_of (put_mid (first_of k) (size_of k) l (part c)); answer = answer c } ≡ after (with_part k (monitor_of l)) part answer c'
part_checked k part answer l {c = c} h z y e = lent (with_part k (monitor_of l)) part answer (part_back l (part c) z k h y) e

-- ---- a word of a part set

module _ (l : List ℕ) (k i v : ℕ) (w : i < size_of k) where
  word_after : (j : ℕ) → take (size_of j) (drop (first_of j) (set l (first_of k + i) v))
      ≡ cond (eqb k j) (set (take (size_of k) (drop (first_of k) l)) i v) (take (size_of j) (drop (first_of j) l))
  word_after j = go (ℕ_discrete k j) (dec_lt j k)
    where
      go : Dec (k ≡ j) → Dec (j < k) → take (size_of j) (drop (first_of j) (set l (first_of k + i) v))
          ≡ cond (eqb k j) (set (take (size_of k) (drop (first_of k) l)) i v) (take (size_of j) (drop (first_of j) l))
      go (yes e) d = rw (eq-eqb k j e, ← e, drop-set-add (first_of k) l i v) (take-set-lt (size_of k) (drop (first_of k) l) i v w)
      go (no n) (yes d) =
          let r = in_order j k d in
          let at : first_of k + i ≡ first_of j + (first_of k - first_of j + i) = omega arith in
          rw (ne_eqb k j n, at, drop-set-add (first_of j) l (first_of k - first_of j + i) v)
          (take-set-le (size_of j) (drop (first_of j) l) (first_of k - first_of j + i) v (omega arith))
      go (no n) (no d) =
          let r = in_order k j (omega (arith, n, d)) in
          rw (ne_eqb k j n) (ap (take (size_of j)) (drop-set-lt (first_of j) l (first_of k + i) v (omega arith)))

  word_here : monitor_of (set l (first_of k + i) v) ≡ with_part k (monitor_of l) (set (take (size_of k) (drop (first_of k) l)) i v)
  unfolding monitor_of
  word_here =
      λ x. record {
        settings = word_after 0 x;
        totals = word_after 1 x;
        mms_rules = word_after 2 x;
        goose_publishers = word_after 3 x;
        sv_publishers = word_after 4 x;
        rate_buckets = word_after 5 x;
        goose_seq = word_after 6 x;
        sv_seq = word_after 7 x;
        time_trackers = word_after 8 x;
        cb_reservations = word_after 9 x;
      }

-- a setting and a total set, in a monitor that has come so far
module _ (l : List ℕ) {m : Monitor} (e : monitor_of l ≡ m) (i v : ℕ) where
  pub setting_back : i < 10 → monitor_of (set l i v) ≡ with_settings m (set m.settings i v)
  unfolding monitor_of
  setting_back h =
      let at : i ≡ 0 + i = omega arith in
      ap (λ (x : ℕ). monitor_of (set l x v)) at ∙ word_here l 0 i v h ∙ ap (λ (n : Monitor). with_settings n (set n.settings i v)) e

  pub total_back : i < 5 → monitor_of (set l (10 + i) v) ≡ with_totals m (set m.totals i v)
  unfolding monitor_of
  total_back h = word_here l 1 i v h ∙ ap (λ (n : Monitor). with_totals n (set n.totals i v)) e
