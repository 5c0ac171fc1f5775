-- The tables of words, by name and by number, are tables (RankTable): a key, a use and a value stored in a slot give it these and leave the others.
use Rattle.std.proofs.Common.{◌≡◌, ℕ, zero, suc, ◌+◌, ◌*◌, ◌<◌, ◌≤◌, true, cond, ◌&&◌, eqb, ltb, ◌≢◌, ◌↔◌, List, [], ◌∷◌, ◌++◌, length, get_or, set, sym, refl, ap, ◌∙◌, not-suc-le-zero, arith, length-append, length-set, get_or-set_other, get_or-set_same, get_or-append-add, ext_get_or, ltb-true, le-ltb, lt-ltb, eq-eqb, eqb-true, Option, Some}
use mathlib.Core.Logic.{by_cases}
use mathlib.Core.Option.{some}
use native.Mathlib.Decide.{dec_lt}
use lib.ListN.{get_or-append}
use Rattle.records.proofs.Booleans.{cond_yes, cond_no, and_yes, and_both}
use Rattle.records.proofs.NameLaws.{length_tabulate, tabulate_at, tabulate_same, agree_all, length_overwritten, overwritten_in, overwritten_out}
use Rattle.records.proofs.SearchLaws.{Searched, hit, miss, searched, found_has, first_again}
use Rattle.records.specs.Octets.{tabulate, overwritten}
use Rattle.records.specs.Remembered.{without, after}
use Rattle.records.specs.Search.{slot_or}
use Rattle.tables.proofs.NamedLaws.{name_decides}
use Rattle.tables.specs.KeyLaws.{has_key_lem}
use Rattle.tables.proofs.OrderLaws.{rank_same, free_rank, used_only, used_rank_lem, forgotten_only, forgotten_rank_lem}
use Rattle.tables.proofs.RankTable.{Table, Represents, represents_forgotten}
use Rattle.tables.specs.declared.place.Place.{Place}
use Rattle.tables.specs.Column.{word_of, word_set, zero_words}
use Rattle.tables.specs.Named.{has_key, key_stored, named}
use Rattle.tables.specs.Numbered.{number_stored, numbered}
use Rattle.tables.specs.Order.{rank_of, in_use, used_rank, used_slot, forgotten_slot, free_word, no_entries, all_free}
use Rattle.tables.specs.Place.{KeyColumns, Entered, place_at, found, entered_at, entered, if_known}
use Rattle.tables.specs.Table.{value_at, value_of, stepped}
use Rattle.tables.specs.WordTable.{Encoding, value_word, value_set, word_table, one_number, both, two_numbers, three_numbers}

-- ---- the words of a slot

-- what a slot has is the same where it is the same for the sixteen
slot_same : {A : Type 0} (i : ℕ) (x y z : A) → (i < 16 → x ≡ y) → cond (ltb i 16) x z ≡ cond (ltb i 16) y z
slot_same {A} i x y z e =
    by_cases (dec_lt i 16)
    (λ h. ap (λ (w : A). cond (ltb i 16) w z) (e h))
    (λ n. let b = le-ltb i 16 (omega arith) in cond_no _ _ b ∙ sym (cond_no _ _ b))

pub word_same : (t u : List ℕ) (column i : ℕ) → (i < 16 → get_or u (column + i) 0 ≡ get_or t (column + i) 0) → word_of u column i ≡ word_of t column i
unfolding word_of
word_same t u column i e = slot_same i (get_or u (column + i) 0) (get_or t (column + i) 0) 0 e

module _ (t : List ℕ) (s : ℕ) (h : s < 16) where
  pub word_at : (column : ℕ) → word_of t column s ≡ get_or t (column + s) 0
  unfolding word_of
  word_at column = cond_yes _ _ (lt-ltb s 16 h)

  pub word_set_lem : (column v : ℕ) → word_set t column s v ≡ set t (column + s) v
  unfolding word_set
  word_set_lem column v = cond_yes _ _ (lt-ltb s 16 h)

  pub length_word : (column v : ℕ) → length (word_set t column s v) ≡ length t
  length_word column v = ap length (word_set_lem column v) ∙ length-set t (column + s) v

  pub word_out : (column v x : ℕ) → x ≢ column + s → get_or (word_set t column s v) x 0 ≡ get_or t x 0
  word_out column v x o = rw (word_set_lem column v) (get_or-set_other t (column + s) x v 0 o)

  pub word_in : (column v : ℕ) → column + s < length t → get_or (word_set t column s v) (column + s) 0 ≡ v
  word_in column v l = rw (word_set_lem column v) (get_or-set_same t (column + s) v 0 l)

-- ---- the words of a value

module _ (s : ℕ) (h : s < 16) where
  pub length_values : (vs t : List ℕ) (column : ℕ) → length (value_set t column s vs) ≡ length t
  length_values [] t column = refl
  length_values (v ∷ vs) t column = length_values vs (word_set t column s v) (column + 16) ∙ length_word t s h column v

  pub values_out : (x : ℕ) (vs t : List ℕ) (column : ℕ) → ((j : ℕ) → x ≢ column + j * 16 + s) → get_or (value_set t column s vs) x 0 ≡ get_or t x 0
  values_out x [] t column o = refl
  values_out x (v ∷ vs) t column o =
      values_out x vs (word_set t column s v) (column + 16) (λ j q. o (suc j) (omega arith)) ∙ word_out t s h column v x (λ q. o 0 (omega arith))

  pub values_in : (vs t : List ℕ) (column j x : ℕ) → column + length vs * 16 ≤ length t → j < length vs → x ≡ column + j * 16 + s
      → get_or (value_set t column s vs) x 0 ≡ get_or vs j 0
  values_in [] t column j x n l e = absurd (not-suc-le-zero l)
  values_in (v ∷ vs) t column zero x n l e =
      let q : x ≡ column + s = omega arith in
      values_out x vs (word_set t column s v) (column + 16) (λ j y. omega arith) ∙ rw q (word_in t s h column v (omega arith))
  values_in (v ∷ vs) t column (suc j) x n l e =
      values_in vs (word_set t column s v) (column + 16) j x (omega (arith, length_word t s h column v)) (omega arith) (omega arith)

-- ---- how values are kept

-- a value has a word for each column, comes back from them, and is read from no others
pub record EncodingLaws {W : Type 0} (encoding : Encoding W) : Type 0 where
  pub size : (w : W) → length (encoding.words w) ≡ encoding.count
  pub back : (w : W) (f : ℕ → ℕ) → ((k : ℕ) → k < encoding.count → f k ≡ get_or (encoding.words w) k 0) → encoding.read f ≡ w
  pub same : (f g : ℕ → ℕ) → ((k : ℕ) → k < encoding.count → f k ≡ g k) → encoding.read f ≡ encoding.read g

pub one_laws : EncodingLaws one_number
one_laws = record { size = λ w. refl; back = λ w f e. e 0 (omega arith); same = λ f g e. e 0 (omega arith) }

pub both_laws : {A B : Type 0} {a : Encoding A} {b : Encoding B} → EncodingLaws a → EncodingLaws b → EncodingLaws (both a b)
both_laws {a = a} {b = b} la lb =
    record {
      size = λ w. length-append (a.words w.0) (b.words w.1) ∙ rw (la.size w.0, lb.size w.1);
      back = λ w f e.
          let x = la.back w.0 f (λ k l. e k (omega arith) ∙ get_or-append (a.words w.0) (b.words w.1) 0 k (omega (arith, la.size w.0))) in
          let y = lb.back w.1 (λ k. f (k + a.count)) (λ k l.
          let q : k + a.count ≡ length (a.words w.0) + k = omega (arith, la.size w.0) in
          e (k + a.count) (omega arith) ∙ ap (λ (x : ℕ). get_or (a.words w.0 ++ b.words w.1) x 0) q
          ∙ get_or-append-add (a.words w.0) (b.words w.1) k 0) in
          λ i. (x i, y i);
      same = λ f g e.
          let x = la.same f g (λ k l. e k (omega arith)) in
          let y = lb.same (λ k. f (k + a.count)) (λ k. g (k + a.count)) (λ k l. e (k + a.count) (omega arith)) in
          λ i. (x i, y i);
    }

pub two_laws : EncodingLaws two_numbers
two_laws = both_laws one_laws one_laws

pub three_laws : EncodingLaws three_numbers
three_laws = both_laws two_laws one_laws

-- ---- keys of a kind

-- the key of a slot, and four laws: a slot matches the key that it has; a key is read from the key columns; a key stored changes these alone; and the
-- slot then has it, and the others theirs
pub record KeyColumnLaws {K : Type 0} (keys : KeyColumns K) : Type 1 where
  pub Legal : K → Type 0
  pub key_at : List ℕ → ℕ → K
  pub behind : 2 ≤ keys.values
  pub matched : (t : List ℕ) (k : K) (i : ℕ) → keys.values ≤ length t → Legal k → i < 16 → (keys.matches t k i ≡ true) ↔ (k ≡ key_at t i)
  pub reads : (t u : List ℕ) (i : ℕ) → ((x : ℕ) → 2 ≤ x → x < keys.values → get_or u x 0 ≡ get_or t x 0) → key_at u i ≡ key_at t i
  pub stored_length : (t : List ℕ) (s : ℕ) (k : K) → s < 16 → length (keys.stored t s k) ≡ length t
  pub stored_ranks : (t : List ℕ) (s : ℕ) (k : K) → s < 16 → (x : ℕ) → x < 2 → get_or (keys.stored t s k) x 0 ≡ get_or t x 0
  pub stored_values : (t : List ℕ) (s : ℕ) (k : K) → s < 16 → (x : ℕ) → keys.values ≤ x → get_or (keys.stored t s k) x 0 ≡ get_or t x 0
  pub stored_here : (t : List ℕ) (s : ℕ) (k : K) → keys.values ≤ length t → Legal k → s < 16 → key_at (keys.stored t s k) s ≡ k
  pub stored_other : (t : List ℕ) (s : ℕ) (k : K) → s < 16 → (i : ℕ) → i ≢ s → key_at (keys.stored t s k) i ≡ key_at t i

-- the table of keys of a kind, with values kept in so many columns
module _ {K W : Type 0} (keys : KeyColumns K) (L : KeyColumnLaws keys) (encoding : Encoding W) (E : EncodingLaws encoding) where
  -- a key, a use and a value stored in a slot
  module _ (t : List ℕ) (s : ℕ) (k : K) (w : W) (z : length t ≡ keys.values + encoding.count * 16) (h : s < 16) where
    abbrev pub with_key : List ℕ
    with_key = keys.stored t s k

    abbrev pub with_use : List ℕ
    with_use = used_slot with_key s

    abbrev pub with_value : List ℕ
    with_value = value_set with_use keys.values s (encoding.words w)

    length_with_use : length with_use ≡ length t
    length_with_use = (used_only with_key s).size ∙ L.stored_length t s k h

    pub value_length : length with_value ≡ keys.values + encoding.count * 16
    value_length = length_values s h (encoding.words w) with_use keys.values ∙ length_with_use ∙ z

    -- below the values the words are those after the use, and behind the ranks these are the key's
    below : (x : ℕ) → x < keys.values → get_or with_value x 0 ≡ get_or with_use x 0
    below x l = values_out s h x (encoding.words w) with_use keys.values (λ j q. omega arith)

    pub in_key : (x : ℕ) → 2 ≤ x → x < keys.values → get_or with_value x 0 ≡ get_or with_key x 0
    in_key x l g = below x g ∙ (used_only with_key s).rest x (omega arith)

    pub value_rank : (i : ℕ) → i < 16 → rank_of with_value i ≡ used_rank (rank_of t) s i
    value_rank i l =
        rank_same with_use with_value i l (λ x o. below x (omega (arith, L.behind)))
        ∙ used_rank_lem with_key s h (omega (arith, L.stored_length t s k h, L.behind)) i l
        ∙ rw (same s h, same i l)
      where
        same : (j : ℕ) → j < 16 → rank_of with_key j ≡ rank_of t j
        same j m = rank_same t with_key j m (λ x o. L.stored_ranks t s k h x (omega arith))

    pub value_back : encoding.read (value_word with_value keys.values s) ≡ w
    value_back =
        E.back w _ (λ j l.
        word_at with_value s h (j * 16 + keys.values)
        ∙ values_in s h (encoding.words w) with_use keys.values j (j * 16 + keys.values + s) (omega (arith, length_with_use, E.size w))
        (omega (arith, E.size w)) (omega arith))

    pub other_value : (i : ℕ) → i ≢ s → encoding.read (value_word with_value keys.values i) ≡ encoding.read (value_word t keys.values i)
    other_value i n =
        E.same _ _ (λ j l.
        word_same t with_value (j * 16 + keys.values) i (λ g.
        values_out s h (j * 16 + keys.values + i) (encoding.words w) with_use keys.values (λ m q. n (omega arith))
        ∙ (used_only with_key s).rest (j * 16 + keys.values + i) (omega (arith, L.behind))
        ∙ L.stored_values t s k h (j * 16 + keys.values + i) (omega arith)))

  abbrev pub table : Table K W
  table =
      record {
        State = List ℕ;
        Sized = λ t. length t ≡ keys.values + encoding.count * 16;
        Legal = L.Legal;
        columns = word_table keys encoding;
        key = L.key_at;
        matched = λ t k i z. L.matched t k i (omega arith);
        stored = λ t s k w z g h.
            record {
              sized = value_length t s k w z h;
              uses = value_rank t s k w z h;
              same = (
                L.reads (with_key t s k w z h) (with_value t s k w z h) s (in_key t s k w z h)
                    ∙ L.stored_here t s k (omega arith) g h,
                value_back t s k w z h,
              );
              other = λ i n. (
                L.reads (with_key t s k w z h) (with_value t s k w z h) i (in_key t s k w z h) ∙ L.stored_other t s k h i n,
                other_value t s k w z h i n,
              );
            };
      }

-- ---- a table without entries, an entry forgotten, a frame entered

pub length_none : (n : ℕ) → length (no_entries n) ≡ n
unfolding no_entries
length_none n = length_tabulate _ n

pub length_zero : (n : ℕ) → length (zero_words n) ≡ n
unfolding zero_words
length_zero n = length_tabulate _ n

pub none_free : (n : ℕ) → 2 ≤ n → all_free (no_entries n) ≡ true
unfolding no_entries all_free
none_free n h = and_yes (word 0 (omega arith)) (word 1 (omega arith))
  where
    word : (x : ℕ) → x < 2 → eqb (get_or (tabulate (λ k. cond (ltb k 2) free_word 0) n) x 0) free_word ≡ true
    word x l = eq-eqb _ free_word (tabulate_at _ n x 0 (omega arith) ∙ cond_yes _ _ (lt-ltb x 2 l))

pub rank_none : (n : ℕ) → 2 ≤ n → (i : ℕ) → i < 16 → rank_of (no_entries n) i ≡ 16
rank_none n h = free_rank (no_entries n) (none_free n h)

module _ {K W : Type 0} (keys : KeyColumns K) (L : KeyColumnLaws keys) (encoding : Encoding W) (E : EncodingLaws encoding) (dec : Discrete K) where
  module _ {t : List ℕ} {l : List (K × W)} (r : Represents (table keys L encoding E) t l) where
    -- an entry forgotten goes from the list, and the others keep their order
    pub words_forgotten : (s : ℕ) → s < 16 → in_use (rank_of t) s ≡ true
        → Represents (table keys L encoding E) (forgotten_slot t s) (without dec (L.key_at t s) l)
    words_forgotten s h e =
        let u = ltb-true (rank_of t s) 16 e in
        represents_forgotten (table keys L encoding E) dec r s h e
        ((forgotten_only t s).size ∙ r.sized)
        (forgotten_rank_lem t s h (omega (arith, r.sized, L.behind)) u)
        (λ i.
        let p = L.reads t (forgotten_slot t s) i (λ x l g. (forgotten_only t s).rest x (omega arith)) in
        let q = E.same _ _ (λ j l. word_same t (forgotten_slot t s) (j * 16 + keys.values) i (λ g. (forgotten_only t s).rest _ (omega (arith, L.behind)))) in
        λ x. (p x, q x))

module _ {K W : Type 0} (keys : KeyColumns K) (L : KeyColumnLaws keys) (encoding : Encoding W) (E : EncodingLaws encoding) (t : List ℕ) where
  -- the value that is read where a frame was entered is what the table had of its key
  pub value_entered : (k : K)
      → value_of (word_table keys encoding) t k
      ≡ if_known (entered keys t k).place.known (encoding.read (value_word (entered keys t k).table keys.values (entered keys t k).place.slot))
  unfolding entered found
  value_entered k = go (searched (λ i. keys.matches t k i && in_use (rank_of t) i) 0 16)
    where
      go : {f : Option ℕ} → Searched (λ i. keys.matches t k i && in_use (rank_of t) i) 0 16 f
          → (let e = entered_at keys t k (place_at (rank_of t) f) in
          value_at (word_table keys encoding) t f ≡ if_known e.place.known (encoding.read (value_word e.table keys.values e.place.slot)))
      go (hit s h p) =
          ap some (E.same _ _ (λ j l.
          sym (word_same t (used_slot (keys.stored t s k) s) (j * 16 + keys.values) s (λ g.
          (used_only (keys.stored t s k) s).rest _ (omega (arith, L.behind)) ∙ L.stored_values t s k h _ (omega arith)))))
      go (miss p) = refl

-- ---- a check: a frame entered, its value read, and the value that follows set in the slot that it used

module _ {K W : Type 0} (keys : KeyColumns K) (L : KeyColumnLaws keys) (encoding : Encoding W) (E : EncodingLaws encoding) (t : List ℕ) (k : K)
    {u : List ℕ} {place : Place} (e : record { table = u; place = place } ≡ entered keys t k) where
  -- the value that is read is what the table had of the key
  pub value_read : if_known place.known (encoding.read (value_word u keys.values place.slot)) ≡ value_of (word_table keys encoding) t k
  value_read =
      ap (λ (x : Entered). if_known x.place.known (encoding.read (value_word x.table keys.values x.place.slot))) e
      ∙ sym (value_entered keys L encoding E t k)

  -- and the table is then one frame further
  pub value_stored : {I : Type 0} (fresh : I → W) (step : W → I → W) (i : I) {w : W} {out : List ℕ}
      → w ≡ after fresh step (value_of (word_table keys encoding) t k) i → out ≡ value_set u keys.values place.slot (encoding.words w)
      → out ≡ stepped (word_table keys encoding) fresh step t k i
  unfolding entered found
  value_stored fresh step i {w} v o =
      o
      ∙ ap (λ (x : Entered). value_set x.table keys.values x.place.slot (encoding.words w)) e
      ∙ ap (λ (x : W). value_set (entered keys t k).table keys.values (entered keys t k).place.slot (encoding.words x)) v

-- ---- a key found, where only values were changed

module _ {K : Type 0} (keys : KeyColumns K) (L : KeyColumnLaws keys) (k : K) (g : L.Legal k) where
  -- whether a slot in use has a key goes by the ranks and the key columns
  has_kept : (t u : List ℕ) → keys.values ≤ length t → keys.values ≤ length u → ((x : ℕ) → x < keys.values → get_or u x 0 ≡ get_or t x 0)
      → (j : ℕ) → j < 16 → keys.matches t k j && in_use (rank_of t) j ≡ true → keys.matches u k j && in_use (rank_of u) j ≡ true
  has_kept t u z y same j l e =
      let b = and_both (keys.matches t k j) (in_use (rank_of t) j) e in
      and_yes ((L.matched u k j y g l).1 ((L.matched t k j z g l).0 b.0 ∙ sym (L.reads t u j (λ x m n. same x n))))
      (ap (λ (r : ℕ). ltb r 16) (rank_same t u j l (λ x m. same x (omega (arith, L.behind)))) ∙ b.1)

  pub found_kept : (t u : List ℕ) → keys.values ≤ length t → keys.values ≤ length u → ((x : ℕ) → x < keys.values → get_or u x 0 ≡ get_or t x 0)
      → {i : ℕ} → found keys t k ≡ Some i → found keys u k ≡ Some i
  unfolding found
  found_kept t u z y same {i} e =
      let b = found_has (λ j. keys.matches t k j && in_use (rank_of t) j) 16 refl e in
      first_again (λ j. keys.matches t k j && in_use (rank_of t) j) (λ j. keys.matches u k j && in_use (rank_of u) j) 0 16 i (omega arith) b.0
      (has_kept t u z y same i b.0 b.1) (λ j l n. has_kept u t y z (λ x m. sym (same x m)) j l) (ap (slot_or i) e)

-- ---- by number

abbrev pub numbered_laws : KeyColumnLaws numbered
numbered_laws =
    record {
      Legal = λ k. Unit {0};
      key_at = λ t i. word_of t 2 i;
      behind = omega arith;
      matched = λ t k i z g h. (
        λ e. sym (word_at t i h 2 ∙ eqb-true (get_or t (2 + i) 0) k e),
        λ e. eq-eqb (get_or t (2 + i) 0) k (sym (e ∙ word_at t i h 2)),
      );
      reads = λ t u i e. word_same t u 2 i (λ h. e (2 + i) (omega arith) (omega arith));
      stored_length = λ t s k h. length_word t s h 2 k;
      stored_ranks = λ t s k h x o. word_out t s h 2 k x (λ q. omega arith);
      stored_values = λ t s k h x o. word_out t s h 2 k x (λ q. omega arith);
      stored_here = λ t s k z g h. word_at (number_stored t s k) s h 2 ∙ word_in t s h 2 k (omega arith);
      stored_other = λ t s k h i n. word_same t (number_stored t s k) 2 i (λ l. word_out t s h 2 k (2 + i) (λ q. n (omega arith)));
    }

-- ---- by name

-- a word of a slot's name
abbrev pub name_at : ℕ → List ℕ → ℕ → ℕ → ℕ
name_at start t i k = cond (ltb i 16) (get_or t (start + 32 + i * 8 + k) 0) 0

-- the key of a slot
abbrev pub key_at : ℕ → List ℕ → ℕ → List ℕ
key_at start t i = word_of t start i ∷ word_of t (start + 16) i ∷ tabulate (name_at start t i) 8

-- it is the ten words that the slot's columns have
module _ (start : ℕ) (t k : List ℕ) (i : ℕ) (h : i < 16) where
  name_at_lem : (j : ℕ) → name_at start t i j ≡ get_or t (start + 32 + i * 8 + j) 0
  name_at_lem j = cond_yes _ _ (lt-ltb i 16 h)

  key_is : length k ≡ 10 → get_or t (start + i) 0 ≡ get_or k 0 0 → get_or t (start + 16 + i) 0 ≡ get_or k 1 0
      → ((j : ℕ) → j < 8 → get_or t (start + 32 + i * 8 + j) 0 ≡ get_or k (j + 2) 0) → key_at start t i ≡ k
  key_is g a b w = ext_get_or 0 (key_at start t i) k (omega (arith, length_tabulate (name_at start t i) 8)) each
    where
      each : (j : ℕ) → j < length (key_at start t i) → get_or (key_at start t i) j 0 ≡ get_or k j 0
      each zero l = word_at t i h start ∙ a
      each (suc zero) l = word_at t i h (start + 16) ∙ b
      each (suc (suc j)) l =
          let y : j < 8 = omega (arith, length_tabulate (name_at start t i) 8) in
          let e : j + 2 ≡ suc (suc j) = omega arith in
          tabulate_at (name_at start t i) 8 j 0 y ∙ name_at_lem j ∙ w j y ∙ ap (λ (x : ℕ). get_or k x 0) e

  pub key_matched : length k ≡ 10 → (has_key start t k i ≡ true) ↔ (k ≡ key_at start t i)
  key_matched g = (
    λ e. let m = has_key_lem start t k i e in sym (key_is g m.sum m.size m.word),
    λ e.
        let at : (j : ℕ) → get_or (key_at start t i) j 0 ≡ get_or k j 0 = λ j. ap (λ (l : List ℕ). get_or l j 0) (sym e) in
        sym (name_decides start t k i h (sym (word_at t i h start) ∙ at 0) (sym (word_at t i h (start + 16)) ∙ at 1) (sym (agree_all _ _ 8 (λ j l.
        let q : suc (suc j) ≡ j + 2 = omega arith in
        sym (tabulate_at (name_at start t i) 8 j 0 l ∙ name_at_lem j) ∙ at (suc (suc j)) ∙ ap (λ (x : ℕ). get_or k x 0) q)))),
  )

-- a key is the same where its words are
pub key_same : (start : ℕ) (t u : List ℕ) (i : ℕ) → (i < 16 → get_or u (start + i) 0 ≡ get_or t (start + i) 0)
    → (i < 16 → get_or u (start + 16 + i) 0 ≡ get_or t (start + 16 + i) 0)
    → ((j : ℕ) → i < 16 → j < 8 → get_or u (start + 32 + i * 8 + j) 0 ≡ get_or t (start + 32 + i * 8 + j) 0) → key_at start u i ≡ key_at start t i
key_same start t u i a b w =
    let p = word_same t u start i a in
    let q = word_same t u (start + 16) i b in
    let r = tabulate_same (name_at start u i) (name_at start t i) 8 (λ j l. slot_same i _ _ 0 (λ h. w j h l)) in
    λ x. p x ∷ q x ∷ r x

-- a key stored
module _ (start : ℕ) (t : List ℕ) (s : ℕ) (k : List ℕ) (h : s < 16) where
  abbrev numbers_set : List ℕ
  numbers_set = set (set t (start + s) (get_or k 0 0)) (start + 16 + s) (get_or k 1 0)

  numbers_length : length numbers_set ≡ length t
  numbers_length = simp length-set refl

  stored_is : key_stored start t s k ≡ overwritten numbers_set (start + 32 + s * 8) (λ j. get_or k (j + 2) 0) 8
  unfolding key_stored
  stored_is = cond_yes _ _ (lt-ltb s 16 h)

  pub key_length : length (key_stored start t s k) ≡ length t
  key_length = ap length stored_is ∙ length_overwritten numbers_set (λ j. get_or k (j + 2) 0) (start + 32 + s * 8) 8 ∙ numbers_length

  numbers_out : (x : ℕ) → x ≢ start + s → x ≢ start + 16 + s → get_or numbers_set x 0 ≡ get_or t x 0
  numbers_out x a b = get_or-set_other (set t (start + s) (get_or k 0 0)) (start + 16 + s) x (get_or k 1 0) 0 b
      ∙ get_or-set_other t (start + s) x (get_or k 0 0) 0 a

  name_out : (x : ℕ) → ((j : ℕ) → j < 8 → x ≢ start + 32 + s * 8 + j) → get_or (key_stored start t s k) x 0 ≡ get_or numbers_set x 0
  name_out x o = rw stored_is (overwritten_out numbers_set (start + 32 + s * 8) (λ j. get_or k (j + 2) 0) 8 x o)

  pub key_out : (x : ℕ) → x ≢ start + s → x ≢ start + 16 + s → ((j : ℕ) → j < 8 → x ≢ start + 32 + s * 8 + j)
      → get_or (key_stored start t s k) x 0 ≡ get_or t x 0
  key_out x a b o = name_out x o ∙ numbers_out x a b

  pub key_here : start + 160 ≤ length t → length k ≡ 10 → key_at start (key_stored start t s k) s ≡ k
  key_here z g =
      key_is start (key_stored start t s k) k s h g
      (name_out (start + s) (λ j l q. omega arith)
      ∙ get_or-set_other (set t (start + s) (get_or k 0 0)) (start + 16 + s) (start + s) (get_or k 1 0) 0 (λ q. omega arith)
      ∙ get_or-set_same t (start + s) (get_or k 0 0) 0 (omega arith))
      (name_out (start + 16 + s) (λ j l q. omega arith)
      ∙ get_or-set_same (set t (start + s) (get_or k 0 0)) (start + 16 + s) (get_or k 1 0) 0 (simp length-set (omega arith)))
      (λ j l. rw stored_is (overwritten_in numbers_set (start + 32 + s * 8) (λ j. get_or k (j + 2) 0) 8 j l (omega (arith, numbers_length))))

  pub key_other : (i : ℕ) → i ≢ s → key_at start (key_stored start t s k) i ≡ key_at start t i
  key_other i n =
      key_same start t (key_stored start t s k) i
      (λ l. key_out (start + i) (λ q. n (omega arith)) (λ q. omega arith) (λ j m q. omega arith))
      (λ l. key_out (start + 16 + i) (λ q. omega arith) (λ q. n (omega arith)) (λ j m q. omega arith))
      (λ j l m. key_out (start + 32 + i * 8 + j) (λ q. omega arith) (λ q. omega arith) (λ x y q. n (omega arith)))

abbrev pub named_laws : KeyColumnLaws named
named_laws =
    record {
      Legal = λ k. length k ≡ 10;
      key_at = key_at 2;
      behind = omega arith;
      matched = λ t k i z g h. key_matched 2 t k i h g;
      reads = λ t u i e.
          key_same 2 t u i (λ h. e (2 + i) (omega arith) (omega arith)) (λ h. e (18 + i) (omega arith) (omega arith))
          (λ j h l. e (34 + i * 8 + j) (omega arith) (omega arith));
      stored_length = key_length 2;
      stored_ranks = λ t s k h x o. key_out 2 t s k h x (λ q. omega arith) (λ q. omega arith) (λ j l q. omega arith);
      stored_values = λ t s k h x o. key_out 2 t s k h x (λ q. omega arith) (λ q. omega arith) (λ j l q. omega arith);
      stored_here = λ t s k z g h. key_here 2 t s k h z g;
      stored_other = λ t s k h i n. key_other 2 t s k h i n;
    }

-- ---- the two kinds

module _ {W : Type 0} {encoding : Encoding W} (E : EncodingLaws encoding) where
  abbrev pub named_table : Table (List ℕ) W
  named_table = table named named_laws encoding E

  abbrev pub numbered_table : Table ℕ W
  numbered_table = table numbered numbered_laws encoding E
