-- Laws of elements: what a readable one tells of its octets, and the elements of a part one by one.
use mathlib.Core.Path.{◌≡◌, refl, sym, ◌∙◌, ap}
use mathlib.Core.Bool.{Bool, true, false, ◌&&◌, cond}
use mathlib.Core.List.{List, [], ◌∷◌}
use Prim.Native.Nat.{ℕ, zero, suc, ◌+◌, ◌-◌, ◌%◌, ◌≤◌, ◌<◌}
use native.Mathlib.Nat.{not-suc-le-zero}
use native.Mathlib.Omega.{arith}
use borrow.Author.Tests.{leb-true, lt-ltb, le-ltb, le-leb, lt-leb, eq-eqb, ne_eqb}
use lib.Dec.{eqb, ltb, leb}
use lib.ListN.{length, take, drop, length-take, length-drop}
use lib.Seq.{take_all, drop-drop}
use Rattle.records.proofs.Booleans.{cond_holds}
use Rattle.records.specs.Octets.{octet_at}
use Rattle.std.proofs.Common.{Option, Some, None, Ok, Err}
use Rattle.wire.specs.declared.element.Length.{Length}
use Rattle.wire.specs.declared.element.Head.{Head}
use Rattle.wire.specs.declared.element.Element.{Element}
use Rattle.wire.specs.Number.{big_endian}
use Rattle.wire.proofs.PartLaws.{rest-is}
use Rattle.records.specs.declared.error.VsError.{VsError}
use Rattle.records.specs.declared.error.VsError.TheVariants.{InvalidInput}
use Rattle.wire.specs.Element.{limited, long_form, length_of, head_with, head_of, within, headed, element}
use Rattle.wire.specs.Element.{Elements, ended, failed, next, element_then, elements_of, elements}
use Rattle.wire.specs.Element.{Sought, first_content, content_of, opened}
use Rattle.wire.specs.Element.{content_place, opened_place, first_place}
use Rattle.wire.specs.LengthCases.{further_octets}
use Rattle.wire.specs.Reader.{after_element}

module _ (tag start len total : ℕ) where
  pub within_is : start + len ≤ total → within tag start len total ≡ Some (record { tag = tag; start = start; len = len; end = start + len })
  unfolding within
  within_is h = rw (le-leb (start + len) total h)

  pub within_not : total < start + len → within tag start len total ≡ None
  unfolding within
  within_not h = rw (lt-leb (start + len) total h)

-- further octets, by how many there are and what they hold
module _ (n : ℕ) (further : List ℕ) where
  pub further_missing : length further < n → further_octets n further ≡ None
  unfolding further_octets
  further_missing h = rw (lt-leb n (length further) h)

  module _ (four : n ≤ 4) (there : n ≤ length further) {value : ℕ} (e : value ≡ big_endian (take 4 (take n further))) where
    further_limited : further_octets n further ≡ limited (n + 1) value
    unfolding further_octets
    further_limited = rw (le-leb n (length further) there, e, take_all 4 (take n further) (simp length-take (omega arith)))

    pub further_is : value ≤ 65535 → further_octets n further ≡ Some (record { octets = n + 1; value = value })
    further_is h = further_limited ∙ rw (le-leb value 65535 h)

    pub further_above : 65535 < value → further_octets n further ≡ None
    further_above h = further_limited ∙ rw (lt-leb value 65535 h)

-- without a first octet there is no length
pub length_none : (octets : List ℕ) → length octets ≡ 0 → length_of octets ≡ None
unfolding length_of
length_none [] e = refl
length_none (o ∷ more) e = absurd (omega arith)

-- the head, by the first two octets
module _ (octets : List ℕ) where
  pub head_short : length octets < 2 → head_of octets ≡ None
  unfolding head_of
  head_short h = rw (lt-ltb (length octets) 2 h)

  pub head_high : 2 ≤ length octets → octet_at octets 0 % 32 ≡ 31 → head_of octets ≡ None
  unfolding head_of
  head_high h e = rw (le-ltb (length octets) 2 h, eq-eqb (octet_at octets 0 % 32) 31 e)

  -- by the length octets, which are read from the second octet on
  module _
      (h : 2 ≤ length octets) (n : octet_at octets 0 % 32 ≡ 31 → ⊥) {r : Option Length}
      (e : r ≡ length_of (take (length octets - 1) (drop 1 octets))) where
    pub head_by : {l : Option Length} → r ≡ l → head_of octets ≡ head_with (octet_at octets 0) l
    unfolding head_of
    head_by q =
        rw (le-ltb (length octets) 2 h, ne_eqb (octet_at octets 0 % 32) 31 n)
        (ap (head_with (octet_at octets 0)) (sym (ap length_of (rest-is octets 1)) ∙ sym e ∙ q))

-- the element, by its head
module _ (octets : List ℕ) {h : Option Head} (e : h ≡ head_of octets) where
  pub element_by : {g : Option Head} → h ≡ g → element octets ≡ headed (length octets) g
  unfolding element
  element_by q = ap (headed (length octets)) (sym e ∙ q)

-- length octets that are read are one to five
pub definite : (octets : List ℕ) {l : Length} → length_of octets ≡ Some l → (1 ≤ l.octets) × (l.octets ≤ 5)
unfolding length_of long_form
definite [] e = absurd (cc)
definite (first ∷ further) {l} e =
    short (ltb first 0x80) (long (first - 0x80) (leb 1 (first - 0x80)) (leb (first - 0x80) 4) (leb (first - 0x80) (length further)) refl) e
  where
    limits : (b : Bool) (n v : ℕ) → n ≤ 4 → cond b (Some (record { octets = n + 1; value = v })) None ≡ Some l → (1 ≤ l.octets) × (l.octets ≤ 5)
    limits true n v h q = let u : n + 1 ≡ l.octets = cc in (omega arith, omega arith)
    limits false n v h q = absurd (cc)

    long : (n : ℕ) (a b c : Bool) → leb n 4 ≡ b → cond (a && b && c) (limited (n + 1) (big_endian (take n further))) None ≡ Some l
        → (1 ≤ l.octets) × (l.octets ≤ 5)
    long n true true true r q = limits (leb (big_endian (take n further)) 65535) n _ (leb-true n 4 r) q
    long n true true false r q = absurd (cc)
    long n true false c r q = absurd (cc)
    long n false b c r q = absurd (cc)

    short : (b : Bool)
        → (long_form (first - 0x80) further ≡ Some l → (1 ≤ l.octets) × (l.octets ≤ 5))
        → cond b (Some (record { octets = 1; value = first })) (long_form (first - 0x80) further) ≡ Some l
        → (1 ≤ l.octets) × (l.octets ≤ 5)
    short true f q = let u : 1 ≡ l.octets = cc in (omega arith, omega arith)
    short false f q = f q

-- a head that is read takes two octets or more
pub head_size : (octets : List ℕ) {h : Head} → head_of octets ≡ Some h → (2 ≤ h.start) × (h.start ≤ 6)
unfolding head_of
head_size octets {h} e =
    go (ltb (length octets) 2) (eqb (octet_at octets 0 % 32) 31) (length_of (drop 1 octets)) refl e
  where
    go : (a b : Bool) (l : Option Length) → length_of (drop 1 octets) ≡ l
        → cond a None (cond b None (head_with (octet_at octets 0) l)) ≡ Some h → (2 ≤ h.start) × (h.start ≤ 6)
    go true b l q p = absurd (cc)
    go false true l q p = absurd (cc)
    go false false (Some l) q p =
        let d = definite (drop 1 octets) q in
        let u : l.octets + 1 ≡ h.start = cc in
        (omega arith, omega arith)
    go false false None q p = absurd (cc)

module _ (octets : List ℕ) {x : Element} where
  -- a readable element takes two octets or more, and no more than there are; its content is within it
  pub element_end : element octets ≡ Some x → (2 ≤ x.end) × (x.end ≤ length octets) × (x.start + x.len ≡ x.end)
  unfolding element within
  element_end e = go (head_of octets) refl e
    where
      ends : (b : Bool) (h : Head) → 2 ≤ h.start → leb (h.start + h.len) (length octets) ≡ b
          → cond b (Some (record { tag = h.tag; start = h.start; len = h.len; end = h.start + h.len })) None ≡ Some x
          → (2 ≤ x.end) × (x.end ≤ length octets) × (x.start + x.len ≡ x.end)
      ends true h two q p =
          let u : h.start + h.len ≡ x.end = cc in
          let v : h.start ≡ x.start = cc in
          let w : h.len ≡ x.len = cc in
          let l = leb-true (h.start + h.len) (length octets) q in
          (omega arith, omega arith, omega arith)
      ends false h two q p = absurd (cc)

      go : (h : Option Head) → head_of octets ≡ h → headed (length octets) h ≡ Some x
          → (2 ≤ x.end) × (x.end ≤ length octets) × (x.start + x.len ≡ x.end)
      go (Some h) q p = ends (leb (h.start + h.len) (length octets)) h (head_size octets q).0 refl p
      go None q p = absurd (cc)

-- no more turns than octets are needed
pub elements_enough : (n m : ℕ) (octets : List ℕ) → length octets ≤ n → length octets ≤ m → elements_of n octets ≡ elements_of m octets
unfolding elements_of
elements_enough zero zero octets h g = refl
elements_enough zero (suc m) [] h g = refl
elements_enough zero (suc m) (o ∷ more) h g = absurd (not-suc-le-zero h)
elements_enough (suc n) zero [] h g = refl
elements_enough (suc n) zero (o ∷ more) h g = absurd (not-suc-le-zero g)
elements_enough (suc n) (suc m) [] h g = refl
elements_enough (suc n) (suc m) (o ∷ more) h g =
    go (element (o ∷ more)) refl (λ end l.
    elements_enough n m (drop end (o ∷ more)) (simp length-drop (omega arith)) (simp length-drop (omega arith)))
  where
    go : (e : Option Element) → element (o ∷ more) ≡ e → ((end : ℕ) → 2 ≤ end → elements_of n (drop end (o ∷ more)) ≡ elements_of m (drop end (o ∷ more)))
        → element_then (elements_of n) (o ∷ more) e ≡ element_then (elements_of m) (o ∷ more) e
    go None q f = refl
    go (Some x) q f = ap (next x.tag x.start (take x.len (drop x.start (o ∷ more)))) (f x.end (element_end (o ∷ more) q).0)

-- the elements of a part, one by one
module _ (octets : List ℕ) where
  pub elements_none : length octets ≡ 0 → elements octets ≡ ended
  unfolding elements_of
  elements_none e = rw e

  pub elements_unreadable : 0 < length octets → element octets ≡ None → elements octets ≡ failed InvalidInput
  unfolding elements_of
  elements_unreadable h e = go octets h e
    where
      go : (l : List ℕ) → 0 < length l → element l ≡ None → elements_of (length l) l ≡ failed InvalidInput
      go [] h e = absurd (not-suc-le-zero h)
      go (o ∷ more) h e = rw e

  pub elements_read :
      {x : Element} → element octets ≡ Some x
      → elements octets ≡ next x.tag x.start (take x.len (drop x.start octets)) (elements (drop x.end octets))
  unfolding elements_of
  elements_read {x} e = go octets e
    where
      go : (l : List ℕ) → element l ≡ Some x
          → elements_of (length l) l ≡ next x.tag x.start (take x.len (drop x.start l)) (elements (drop x.end l))
      go [] e = let b = element_end [] e in absurd (omega arith)
      go (o ∷ more) e =
          let b = element_end (o ∷ more) e in
          rw e (ap (next x.tag x.start (take x.len (drop x.start (o ∷ more))))
          (elements_enough (length more) (length (drop x.end (o ∷ more))) (drop x.end (o ∷ more)) (simp length-drop (omega arith)) (omega arith)))

  -- what a reader yields: the element at the front, then the elements of what is left past it
  pub reader_yields :
      0 < length octets → (e : Option Element) → e ≡ element octets → {more : List ℕ} → more ≡ after_element octets e
      → elements octets ≡ element_then (λ _. elements more) octets e
  reader_yields h None q m = elements_unreadable h (sym q)
  reader_yields h (Some x) q m = elements_read (sym q) ∙ rw m

-- an element that is read from a place on
module _ (octets : List ℕ) (at : ℕ) {e : Option Element} (q : e ≡ element (take (length octets - at) (drop at octets))) where
  there : {r : Option Element} → e ≡ r → element (drop at octets) ≡ r
  there k = ap element (sym (rest-is octets at)) ∙ sym q ∙ k

  pub unreadable_at : at < length octets → e ≡ None → elements (drop at octets) ≡ failed InvalidInput
  unreadable_at h k = elements_unreadable (drop at octets) (simp length-drop (omega arith)) (there k)

  module _ {x : Element} (k : e ≡ Some x) where
    -- it ends within the octets, and its content is within it
    pub ends_at : at ≤ length octets → (2 ≤ x.end) × (at + x.end ≤ length octets) × (x.start + x.len ≡ x.end)
    ends_at h = let b = element_end (drop at octets) (there k) in let n = length-drop at octets in (b.0, omega (arith, b.1, n), b.2)

    pub read_at_lem :
        elements (drop at octets) ≡ next x.tag x.start (take x.len (drop (at + x.start) octets)) (elements (drop (at + x.end) octets))
    read_at_lem =
        elements_read (drop at octets) (there k)
        ∙ λ i. next x.tag x.start (take x.len (drop-drop x.start at octets i)) (elements (drop-drop x.end at octets i))

-- the place of the first element with a tag, one element at a time
module _ (tag at : ℕ) {es : Elements} where
  pub first_none : es ≡ ended → first_place tag at es ≡ Ok None
  unfolding first_place
  first_none e = rw e

  pub first_failed : {x : VsError} → es ≡ failed x → first_place tag at es ≡ Err x
  unfolding first_place
  first_failed e = rw e

  module _ {other head : ℕ} {content : List ℕ} {rest : Elements} (e : es ≡ next other head content rest) where
    pub first_same : other ≡ tag → first_place tag at es ≡ Ok (Some (record { start = at + head; len = length content }))
    unfolding first_place
    first_same q = rw (e, eq-eqb other tag q)

    pub first_other : (other ≡ tag → ⊥) → first_place tag at es ≡ first_place tag (at + head + length content) rest
    unfolding first_place
    first_other n = rw (e, ne_eqb other tag n)

-- the same, of an element that is read from a place on
module _
    (octets : List ℕ) (at : ℕ) {e : Option Element} (q : e ≡ element (take (length octets - at) (drop at octets)))
    {x : Element} (k : e ≡ Some x) (h : at ≤ length octets) where
  pub content_length : length (take x.len (drop (at + x.start) octets)) ≡ x.len
  content_length =
      let w = ends_at octets at q k h in
      length-take x.len (drop (at + x.start) octets) ∙ omega (arith, length-drop (at + x.start) octets, w.1, w.2)

  pub place_same :
      (tag : ℕ) → x.tag ≡ tag → first_place tag at (elements (drop at octets)) ≡ Ok (Some (record { start = at + x.start; len = x.len }))
  place_same tag s =
      first_same tag at (read_at_lem octets at q k) s ∙ λ i. Ok (Some (record { start = at + x.start; len = content_length i }))

  pub content_end : at + x.start + length (take x.len (drop (at + x.start) octets)) ≡ at + x.end
  content_end = let w = ends_at octets at q k h in omega (arith, content_length, w.2)

  pub place_other :
      (tag : ℕ) → (x.tag ≡ tag → ⊥)
      → first_place tag at (elements (drop at octets)) ≡ first_place tag (at + x.end) (elements (drop (at + x.end) octets))
  place_other tag n =
      first_other tag at (read_at_lem octets at q k) n ∙ ap (λ (a : ℕ). first_place tag a (elements (drop (at + x.end) octets))) content_end

-- the place of what is opened: a part with another tag in front is left as it is
module _ (tag : ℕ) where
  pub opened_none : (octets : List ℕ) → length octets ≡ 0 → opened_place tag octets ≡ Ok None
  unfolding opened_place
  opened_none [] e = refl
  opened_none (o ∷ more) e = absurd (omega arith)

  pub opened_other :
      (octets : List ℕ) → 0 < length octets → (octet_at octets 0 ≡ tag → ⊥)
      → opened_place tag octets ≡ Ok (Some (record { start = 0; len = length octets }))
  unfolding opened_place
  opened_other [] h n = absurd (not-suc-le-zero h)
  opened_other (o ∷ more) h n = rw (ne_eqb o tag n)

  pub opened_same :
      (octets : List ℕ) → 0 < length octets → octet_at octets 0 ≡ tag → {e : Option Element} → element octets ≡ e
      → opened_place tag octets ≡ content_place e
  unfolding opened_place
  opened_same [] h e q = absurd (not-suc-le-zero h)
  opened_same (o ∷ more) h e q = rw (eq-eqb o tag e) (ap content_place q)

-- the contents of elements have a property, and the only error is InvalidInput; likewise of what is sought
abbrev pub Contents : (List ℕ → Type 0) → Elements → Type 0
Contents P ended = Unit
Contents P (failed e) = e ≡ InvalidInput
Contents P (next tag head content rest) = P content × Contents P rest

abbrev pub FoundOr : (List ℕ → Type 0) → Sought → Type 0
FoundOr P (Ok (Some octets)) = P octets
FoundOr P (Ok None) = Unit
FoundOr P (Err e) = e ≡ InvalidInput

-- of any octets
abbrev pub Any : List ℕ → Type 0
Any octets = Unit

-- a property that a part has of the whole
module _
    (P : List ℕ → Type 0) (of_part : (l : List ℕ) → P l → (start len : ℕ) → P (take len (drop start l)))
    (of-rest : (l : List ℕ) → P l → (n : ℕ) → P (drop n l)) where
  elements_have : (n : ℕ) (octets : List ℕ) → P octets → Contents P (elements_of n octets)
  unfolding elements_of
  elements_have zero octets o = tt
  elements_have (suc n) [] o = tt
  elements_have (suc n) (first ∷ more) o = go (element (first ∷ more)) (elements_have n)
    where
      go : (e : Option Element) → ((l : List ℕ) → P l → Contents P (elements_of n l)) → Contents P (element_then (elements_of n) (first ∷ more) e)
      go None f = refl
      go (Some x) f = (of_part (first ∷ more) o x.start x.len, f (drop x.end (first ∷ more)) (of-rest (first ∷ more) o x.end))

  pub all_elements : (octets : List ℕ) → P octets → Contents P (elements octets)
  all_elements octets o = elements_have (length octets) octets o

  pub opened_has : (tag : ℕ) (octets : List ℕ) → P octets → FoundOr P (opened tag octets)
  unfolding opened
  opened_has tag [] o = tt
  opened_has tag (first ∷ more) o = cond_holds (FoundOr P) (eqb first tag) (go (element (first ∷ more))) o
    where
      go : (e : Option Element) → FoundOr P (content_of (first ∷ more) e)
      go None = refl
      go (Some x) = of_part (first ∷ more) o x.start x.len

  first_of : (tag : ℕ) (e : Elements) → Contents P e → FoundOr P (first_content tag e)
  unfolding first_content
  first_of tag ended c = tt
  first_of tag (failed e) c = c
  first_of tag (next other head content rest) c = cond_holds (FoundOr P) (eqb other tag) c.0 (first_of tag rest c.1)

  pub first_has : (tag : ℕ) (octets : List ℕ) → P octets → FoundOr P (first_content tag (elements octets))
  first_has tag octets o = first_of tag (elements octets) (all_elements octets o)

-- of whatever is sought, the only error is InvalidInput
pub any_elements : (octets : List ℕ) → Contents Any (elements octets)
any_elements octets = all_elements Any (λ l a start len. tt) (λ l a n. tt) octets tt

pub any_opened : (tag : ℕ) (octets : List ℕ) → FoundOr Any (opened tag octets)
any_opened tag octets = opened_has Any (λ l a start len. tt) (λ l a n. tt) tag octets tt

pub any_first : (tag : ℕ) (octets : List ℕ) → FoundOr Any (first_content tag (elements octets))
any_first tag octets = first_has Any (λ l a start len. tt) (λ l a n. tt) tag octets tt
