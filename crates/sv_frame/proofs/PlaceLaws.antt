-- Laws of a frame that is read by places: what the checks read of it is what they read of the frame that is built.
use mathlib.Core.Path.{◌≡◌, refl, sym, ◌∙◌, ap}
use mathlib.Core.Bool.{Bool, true, false, ◌||◌, cond}
use mathlib.Core.List.{List}
use Prim.Native.Nat.{ℕ, ◌+◌, ◌-◌, ◌≤◌}
use native.Mathlib.Nat.{zero-add}
use native.Mathlib.Omega.{arith}
use lib.Dec.{eqb}
use lib.ListN.{length, take, drop, length-take, length-replicate}
use lib.Seq.{length-take-le, get_or-take, ext_get_or}
use Rattle.records.proofs.Booleans.{cond_holds}
use Rattle.records.proofs.NameLaws.{length_overwritten, overwritten_in}
use Rattle.records.specs.declared.error.VsError.{VsError}
use Rattle.records.specs.declared.error.VsError.TheVariants.{InvalidInput}
use Rattle.records.specs.declared.frame.SvFrame.{SvFrame}
use Rattle.records.specs.Name.{valid_len, name_of}
use Rattle.records.specs.Octets.{octet_at, overwritten}
use Rattle.std.proofs.Common.{Option, Some, Result, Ok, Err}
use Rattle.wire.specs.declared.element.Element.{Element}
use Rattle.wire.specs.declared.element.Part.{Part}
use Rattle.sv_frame.specs.declared.places.SvPlaces.{SvPlaces}
use Rattle.wire.specs.Element.{Elements, ended, failed, next, element, elements}
use Rattle.sv_frame.specs.Field.{svid_tag, dat_set_tag, smp_cnt_tag, field_fits, overlaid, with_field}
use Rattle.sv_frame.specs.Places.{SvReading, reading_of, reading_at, with_read, placed_reading, parsed_reading}
use Rattle.sv_frame.specs.Places.{no_places, with_place, places_from, places_of}
use Rattle.sv_frame.specs.Sv.{fields_from, empty_frame}
use Rattle.wire.proofs.ElementLaws.{read_at_lem, content_length, content_end}
use Rattle.wire.proofs.SoughtLaws.{Stands, elements_stand}

-- ---- names

-- what is put over the front of 64 octets reads back: nothing of what stood there
pub overlaid_name : (old content : List ℕ) → length old ≡ 64 → name_of (overlaid old content) (valid_len (length content)) ≡ take 64 content
unfolding overlaid
overlaid_name old content size =
    let n = valid_len (length content) in
    let over = overwritten old 0 (octet_at content) n in
    let kept = length_overwritten old (octet_at content) 0 n in
    let long : length (take (valid_len n) over) ≡ n = length-take-le (valid_len n) over (omega (arith, kept)) ∙ omega arith in
    let short : length (take 64 content) ≡ n = length-take 64 content ∙ omega arith in
    ext_get_or 0 (take (valid_len n) over) (take 64 content) (long ∙ sym short) (λ k h.
    get_or-take (valid_len n) over k 0 (omega (arith, long))
    ∙ rw zero-add at (overwritten_in old 0 (octet_at content) n k (omega (arith, long)) (omega (arith, long)))
    ∙ sym (get_or-take 64 content k 0 (omega (arith, long))))

-- a frame's names have 64 octets
pub record Sized (f : SvFrame) : Type 0 where
  pub svid : length f.svid ≡ 64
  pub dataset : length f.dataset_ref ≡ 64

named : (b : Bool) (old content : List ℕ) (len : ℕ) → length old ≡ 64
    → name_of (cond b (overlaid old content) old) (cond b (valid_len (length content)) len) ≡ cond b (take 64 content) (name_of old len)
named true old content len h = overlaid_name old content h
named false old content len h = refl

-- ---- fields

length_overlaid : (old content : List ℕ) → length old ≡ 64 → length (overlaid old content) ≡ 64
unfolding overlaid
length_overlaid old content h = length_overwritten old (octet_at content) 0 (valid_len (length content)) ∙ h

module _ (f : SvFrame) (s : Sized f) (tag : ℕ) (content : List ℕ) where
  field_sized : Sized (with_field f tag content)
  unfolding with_field
  field_sized =
      record {
        svid = cond_holds (λ (l : List ℕ). length l ≡ 64) (eqb tag svid_tag) (length_overlaid f.svid content s.svid) s.svid;
        dataset = cond_holds (λ (l : List ℕ). length l ≡ 64) (eqb tag dat_set_tag) (length_overlaid f.dataset_ref content s.dataset) s.dataset;
      }

  field_read : reading_of (with_field f tag content) ≡ with_read (reading_of f) tag content
  unfolding with_field with_read
  field_read =
      let a = named (eqb tag svid_tag) f.svid content f.svid_len s.svid in
      let b = named (eqb tag dat_set_tag) f.dataset_ref content f.dataset_ref_len s.dataset in
      let g = with_field f tag content in
      λ i. record {
        source = f.src_mac;
        svid = a i;
        dataset = b i;
        smp_cnt = g.smp_cnt;
        smp_rate = g.smp_rate;
        seconds = g.t_seconds_since_epoch;
        fraction = g.t_fraction_of_second;
      }

-- the fields of an ASDU in their order, as they are read
unfoldable pub read_from : SvReading → Bool → Elements → Result SvReading VsError
read_from q counted ended = cond counted (Ok q) (Err InvalidInput)
read_from q counted (failed e) = Err e
read_from q counted (next tag head content rest) =
    cond (field_fits tag content) (read_from (with_read q tag content) (counted || eqb tag smp_cnt_tag) rest) (Err InvalidInput)

pub fields_read :
    (f : SvFrame) (counted : Bool) (e : Elements) → Sized f → read_from (reading_of f) counted e ≡ parsed_reading (fields_from f counted e)
unfolding read_from fields_from
fields_read f true ended s = refl
fields_read f false ended s = refl
fields_read f counted (failed e) s = refl
fields_read f counted (next tag head content rest) s =
    go (field_fits tag content) _
    (ap (λ (q : SvReading). read_from q (counted || eqb tag smp_cnt_tag) rest) (sym (field_read f s tag content))
    ∙ fields_read (with_field f tag content) (counted || eqb tag smp_cnt_tag) rest (field_sized f s tag content))
  where
    go : (b : Bool) {q : Result SvReading VsError} (p : Result SvFrame VsError) → q ≡ parsed_reading p
        → cond b q (Err InvalidInput) ≡ parsed_reading (cond b p (Err InvalidInput))
    go true p e = e
    go false p e = refl

-- ---- the places

-- one element at a time
module _ (p : SvPlaces) (counted : Bool) (at : ℕ) {es : Elements} where
  pub places_none : es ≡ ended → {b : Bool} → counted ≡ b → places_from p counted at es ≡ cond b (Ok p) (Err InvalidInput)
  unfolding places_from
  places_none e c = rw (e, c)

  pub places_failed : {x : VsError} → es ≡ failed x → places_from p counted at es ≡ Err x
  unfolding places_from
  places_failed e = rw e

  module _ {tag head : ℕ} {content : List ℕ} {rest : Elements} (e : es ≡ next tag head content rest) where
    places_unfit : field_fits tag content ≡ false → places_from p counted at es ≡ Err InvalidInput
    unfolding places_from
    places_unfit n = rw (e, n)

    places_fit :
        field_fits tag content ≡ true
        → places_from p counted at es
        ≡ places_from (with_place p tag (record { start = at + head; len = length content }) content) (counted || eqb tag smp_cnt_tag)
        (at + head + length content) rest
    unfolding places_from
    places_fit y = rw (e, y)

-- the same, of an element that is read from a place on
module _
    (asdu : List ℕ) (p : SvPlaces) (counted : Bool) (at : ℕ) {e : Option Element} (q : e ≡ element (take (length asdu - at) (drop at asdu)))
    {x : Element} (k : e ≡ Some x)
    {content : List ℕ} (c : content ≡ take x.len (drop (at + x.start) asdu)) {fits : Bool} (f : fits ≡ field_fits x.tag content) where
  fit : {b : Bool} → fits ≡ b → field_fits x.tag (take x.len (drop (at + x.start) asdu)) ≡ b
  fit b = ap (field_fits x.tag) (sym c) ∙ sym f ∙ b

  pub walked_unfit : fits ≡ false → places_from p counted at (elements (drop at asdu)) ≡ Err InvalidInput
  walked_unfit n = places_unfit p counted at (read_at_lem asdu at q k) (fit n)

  pub walked_more :
      fits ≡ true → at ≤ length asdu → {r : SvPlaces} → r ≡ with_place p x.tag (record { start = at + x.start; len = x.len }) content
      → {again : Bool} → again ≡ (counted || eqb x.tag smp_cnt_tag)
      → places_from p counted at (elements (drop at asdu)) ≡ places_from r again (at + x.end) (elements (drop (at + x.end) asdu))
  walked_more y h {r} w {again} a =
      let d = sym c in
      let b = sym a in
      places_fit p counted at (read_at_lem asdu at q k) (fit y)
      ∙ (λ i. places_from
      (with_place p x.tag (record { start = at + x.start; len = content_length asdu at q k h i }) (d i)) (b i)
      (content_end asdu at q k h i) (elements (drop (at + x.end) asdu)))
      ∙ ap (λ (r : SvPlaces). places_from r again (at + x.end) (elements (drop (at + x.end) asdu))) (sym w)

-- what is read at the places is what is read of the frame
module _ (asdu source : List ℕ) where
  named_at : (b : Bool) (place old : Part) {content : List ℕ} → content ≡ take place.len (drop place.start asdu)
      → take 64 (take (cond b place old).len (drop (cond b place old).start asdu))
      ≡ cond b (take 64 content) (take 64 (take old.len (drop old.start asdu)))
  named_at true place old e = ap (take 64) (sym e)
  named_at false place old e = refl

  place_read :
      (p : SvPlaces) (tag : ℕ) (place : Part) {content : List ℕ} → content ≡ take place.len (drop place.start asdu)
      → reading_at source asdu (with_place p tag place content) ≡ with_read (reading_at source asdu p) tag content
  unfolding with_place with_read
  place_read p tag place {content} e =
      let r = with_place p tag place content in
      let a = named_at (eqb tag svid_tag) place p.svid e in
      let b = named_at (eqb tag dat_set_tag) place p.dataset e in
      λ i. record {
        source = source;
        svid = a i;
        dataset = b i;
        smp_cnt = r.smp_cnt;
        smp_rate = r.smp_rate;
        seconds = r.seconds;
        fraction = r.fraction;
      }

  placed_read :
      (p : SvPlaces) (counted : Bool) (at : ℕ) (es : Elements) → Stands asdu at es
      → placed_reading source asdu (places_from p counted at es) ≡ read_from (reading_at source asdu p) counted es
  unfolding places_from read_from
  placed_read p true at ended s = refl
  placed_read p false at ended s = refl
  placed_read p counted at (failed e) s = refl
  placed_read p counted at (next tag head content rest) s =
      go (field_fits tag content) _
      (placed_read (with_place p tag (record { start = at + head; len = length content }) content) (counted || eqb tag smp_cnt_tag)
      (at + head + length content) rest s.2
      ∙ ap (λ (q : SvReading). read_from q (counted || eqb tag smp_cnt_tag) rest)
      (place_read p tag (record { start = at + head; len = length content }) s.0))
    where
      go : (b : Bool) (r : Result SvPlaces VsError) {q : Result SvReading VsError} → placed_reading source asdu r ≡ q
          → placed_reading source asdu (cond b r (Err InvalidInput)) ≡ cond b q (Err InvalidInput)
      go true r e = e
      go false r e = refl

empty_sized : (source : List ℕ) (time : ℕ) → Sized (empty_frame source time)
empty_sized source time = let zeros = length-replicate {A = ℕ} 64 0 in record { svid = zeros; dataset = zeros }

pub places_read :
    (asdu source : List ℕ) (time : ℕ)
    → placed_reading source asdu (places_of asdu) ≡ parsed_reading (fields_from (empty_frame source time) false (elements asdu))
places_read asdu source time =
    placed_read asdu source no_places false 0 (elements asdu) (elements_stand asdu)
    ∙ fields_read (empty_frame source time) false (elements asdu) (empty_sized source time)

-- ---- a frame, by what is read of it

pub read_frame : (p : Result SvFrame VsError) {q : SvReading} → Ok q ≡ parsed_reading p → (f : SvFrame) × (p ≡ Ok f) × (q ≡ reading_of f)
read_frame (Ok f) e = (f, refl, cc)
read_frame (Err x) e = absurd (cc)

pub read_error : (p : Result SvFrame VsError) {x : VsError} → Err x ≡ parsed_reading p → p ≡ Err x
read_error (Ok f) e = absurd (cc)
read_error (Err y) e = cc
