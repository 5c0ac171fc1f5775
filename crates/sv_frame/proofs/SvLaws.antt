-- Laws of the ASDU of an APDU, and of its fields, one element at a time: what the walk of the loop over the reader cites.
use mathlib.Core.Path.{◌≡◌, refl, sym, ◌∙◌, ap}
use mathlib.Core.Bool.{Bool, true, false, ◌||◌, cond}
use mathlib.Core.List.{List}
use Prim.Native.Nat.{ℕ, ◌+◌, ◌≤◌, ◌<◌}
use native.Mathlib.Omega.{arith}
use lib.Dec.{eqb}
use lib.ListN.{length, take, drop, length-take, length-drop}
use Rattle.std.proofs.Common.{Option, Some, None, Result, Ok, Err}
use Rattle.records.specs.declared.error.VsError.{VsError}
use Rattle.records.specs.declared.error.VsError.TheVariants.{InvalidInput}
use Rattle.records.specs.declared.frame.SvFrame.{SvFrame}
use Rattle.wire.specs.declared.element.Element.{Element}
use Rattle.wire.specs.declared.element.Part.{Part}
use Rattle.wire.specs.Element.{element, elements, Sought, first_content, opened, opened_place, first_place, part_of, PartWithin}
use Rattle.wire.specs.Reader.{after_element}
use Rattle.sv_frame.specs.Field.{sav_pdu_tag, seq_asdu_tag, asdu_tag, smp_cnt_tag, field_fits, with_field}
use Rattle.sv_frame.specs.Sv.{fields_from, asdu_frame, seq_asdu_frame, sav_pdu_frame, empty_frame, apdu_frame}
use Rattle.sv_frame.specs.Sv.{present, shifted, inside_at, asdu_place}
use Rattle.wire.proofs.ElementLaws.{element_end, elements_none, elements_unreadable, elements_read}
use Rattle.wire.proofs.SoughtLaws.{opened_part, opened_within, first_part, first_within}
use Rattle.wire.proofs.PartLaws.{part_part}

-- ---- the ASDU

-- what is sought inside another part; what is missing is InvalidInput
abbrev inside : Sought → (List ℕ → Result (List ℕ) VsError) → Result (List ℕ) VsError
inside (Ok (Some octets)) seek = seek octets
inside (Ok None) seek = Err InvalidInput
inside (Err e) seek = Err e

-- the octets of the first ASDU of an APDU
in_a2 : List ℕ → Result (List ℕ) VsError
in_a2 asdus = inside (opened asdu_tag asdus) Ok

in_pdu : List ℕ → Result (List ℕ) VsError
in_pdu pdu = inside (first_content seq_asdu_tag (elements pdu)) in_a2

asdu_of : List ℕ → Result (List ℕ) VsError
asdu_of apdu = inside (opened sav_pdu_tag apdu) in_pdu

-- the frame of an ASDU's octets, or the error
abbrev frame_in : SvFrame → Result (List ℕ) VsError → Result SvFrame VsError
frame_in f (Ok asdu) = fields_from f false (elements asdu)
frame_in f (Err e) = Err e

-- what is not found inside an APDU is refused, and the frame is that of its ASDU
module _ (f : SvFrame) where
  of_a2 : (s : Sought) → asdu_frame f s ≡ frame_in f (inside s Ok)
  of_a2 (Ok (Some asdu)) = refl
  of_a2 (Ok None) = refl
  of_a2 (Err e) = refl

  of_pdu : (s : Sought) → seq_asdu_frame f s ≡ frame_in f (inside s in_a2)
  unfolding in_a2
  of_pdu (Ok (Some asdus)) = of_a2 (opened asdu_tag asdus)
  of_pdu (Ok None) = refl
  of_pdu (Err e) = refl

  of_apdu : (s : Sought) → sav_pdu_frame f s ≡ frame_in f (inside s in_pdu)
  unfolding in_pdu
  of_apdu (Ok (Some pdu)) = of_pdu (first_content seq_asdu_tag (elements pdu))
  of_apdu (Ok None) = refl
  of_apdu (Err e) = refl

-- ---- its place

-- what stands at a place, and that the place is within so many octets
abbrev octets_of : List ℕ → Result Part VsError → Result (List ℕ) VsError
octets_of octets (Ok p) = Ok (take p.len (drop p.start octets))
octets_of octets (Err e) = Err e

abbrev Within : ℕ → Result Part VsError → Type 0
Within total (Ok p) = p.start + p.len ≤ total
Within total (Err e) = Unit

-- a part that is there
present_agrees :
    (octets : List ℕ) (r : Result (Option Part) VsError) (seek : List ℕ → Result (List ℕ) VsError) (place : List ℕ → Result Part VsError)
    → ((l : List ℕ) → (octets_of l (place l) ≡ seek l) × Within (length l) (place l)) → PartWithin (length octets) r
    → (octets_of octets (inside_at octets (present r) place) ≡ inside (part_of octets r) seek)
    × Within (length octets) (inside_at octets (present r) place)
present_agrees octets (Ok (Some p)) seek place agrees w =
    let a = agrees (take p.len (drop p.start octets)) in
    go (place (take p.len (drop p.start octets))) a.0 a.1
  where
    go : (r : Result Part VsError) → octets_of (take p.len (drop p.start octets)) r ≡ seek (take p.len (drop p.start octets))
        → Within (length (take p.len (drop p.start octets))) r
        → (octets_of octets (shifted p.start r) ≡ seek (take p.len (drop p.start octets))) × Within (length octets) (shifted p.start r)
    go (Ok q) e v =
        let size = length-take p.len (drop p.start octets) in (
          ap Ok (sym (part_part octets p.start p.len q.start q.len (omega (arith, v, size)))) ∙ e,
          omega (arith, v, w, size),
        )
    go (Err x) e v = (e, tt)
present_agrees octets (Ok None) seek place agrees w = (refl, tt)
present_agrees octets (Err x) seek place agrees w = (refl, tt)

-- the last one
last_agrees :
    (octets : List ℕ) (r : Result (Option Part) VsError) → PartWithin (length octets) r
    → (octets_of octets (present r) ≡ inside (part_of octets r) Ok) × Within (length octets) (present r)
last_agrees octets (Ok (Some p)) w = (refl, w)
last_agrees octets (Ok None) w = (refl, tt)
last_agrees octets (Err x) w = (refl, tt)

pub a2_place : List ℕ → Result Part VsError
a2_place asdus = present (opened_place asdu_tag asdus)

pub pdu_place : List ℕ → Result Part VsError
pdu_place pdu = inside_at pdu (present (first_place seq_asdu_tag 0 (elements pdu))) a2_place

a2_agrees : (asdus : List ℕ) → (octets_of asdus (a2_place asdus) ≡ in_a2 asdus) × Within (length asdus) (a2_place asdus)
unfolding a2_place in_a2
a2_agrees asdus =
    let a = last_agrees asdus (opened_place asdu_tag asdus) (opened_within asdu_tag asdus) in
    (a.0 ∙ ap (λ (s : Sought). inside s Ok) (opened_part asdu_tag asdus), a.1)

pdu_agrees : (pdu : List ℕ) → (octets_of pdu (pdu_place pdu) ≡ in_pdu pdu) × Within (length pdu) (pdu_place pdu)
unfolding pdu_place in_pdu
pdu_agrees pdu =
    let a = present_agrees pdu (first_place seq_asdu_tag 0 (elements pdu)) in_a2 a2_place a2_agrees (first_within pdu seq_asdu_tag) in
    (a.0 ∙ ap (λ (s : Sought). inside s in_a2) (first_part pdu seq_asdu_tag), a.1)

asdu_agrees : (apdu : List ℕ) → (octets_of apdu (asdu_place apdu) ≡ asdu_of apdu) × Within (length apdu) (asdu_place apdu)
unfolding asdu_place asdu_of pdu_place a2_place
asdu_agrees apdu =
    let a = present_agrees apdu (opened_place sav_pdu_tag apdu) in_pdu pdu_place pdu_agrees (opened_within sav_pdu_tag apdu) in
    (a.0 ∙ ap (λ (s : Sought). inside s in_pdu) (opened_part sav_pdu_tag apdu), a.1)

pub asdu_within : (apdu : List ℕ) {p : Part} → Ok p ≡ asdu_place apdu → p.start + p.len ≤ length apdu
asdu_within apdu e = rw (← e) at (asdu_agrees apdu).1

-- the place of the ASDU, by the answers to the three searches
module _ (apdu : List ℕ) {r : Result (Option Part) VsError} (e : r ≡ opened_place sav_pdu_tag apdu) where
  pub asdu_by : {k : Result (Option Part) VsError} → r ≡ k → inside_at apdu (present k) pdu_place ≡ asdu_place apdu
  unfolding asdu_place pdu_place a2_place
  asdu_by q = ap (λ (r : Result (Option Part) VsError). inside_at apdu (present r) pdu_place) (sym q ∙ e)

  module _ {p : Part} (q : r ≡ Ok (Some p)) {pdu : List ℕ} (c : pdu ≡ take p.len (drop p.start apdu))
      {r₂ : Result (Option Part) VsError} (e₂ : r₂ ≡ first_place seq_asdu_tag 0 (elements pdu)) where
    pub asdu_by_first :
        {k : Result (Option Part) VsError} → r₂ ≡ k → shifted p.start (inside_at pdu (present k) a2_place) ≡ asdu_place apdu
    unfolding pdu_place
    asdu_by_first q₂ =
        ap (λ (r : Result (Option Part) VsError). shifted p.start (inside_at pdu (present r) a2_place)) (sym q₂ ∙ e₂)
        ∙ ap (λ (l : List ℕ). shifted p.start (pdu_place l)) c
        ∙ asdu_by q

    module _ {p₂ : Part} (q₂ : r₂ ≡ Ok (Some p₂)) {asdus : List ℕ} (c₂ : asdus ≡ take p₂.len (drop p₂.start pdu))
        {r₃ : Result (Option Part) VsError} (e₃ : r₃ ≡ opened_place asdu_tag asdus) where
      pub asdu_by_last :
          {k : Result (Option Part) VsError} → r₃ ≡ k → shifted p.start (shifted p₂.start (present k)) ≡ asdu_place apdu
      unfolding a2_place
      asdu_by_last q₃ =
          ap (λ (r : Result (Option Part) VsError). shifted p.start (shifted p₂.start (present r))) (sym q₃ ∙ e₃)
          ∙ ap (λ (l : List ℕ). shifted p.start (shifted p₂.start (a2_place l))) c₂
          ∙ asdu_by_first q₂

-- the frame of an APDU, by the answer to the search for its ASDU
module _ (apdu source : List ℕ) (time : ℕ) {r : Result Part VsError} (e : r ≡ asdu_place apdu) where
  pub frame_by :
      {k : Result Part VsError} → r ≡ k → frame_in (empty_frame source time) (octets_of apdu k) ≡ apdu_frame apdu source time
  unfolding apdu_frame asdu_of
  frame_by q =
      ap (λ (r : Result Part VsError). frame_in (empty_frame source time) (octets_of apdu r)) (sym q ∙ e)
      ∙ ap (frame_in (empty_frame source time)) (asdu_agrees apdu).0
      ∙ sym (of_apdu (empty_frame source time) (opened sav_pdu_tag apdu))

-- ---- the walk over the ASDU, one element at a time

module _ (f : SvFrame) (counted : Bool) (octets : List ℕ) where
  -- at the end, by whether there was a count
  pub fields_end : length octets ≡ 0 → {b : Bool} → counted ≡ b → fields_from f counted (elements octets) ≡ cond b (Ok f) (Err InvalidInput)
  unfolding fields_from
  fields_end h c = rw (elements_none octets h, c)

  pub fields_unreadable : 0 < length octets → element octets ≡ None → fields_from f counted (elements octets) ≡ Err InvalidInput
  unfolding fields_from
  fields_unreadable h e = rw (elements_unreadable octets h e)

  -- an element that is read: a field that does not fit, or one more field, and what follows it
  module _ {x : Element} (e : element octets ≡ Some x) {field : List ℕ} (k : field ≡ take x.len (drop x.start octets))
      {fits : Bool} (y : fits ≡ field_fits x.tag field) where
    pub fields_unfit : fits ≡ false → fields_from f counted (elements octets) ≡ Err InvalidInput
    unfolding fields_from
    fields_unfit n = rw (elements_read octets e, ← k, ← y, n)

    pub fields_turn :
        fits ≡ true → {g : SvFrame} → g ≡ with_field f x.tag field → {again : Bool} → again ≡ (counted || eqb x.tag smp_cnt_tag)
        → {more : List ℕ} → more ≡ after_element octets (Some x)
        → fields_from f counted (elements octets) ≡ fields_from g again (elements more)
    unfolding fields_from
    fields_turn t w a m = rw (elements_read octets e, ← k, ← y, t, ← w, ← a, ← m)

    pub less_unread : {more : List ℕ} → more ≡ after_element octets (Some x) → length more < length octets
    less_unread m = let b = element_end octets e in rw m (simp length-drop (omega arith))
