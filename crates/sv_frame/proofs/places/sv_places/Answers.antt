-- `sv_places` meets its contract. The invariant: the places so far, with those of what follows, are those of all.
use mathlib.Core.Path.{◌≡◌, refl, ◌∙◌, sym, ap}
use mathlib.Core.List.{List}
use Prim.Native.Nat.{ℕ, ◌+◌, ◌-◌}
use mathlib.Core.Bool.{false}
use native.Mathlib.Omega.{arith}
use lib.ListN.{take, drop, length-drop}
use Rattle.wire.specs.Element.{elements}
use Rattle.sv_frame.specs.declared.places.SvPlaces.{SvPlaces}
use Rattle.sv_frame.specs.Places.{places_from}
use Rattle.wire.proofs.ElementLaws.{elements_none, unreadable_at, ends_at}
use Rattle.sv_frame.proofs.PlaceLaws.{places_none, places_failed, walked_unfit, walked_more}
use Rattle.sv_frame.proofs.places.sv_places.Goals as goal

pub loop-at-init : goal.loop-at-init
loop-at-init c = let asdu = c.args.asdu.now in
    (omega arith, ap (λ (p : SvPlaces). places_from p false 0 (elements asdu)) (sym c.no_places-out.ensures))

pub returns-in_default : goal.returns-in_default
returns-in_default c = let l = c.loop-at in
    sym (l.invariant.1 ∙ places_failed _ _ _ (unreadable_at _ l.at c.parse_tlv.ensures (omega arith) c.in_default.is))

pub overflow_add-start : goal.overflow_add-start
overflow_add-start c = let l = c.loop-at in
    let w = ends_at c.args.asdu.now l.at c.parse_tlv.ensures c.in-Some.is l.invariant.0 in
    omega (arith, w.1, w.2)

pub overflow_add-end : goal.overflow_add-end
overflow_add-end c = let l = c.loop-at in
    let w = ends_at c.args.asdu.now l.at c.parse_tlv.ensures c.in-Some.is l.invariant.0 in
    omega (arith, w.1)

pub slice_bounds-field-count : goal.slice_bounds-field-count
slice_bounds-field-count c = let l = c.loop-at in
    let w = ends_at c.args.asdu.now l.at c.parse_tlv.ensures c.in-Some.is l.invariant.0 in
    omega (arith, w.2)

pub slice_bounds-field-start : goal.slice_bounds-field-start
slice_bounds-field-start c = let l = c.loop-at in
    let w = ends_at c.args.asdu.now l.at c.parse_tlv.ensures c.in-Some.is l.invariant.0 in
    omega (arith, w.1, w.2)

pub slice_bounds-field-end : goal.slice_bounds-field-end
slice_bounds-field-end c = let l = c.loop-at in
    let w = ends_at c.args.asdu.now l.at c.parse_tlv.ensures c.in-Some.is l.invariant.0 in
    omega (arith, w.1, w.2)

-- what stands from the content's start to the element's end is the content
content :
    (asdu : List ℕ) (at start len end : ℕ) → start + len ≡ end
    → take (at + end - (at + start)) (drop (at + start) asdu) ≡ take len (drop (at + start) asdu)
content asdu at start len end e = let n : at + end - (at + start) ≡ len = omega arith in rw n

pub returns-then-not-field_fits : goal.returns-then-not-field_fits
returns-then-not-field_fits c = let l = c.loop-at in
    let asdu = c.args.asdu.now in
    let w = ends_at asdu l.at c.parse_tlv.ensures c.in-Some.is l.invariant.0 in
    sym
    (l.invariant.1
    ∙ walked_unfit asdu l.out l.counted l.at c.parse_tlv.ensures c.in-Some.is (content asdu l.at _ _ _ w.2) c.field_fits.ensures
    c.if-not-field_fits.true)

pub loop-at-smaller : goal.loop-at-smaller
loop-at-smaller c = let l = c.loop-at in
    let asdu = c.args.asdu.now in
    let w = ends_at asdu l.at c.parse_tlv.ensures c.in-Some.is l.invariant.0 in
    omega (arith, w.0, w.1)

pub loop-at-preserved : goal.loop-at-preserved
loop-at-preserved c = let l = c.loop-at in
    let asdu = c.args.asdu.now in
    let w = ends_at asdu l.at c.parse_tlv.ensures c.in-Some.is l.invariant.0 in (
      w.1,
      l.invariant.1
          ∙ walked_more asdu l.out l.counted l.at c.parse_tlv.ensures c.in-Some.is (content asdu l.at _ _ _ w.2) c.field_fits.ensures
          c.if-not-field_fits.false l.invariant.0 c.put_place.ensures refl,
    )

pub returns-then-not-counted : goal.returns-then-not-counted
returns-then-not-counted c = let l = c.loop-at in
    let asdu = c.args.asdu.now in
    sym
    (l.invariant.1
    ∙ places_none _ _ _ (elements_none (drop l.at asdu) (simp length-drop (omega arith))) c.if-not-counted.true)

pub returns : goal.returns
returns c = let l = c.loop-at in
    let asdu = c.args.asdu.now in
    sym
    (l.invariant.1
    ∙ places_none _ _ _ (elements_none (drop l.at asdu) (simp length-drop (omega arith))) c.if-not-counted.false)
