-- `read_fields` meets its contract.
use mathlib.Core.Path.{◌≡◌, refl, sym, ◌∙◌, ap}
use mathlib.Core.List.{List}
use Prim.Native.Nat.{ℕ, ◌-◌}
use native.Mathlib.Omega.{arith}
use lib.ListN.{length, take, drop}
use denote.Ref.{Bor}
use Rattle.std.proofs.Common.{Some}
use Rattle.wire.specs.declared.element.Element.{Element}
use Rattle.wire.specs.Element.{element}
use Rattle.wire.proofs.ElementLaws.{element_end}
use Rattle.sv_frame.proofs.SvLaws.{fields_end, fields_unreadable, fields_unfit, fields_turn, less_unread}
use Rattle.sv_frame.proofs.sv.read_fields.Goals as goal

pub loop-reader-init : goal.loop-reader-init
loop-reader-init c = rw c.new-reader.ensures

pub returns-in_default : goal.returns-in_default
returns-in_default c = let l = c.loop-reader in
    let h = rw c.unread.ensures at c.loop-reader-test.true in
    sym (l.invariant ∙ fields_unreadable l.out l.counted l.reader.unread.now h (sym c.front-front.ensures ∙ c.in_default.is))

pub slice_bounds-field-count : goal.slice_bounds-field-count
slice_bounds-field-count c = let w = element_end c.loop-reader.reader.unread.now (sym c.front-front.ensures ∙ c.in-Some.is) in
    omega (arith, w.2)

pub slice_bounds-field-start : goal.slice_bounds-field-start
slice_bounds-field-start c = let w = element_end c.loop-reader.reader.unread.now (sym c.front-front.ensures ∙ c.in-Some.is) in
    omega (arith, w.1, w.2, ap (λ (b : Bor (List ℕ)). length b.now) c.unread-in-loop-reader.ensures)

pub slice_bounds-field-end : goal.slice_bounds-field-end
slice_bounds-field-end c = let w = element_end c.loop-reader.reader.unread.now (sym c.front-front.ensures ∙ c.in-Some.is) in
    rw c.unread-in-loop-reader.ensures (omega (arith, w.1, w.2))

-- what stands from the content's start to the element's end is the content
content :
    {x : Element} {b : Bor (List ℕ)} (r : Bor (List ℕ)) → element r.now ≡ Some x → b ≡ r
    → take (x.end - x.start) (drop x.start b.now) ≡ take x.len (drop x.start r.now)
content {x = x} r e q = let w = element_end r.now e in let n : x.end - x.start ≡ x.len = omega (arith, w.2) in rw (q, n)

pub returns-then-not-field_fits : goal.returns-then-not-field_fits
returns-then-not-field_fits c = let l = c.loop-reader in
    let e = sym c.front-front.ensures ∙ c.in-Some.is in
    let k = content l.reader.unread e c.unread-in-loop-reader.ensures in
    sym (l.invariant ∙ fields_unfit l.out l.counted l.reader.unread.now e k c.field_fits.ensures c.if-not-field_fits.true)

pub loop-reader-smaller : goal.loop-reader-smaller
loop-reader-smaller c = let l = c.loop-reader in
    let e = sym c.front-front.ensures ∙ c.in-Some.is in
    let k = content l.reader.unread e c.unread-in-loop-reader.ensures in
    less_unread l.out l.counted l.reader.unread.now e k c.field_fits.ensures c.past-reader.ensures

pub loop-reader-preserved : goal.loop-reader-preserved
loop-reader-preserved c = let l = c.loop-reader in
    let e = sym c.front-front.ensures ∙ c.in-Some.is in
    let k = content l.reader.unread e c.unread-in-loop-reader.ensures in
    l.invariant
    ∙ fields_turn l.out l.counted l.reader.unread.now e k c.field_fits.ensures c.if-not-field_fits.false c.put_field.ensures refl
    c.past-reader.ensures

pub returns-then-not-counted : goal.returns-then-not-counted
returns-then-not-counted c = let l = c.loop-reader in
    let h = rw c.unread.ensures at c.loop-reader-test.false in
    sym (l.invariant ∙ fields_end l.out l.counted l.reader.unread.now (omega (arith, h)) c.if-not-counted.true)

pub returns : goal.returns
returns c = let l = c.loop-reader in
    let h = rw c.unread.ensures at c.loop-reader-test.false in
    sym (l.invariant ∙ fields_end l.out l.counted l.reader.unread.now (omega (arith, h)) c.if-not-counted.false)
