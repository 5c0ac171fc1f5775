-- `first_content` meets its contract. The invariant: what is sought from a place on is what is sought in all.
use mathlib.Core.Path.{refl, sym, ◌∙◌}
use native.Mathlib.Omega.{arith}
use lib.ListN.{drop, length-drop}
use Rattle.wire.proofs.ElementLaws.{elements_none, unreadable_at, ends_at, first_none, first_failed, place_same, place_other}
use Rattle.wire.proofs.element.first_content.Goals as goal

pub loop-at-init : goal.loop-at-init
loop-at-init c = (omega arith, refl)

pub returns-in_default : goal.returns-in_default
returns-in_default c = let l = c.loop-at in
    sym (l.invariant.1 ∙ first_failed _ _ (unreadable_at _ l.at c.parse_tlv.ensures (omega arith) c.in_default.is))

pub overflow_add-result : goal.overflow_add-result
overflow_add-result c = let l = c.loop-at in
    let bytes = c.args.bytes.now in
    let w = ends_at bytes l.at c.parse_tlv.ensures c.in-Some.is l.invariant.0 in
    omega (arith, w.1, w.2)

pub returns-then-element-tag : goal.returns-then-element-tag
returns-then-element-tag c = let l = c.loop-at in
    let bytes = c.args.bytes.now in
    sym (l.invariant.1 ∙ place_same bytes l.at c.parse_tlv.ensures c.in-Some.is l.invariant.0 _ c.if-element-tag.true)

pub overflow_add-at : goal.overflow_add-at
overflow_add-at c = let l = c.loop-at in
    let bytes = c.args.bytes.now in
    let w = ends_at bytes l.at c.parse_tlv.ensures c.in-Some.is l.invariant.0 in
    omega (arith, w.1)

pub loop-at-smaller : goal.loop-at-smaller
loop-at-smaller c = let l = c.loop-at in
    let bytes = c.args.bytes.now in
    let w = ends_at bytes l.at c.parse_tlv.ensures c.in-Some.is l.invariant.0 in
    omega (arith, w.0, w.1)

pub loop-at-preserved : goal.loop-at-preserved
loop-at-preserved c = let l = c.loop-at in
    let bytes = c.args.bytes.now in
    let w = ends_at bytes l.at c.parse_tlv.ensures c.in-Some.is l.invariant.0 in
    (w.1, l.invariant.1 ∙ place_other bytes l.at c.parse_tlv.ensures c.in-Some.is l.invariant.0 _ c.if-element-tag.false)

pub returns : goal.returns
returns c = let l = c.loop-at in
    let bytes = c.args.bytes.now in
    sym (l.invariant.1 ∙ first_none _ _ (elements_none (drop l.at bytes) (simp length-drop (omega arith))))
