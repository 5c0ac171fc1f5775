-- `big_endian` meets its contract. The invariant: the number of the octets that are left, from the value on, is the whole number.
use mathlib.Core.Path.{◌≡◌, refl, sym, ◌∙◌}
use native.Mathlib.Omega.{arith}
use lib.ListN.{get_or, length-take}
use lib.Seq.{get_or-take}
use Rattle.wire.proofs.NumberLaws.{number_more, number_end, number_fits, fourth_fits}
use Rattle.wire.proofs.number.big_endian.Goals as goal

pub loop-octet-init : goal.loop-octet-init
loop-octet-init c = (omega arith, refl)

pub overflow_mul-value : goal.overflow_mul-value
overflow_mul-value c = let l = c.loop-octet in
    let n = length-take c.min.result c.args.bytes.now in
    omega (arith, fourth_fits l.octet-index l.value (omega (arith, n)) l.invariant.0)

pub overflow_add-value : goal.overflow_add-value
overflow_add-value c = let l = c.loop-octet in
    let n = length-take c.min.result c.args.bytes.now in
    let o = get_or-take c.min.result c.args.bytes.now l.octet-index 0 (omega (arith, n)) in
    omega (arith, fourth_fits l.octet-index l.value (omega (arith, n)) l.invariant.0, o, c.type_inv.bytes l.octet-index)

pub loop-octet-preserved : goal.loop-octet-preserved
loop-octet-preserved c = let l = c.loop-octet in
    let bytes = c.args.bytes.now in
    let n = length-take c.min.result bytes in
    let o = get_or-take c.min.result bytes l.octet-index 0 (omega (arith, n)) in
    let e : c.from.result ≡ get_or bytes l.octet-index 0 = c.from.ensures ∙ o in
    rw e (
      number_fits l.octet-index l.value _ l.invariant.0 (omega (arith, c.type_inv.bytes l.octet-index)),
      l.invariant.1 ∙ number_more bytes l.value l.octet-index (omega (arith, n)) (omega (arith, n)),
    )

pub returns : goal.returns
returns c = let l = c.loop-octet in
    let n = length-take c.min.result c.args.bytes.now in
    sym (l.invariant.1 ∙ number_end c.args.bytes.now l.value l.octet-index (omega (arith, n)))
