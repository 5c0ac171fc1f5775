-- `further_octets` meets its contract.
use native.Mathlib.Omega.{arith}
use mathlib.Core.Path.{sym}
use lib.ListN.{length-take}
use Rattle.wire.proofs.ElementLaws.{further_missing, further_is, further_above}
use Rattle.wire.proofs.element.further_octets.Goals as goal

pub returns-then-n-further : goal.returns-then-n-further
returns-then-n-further c = let a = c.args in sym (further_missing a.n a.further.now c.if-n-further.true)

pub slice_bounds-big_endian-end : goal.slice_bounds-big_endian-end
slice_bounds-big_endian-end c = simp length-take (omega arith)

pub returns-then-value-gt65535 : goal.returns-then-value-gt65535
returns-then-value-gt65535 c = let a = c.before.before.before.before.before.args in
    sym (further_above a.n a.further.now (omega arith) (omega arith) c.big_endian-value.ensures c.if-value-gt65535.true)

pub returns : goal.returns
returns c = let a = c.before.before.before.before.before.args in
    sym (further_is a.n a.further.now (omega arith) (omega arith) c.big_endian-value.ensures (omega arith))
