-- `within` meets its contract.
use native.Mathlib.Omega.{arith}
use mathlib.Core.Path.{sym}
use Rattle.wire.proofs.ElementLaws.{within_is, within_not}
use Rattle.wire.proofs.element.Head.within.Goals as goal

pub returns-then-self-total : goal.returns-then-self-total
returns-then-self-total c = let h = c.args.self in
    sym (within_not h.tag h.start h.len c.args.total (omega arith))

pub returns-then-self-total-2 : goal.returns-then-self-total-2
returns-then-self-total-2 c = let h = c.args.self in
    sym (within_not h.tag h.start h.len c.args.total (omega arith))

pub returns : goal.returns
returns c = let h = c.args.self in
    sym (within_is h.tag h.start h.len c.args.total (omega arith))
