-- `read_length` meets its contract.
use native.Mathlib.Omega.{arith}
use mathlib.Core.Path.{sym, ◌∙◌}
use borrow.Author.Tests.{eqb-true, eqb-false}
use lib.ListN.{length}
use Rattle.wire.specs.LengthCases.{short, indefinite, long, remainder}
use Rattle.wire.proofs.ElementLaws.{length_none}
use Rattle.wire.proofs.LengthCasesHold.{length_by}
use Rattle.wire.proofs.PartLaws.{rest-is}
use Rattle.wire.proofs.element.read_length.Goals as goal

pub returns-then-is_empty : goal.returns-then-is_empty
returns-then-is_empty c = let bytes = c.args.bytes.now in
    sym (length_none bytes (eqb-true (length bytes) 0 (sym c.is_empty.ensures ∙ c.if-is_empty.true)))

pub overflow_cast-first : goal.overflow_cast-first
overflow_cast-first c = omega (arith, c.type_inv.bytes 0)

pub returns-in-128 : goal.returns-in-128
returns-in-128 c = let bytes = c.args.bytes.now in
    let n = eqb-false (length bytes) 0 (sym c.is_empty.ensures ∙ c.if-is_empty.false) in
    length_by indefinite bytes (omega arith) (omega (arith, c.in-128.is)) (omega (arith, c.in-128.is))

pub returns-in-0-to-127 : goal.returns-in-0-to-127
returns-in-0-to-127 c = let bytes = c.args.bytes.now in
    let n = eqb-false (length bytes) 0 (sym c.is_empty.ensures ∙ c.if-is_empty.false) in
    length_by short bytes (omega arith) (omega arith) (omega arith)

pub returns-in-129-to-132 : goal.returns-in-129-to-132
returns-in-129-to-132 c = let bytes = c.args.bytes.now in
    let n = eqb-false (length bytes) 0 (sym c.is_empty.ensures ∙ c.if-is_empty.false) in
    c.further_octets.ensures ∙ rw (rest-is bytes 1) (length_by long bytes (omega arith) (omega arith) (omega arith))

pub returns-in_default : goal.returns-in_default
returns-in_default c = let bytes = c.args.bytes.now in
    let n = eqb-false (length bytes) 0 (sym c.is_empty.ensures ∙ c.if-is_empty.false) in
    length_by remainder bytes (omega arith) (omega arith) (omega (arith, c.type_inv.bytes 0))
