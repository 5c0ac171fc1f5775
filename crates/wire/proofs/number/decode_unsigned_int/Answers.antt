-- `decode_unsigned_int` meets its contract.
use mathlib.Core.Path.{sym, ◌∙◌}
use native.Mathlib.Omega.{arith}
use borrow.Author.Tests.{eqb-true, eqb-false}
use lib.ListN.{length}
use Rattle.wire.proofs.NumberLaws.{unsigned_none, unsigned_long, unsigned_converted}
use Rattle.wire.proofs.number.decode_unsigned_int.Goals as goal
use Rattle.wire.proofs.number.decode_unsigned_int.Goals.{then-is_empty-via-then-is_empty, then-is_empty-via-else-is_empty+then-content-gt4}

pub returns-then-is_empty : goal.returns-then-is_empty
returns-then-is_empty c = let content = c.args.content.now in
    elim c.then-is_empty.branch [
      | then-is_empty-via-then-is_empty w ↦ sym (unsigned_none content (eqb-true (length content) 0 (sym c.is_empty.ensures ∙ w.if-is_empty.true)))
      | then-is_empty-via-else-is_empty+then-content-gt4 w ↦ sym (unsigned_long content w.if-content-gt4.true)
    ]

pub returns : goal.returns
returns c = let content = c.args.content.now in
    let n = eqb-false (length content) 0 (sym c.is_empty.ensures ∙ c.if-is_empty.false) in
    c.ok.ensures.value
    ∙ unsigned_converted content (omega arith) (omega arith) c.big_endian.ensures c.try_from.result c.try_from.ensures
