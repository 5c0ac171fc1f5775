-- `forget_slot` meets its contract.
use Rattle.std.proofs.Common.{arith}
use Rattle.tables.proofs.OrderLaws.{forget_outside, forget_free, forget_octet, forget_done}
use Rattle.tables.proofs.order.forget_slot.Goals as goal

pub returns-then-slot-ge16 : goal.returns-then-slot-ge16
returns-then-slot-ge16 c = forget_outside _ _ c.if-slot-ge16.true

pub returns-then-old-ge16 : goal.returns-then-old-ge16
returns-then-old-ge16 c = forget_free _ _ c.if-slot-ge16.false (omega arith)

pub with_octet-requires : goal.with_octet-requires
with_octet-requires c = let own = forget_octet _ _ c.if-slot-ge16.false (omega arith) (omega arith) c.rank_at-old.ensures c.lowered_word.ensures
    c.lowered_word-2.ensures in
    (omega arith, own, omega arith)

pub returns : goal.returns
returns c = forget_done _ _ c.if-slot-ge16.false (omega arith) (omega arith) c.rank_at-old.ensures c.lowered_word.ensures c.lowered_word-2.ensures
    c.with_octet.ensures
