-- `set_rank` meets its contract.
use Rattle.std.proofs.Common.{arith}
use Rattle.tables.proofs.OrderLaws.{set_outside, set_octet, set_done}
use Rattle.tables.proofs.order.set_rank.Goals as goal

pub returns-then-slot-ge16 : goal.returns-then-slot-ge16
returns-then-slot-ge16 c = set_outside _ _ _ c.if-slot-ge16.true

pub with_octet-requires : goal.with_octet-requires
with_octet-requires c = let own = set_octet _ _ 0 c.if-slot-ge16.false (omega arith) c.rank_at-old.ensures c.ranks.ensures c.ranks-2.ensures in
    (omega arith, own, omega arith)

pub returns : goal.returns
returns c = set_done _ _ _ c.if-slot-ge16.false (omega arith) c.rank_at-old.ensures c.ranks.ensures c.ranks-2.ensures c.with_octet.ensures
