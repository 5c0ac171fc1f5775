-- `used_word` meets its contract.
use Rattle.std.proofs.Common.{arith}
use Rattle.tables.proofs.OrderLaws.{own_raised, used_own}
use Rattle.tables.proofs.order.used_word.Goals as goal

pub with_octet-requires : goal.with_octet-requires
with_octet-requires c = let a = c.args in
    let p = c.requires in
    (p.2, own_raised a.old a.word a.place _ p.1 p.2 c.raised_word-raised.ensures (p.3 c.if-own.true), omega arith)

pub returns-then-own : goal.returns-then-own
returns-then-own c = let a = c.args in
    let p = c.requires in
    used_own a.old a.word a.place _ p.1 p.2 c.raised_word-raised.ensures c.if-own.true c.with_octet.ensures
