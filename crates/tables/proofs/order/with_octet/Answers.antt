-- `with_octet` meets its contract.
use Rattle.std.proofs.Common.{arith}
use Rattle.tables.proofs.RankWordLaws.{replaced}
use Rattle.tables.proofs.order.with_octet.Goals as goal

pub overflow_sub-result : goal.overflow_sub-result
overflow_sub-result c = (replaced _ _ (omega arith) c.requires.0 c.requires.1 c.requires.2).within

pub overflow_add-result : goal.overflow_add-result
overflow_add-result c = let f = (replaced _ _ (omega arith) c.requires.0 c.requires.1 c.requires.2).fits in omega arith

pub returns : goal.returns
returns c = (replaced _ _ (omega arith) c.requires.0 c.requires.1 c.requires.2).word
