-- `has_name` meets its contract. The invariant: the words passed agree.
use Rattle.std.proofs.Common.{sym, refl, ◌∙◌, arith}
use Rattle.records.specs.Octets.{agree}
use Rattle.records.proofs.NameLaws.{agree_more, agree_no}
use Rattle.tables.proofs.named.has_name.Goals as goal

pub loop-k-init : goal.loop-k-init
unfolding agree
loop-k-init c = refl

pub loop-k-preserved : goal.loop-k-preserved
loop-k-preserved c = agree_more _ _ c.loop-k.k c.if-t-start.false ∙ c.loop-k.invariant

pub returns-then-t-start : goal.returns-then-t-start
returns-then-t-start c = sym (agree_no _ _ 8 c.loop-k.k (omega arith) c.if-t-start.true)
