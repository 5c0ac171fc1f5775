-- `first_rule` meets its contract.
use Rattle.std.proofs.Common.{◌∙◌}
use Rattle.records.proofs.SearchLaws.{reached_end, reached_hit, reached_next}
use Rattle.checks.specs.MmsRule.{first_rule}
use native.Mathlib.Omega.{arith}
use Rattle.checks.proofs.mms_rule.first_rule.Goals as goal

pub loop-i-preserved : goal.loop-i-preserved
loop-i-preserved c = let l = c.loop-i in
    (l.invariant.0, l.invariant.1, reached_next l.invariant.2 (omega arith) c.applies.ensures c.if-applies.false)

pub returns-after-loop-i : goal.returns-after-loop-i
unfolding first_rule
returns-after-loop-i c = let l = c.loop-i in
    l.invariant.1 ∙ rw (← l.invariant.0) (reached_end l.invariant.2 (omega arith))

pub returns-then-applies : goal.returns-then-applies
unfolding first_rule
returns-then-applies c = let l = c.loop-i in
    rw (← l.invariant.0) (reached_hit l.invariant.2 (omega arith) c.applies.ensures c.if-applies.true)
