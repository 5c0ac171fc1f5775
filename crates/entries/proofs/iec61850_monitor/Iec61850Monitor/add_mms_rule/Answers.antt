-- `add_mms_rule` meets its contract.
use Rattle.checks.specs.Rules.{AddNumbers}
use Rattle.inspection.proofs.CallTheoremsHold.{answer_has, refusal_numbers}
use Rattle.entries.proofs.iec61850_monitor.Iec61850Monitor.add_mms_rule.Goals as goal

pub returns-clause-numbers : goal.returns-clause-numbers
returns-clause-numbers c =
    (answer_has (AddNumbers _ 0) c.add_mms_rule_on-answer.ensures ((refusal_numbers _).0 _ _ _)).1
