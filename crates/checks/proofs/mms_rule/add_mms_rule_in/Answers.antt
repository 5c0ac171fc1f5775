-- `add_mms_rule_in` meets its contract.
use Rattle.std.proofs.lemmas.Result.{err_from_is_err_and}
use Rattle.checks.specs.MmsRule.{mms_added}
use Rattle.checks.proofs.RuleLaws.{added_rule, added_error_lem}
use Rattle.checks.proofs.mms_rule.add_mms_rule_in.Goals as goal

pub returns-in_err-add_answer : goal.returns-in_err-add_answer
unfolding mms_added
returns-in_err-add_answer c =
    let p = err_from_is_err_and c.from_residual.result c.from_residual.ensures.1 in
    rw (p.1, p.2) (added_error_lem _ _ _ _ c.add_answer.ensures c.in_err-add_answer.was)

pub returns : goal.returns
unfolding mms_added
returns c = added_rule _ _ _ _ c.add_answer.ensures c.in_ok-add_answer.was (rw (← c.rule_count.ensures) c.store_mms_rule.ensures)
