-- `add_sv_publisher_in` meets its contract.
use Rattle.std.proofs.Common.{◌∙◌}
use Rattle.std.proofs.lemmas.Result.{err_from_is_err_and}
use Rattle.checks.specs.SvPublisher.{sv_added}
use Rattle.checks.proofs.RuleLaws.{added_length, added_rule, added_error_lem}
use Rattle.checks.proofs.sv_publisher.add_sv_publisher_in.Goals as goal

pub publisher_key-key-requires : goal.publisher_key-key-requires
publisher_key-key-requires c = added_length _ _ c.add_answer.ensures c.in_ok-add_answer.was

pub returns-in_err-add_answer : goal.returns-in_err-add_answer
unfolding sv_added
returns-in_err-add_answer c =
    let p = err_from_is_err_and c.from_residual.result c.from_residual.ensures.1 in
    rw (p.1, p.2) (added_error_lem _ _ _ _ c.add_answer.ensures c.in_err-add_answer.was)

pub returns : goal.returns
unfolding sv_added
returns c = added_rule _ _ _ _ c.add_answer.ensures c.in_ok-add_answer.was
    (c.store_sv_publisher.ensures ∙ rw (c.rule_count.ensures, c.publisher_key-key.ensures))
