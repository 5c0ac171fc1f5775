-- `goose_checks_on` meets its contract.
use mathlib.Core.Path.{sym, ◌∙◌}
use Rattle.records.proofs.Booleans.{answered, cond_yes, cond_no}
use Rattle.inspection.proofs.StageLaws.{ends}
use Rattle.inspection.specs.InspectGoose.{goose_allowed, goose_test}
use Rattle.inspection.proofs.inspect_goose.goose_checks_on.Goals as goal

pub returns-then-goose_blocked : goal.returns-then-goose_blocked
unfolding goose_test
returns-then-goose_blocked c = ends _ c.one_alert.ensures ∙ sym (cond_yes _ _ (answered c.goose_blocked.ensures c.if-goose_blocked.true))

pub returns-then-goose_unknown : goal.returns-then-goose_unknown
unfolding goose_test goose_allowed
returns-then-goose_unknown c = ends _ c.one_alert-then-goose_unknown.ensures
    ∙ sym
    (cond_no _ _ (answered c.goose_blocked.ensures c.if-goose_blocked.false)
    ∙ cond_yes _ _ (answered c.goose_unknown.ensures c.if-goose_unknown.true))

pub returns : goal.returns
unfolding goose_test goose_allowed
returns c = c.goose_reservation.ensures
    ∙ sym
    (cond_no _ _ (answered c.goose_blocked.ensures c.if-goose_blocked.false) ∙ cond_no _ _ (answered c.goose_unknown.ensures c.if-goose_unknown.false))
