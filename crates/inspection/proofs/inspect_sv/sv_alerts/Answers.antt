-- `sv_alerts` meets its contract.
use mathlib.Core.Bool.{Bool, cond}
use mathlib.Core.List.{List, [], ◌++◌, append-nil}
use mathlib.Core.Path.{ap, ◌∙◌}
use Rattle.inspection.specs.InspectSv.{rate_findings}
use Rattle.inspection.proofs.StageLaws.{count_then_rate}
use Rattle.inspection.specs.declared.report.Finding.{Finding}
use Rattle.inspection.specs.Report.{clock_findings}
use Rattle.inspection.proofs.inspect_sv.sv_alerts.Goals as goal

pub returns : goal.returns
returns c = let a = c.args in
    let rates = rate_findings a.frame_rate a.rate in
    let clock = c.clock_alert.ensures in
    let count = c.count_alert.ensures in
    let rate = append-nil _ ∙ c.rate_alert.ensures ∙ ap (λ (b : Bool). cond b [] rates) c.is_replay.ensures in
    (λ i. clock i ++ (count i ++ rate i)) ∙ ap (λ (l : List Finding). clock_findings a.clock ++ l) (count_then_rate a.limit rates a.outcome)
