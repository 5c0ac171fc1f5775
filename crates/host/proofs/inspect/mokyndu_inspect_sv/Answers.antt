-- `mokyndu_inspect_sv` meets its contract.
use mathlib.Core.Path.{ap, ◌∙◌}
use Rattle.records.specs.Alert.{source_sv}
use Rattle.inspection.specs.InspectSv.{inspect_sv}
use Rattle.inspection.specs.Report.{Checked, reported}
use Rattle.host.specs.Result.{host_result, answered}
use Rattle.host.proofs.inspect.mokyndu_inspect_sv.Goals as goal

pub returns : goal.returns
unfolding inspect_sv
returns c = let k = c.before.before.before in
    let f = c.args.frame in
    c.host_report-result.ensures
    ∙ ap (λ (k : Checked). answered host_result (reported source_sv f.smp_cnt f.timestamp_us k)) c.check_sv_on-alerts.ensures
