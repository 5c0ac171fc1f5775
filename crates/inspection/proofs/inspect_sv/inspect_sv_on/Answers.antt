-- `inspect_sv_on` meets its contract.
use mathlib.Core.Path.{ap, ◌∙◌}
use Rattle.records.specs.Alert.{source_sv}
use Rattle.inspection.specs.Report.{reported}
use Rattle.inspection.specs.InspectSv.{inspect_sv}
use Rattle.inspection.proofs.inspect_sv.inspect_sv_on.Goals as goal

pub returns : goal.returns
unfolding inspect_sv
returns c = let f = c.args.frame in
    c.report_on.ensures ∙ ap (reported source_sv f.smp_cnt f.timestamp_us) c.check_sv_on-alerts.ensures
