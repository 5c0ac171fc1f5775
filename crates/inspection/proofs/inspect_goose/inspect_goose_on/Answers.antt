-- `inspect_goose_on` meets its contract.
use mathlib.Core.Path.{ap, ◌∙◌}
use Rattle.records.specs.Alert.{source_goose}
use Rattle.inspection.specs.Report.{reported}
use Rattle.inspection.specs.InspectGoose.{inspect_goose}
use Rattle.inspection.proofs.inspect_goose.inspect_goose_on.Goals as goal

pub returns : goal.returns
unfolding inspect_goose
returns c = let f = c.args.frame in
    c.report_on.ensures ∙ ap (reported source_goose f.st_num f.timestamp_us) c.check_goose_on-alerts.ensures
