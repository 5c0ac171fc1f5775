-- `goose_verdict_lent` meets its contract.
use mathlib.Core.Path.{ap, ◌∙◌}
use Rattle.records.specs.Alert.{source_goose}
use Rattle.inspection.specs.InspectGoose.{inspect_goose}
use Rattle.lent.specs.Goose.{goose_frame_of}
use Rattle.inspection.specs.Report.{Checked, reported, with_verdict}
use Rattle.lent.proofs.goose.goose_verdict_lent.Goals as goal

pub returns : goal.returns
unfolding inspect_goose
returns c = let f = goose_frame_of c.args.octets.now in
    c.verdict_on.ensures source_goose f.st_num f.timestamp_us
    ∙ ap (λ (x : Checked). with_verdict (reported source_goose f.st_num f.timestamp_us x)) c.check_goose_lent-alerts.ensures
