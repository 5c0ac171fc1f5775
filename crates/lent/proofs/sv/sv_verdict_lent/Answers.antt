-- `sv_verdict_lent` meets its contract.
use mathlib.Core.Path.{ap, ◌∙◌}
use Rattle.records.specs.Alert.{source_sv}
use Rattle.inspection.specs.InspectSv.{inspect_sv}
use Rattle.inspection.specs.Report.{Checked, reported, with_verdict}
use Rattle.lent.specs.Sv.{sv_frame_of}
use Rattle.lent.proofs.sv.sv_verdict_lent.Goals as goal

pub returns : goal.returns
unfolding inspect_sv
returns c = let f = sv_frame_of c.args.octets.now in
    c.verdict_on.ensures source_sv f.smp_cnt f.timestamp_us
    ∙ ap (λ (x : Checked). with_verdict (reported source_sv f.smp_cnt f.timestamp_us x)) c.check_sv_lent-alerts.ensures
