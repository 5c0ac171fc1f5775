-- `inspect_sv_into` meets its contract.
use mathlib.Core.Path.{ap, ◌∙◌}
use Rattle.records.proofs.Booleans.{answered}
use Rattle.records.specs.Alert.{source_sv}
use Rattle.monitor.specs.Monitor.{monitor_of}
use Rattle.inspection.proofs.AlertLaws.{none_noted}
use Rattle.inspection.specs.InspectSv.{inspect_sv}
use Rattle.inspection.specs.Report.{Checked, reported, with_verdict}
use Rattle.lent.specs.Sv.{sv_frame_of}
use Rattle.batch.proofs.BatchLaws.{verdict_put_lem}
use Rattle.batch.proofs.inspect_sv_into.Goals as goal

pub returns-then-none_found : goal.returns-then-none_found
unfolding inspect_sv
returns-then-none_found c = let a = c.args in
    let f = sv_frame_of a.o.now in
    let checked = c.check_sv_lent-alerts in
    verdict_put_lem a.verdicts.now a.at (inspect_sv (monitor_of a.m.now) f)
    (none_noted source_sv f.smp_cnt f.timestamp_us (monitor_of checked.new.m) checked.result (answered c.none_found.ensures c.if-none_found.true)
    ∙ ap (λ (x : Checked). with_verdict (reported source_sv f.smp_cnt f.timestamp_us x)) checked.ensures)
    c.put_verdict.ensures

pub returns : goal.returns
unfolding inspect_sv
returns c = let a = c.args in
    let f = sv_frame_of a.o.now in
    verdict_put_lem a.verdicts.now a.at (inspect_sv (monitor_of a.m.now) f)
    (c.noted_on-verdict.ensures source_sv f.smp_cnt f.timestamp_us
    ∙ ap (λ (x : Checked). with_verdict (reported source_sv f.smp_cnt f.timestamp_us x)) c.check_sv_lent-alerts.ensures)
    c.put_verdict-2.ensures
