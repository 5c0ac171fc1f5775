-- `mms_verdict_lent` meets its contract.
use mathlib.Core.List.{List}
use mathlib.Core.Path.{ap, ◌∙◌}
use Rattle.monitor.specs.Monitor.{monitor_of}
use Rattle.inspection.specs.declared.report.Finding.{Finding}
use Rattle.records.specs.Alert.{source_mms}
use Rattle.lent.specs.Mms.{mms_frame_of}
use Rattle.inspection.specs.InspectMms.{inspect_mms}
use Rattle.inspection.specs.Report.{Checked, ended, reported, with_verdict}
use Rattle.lent.proofs.mms.mms_verdict_lent.Goals as goal

pub returns : goal.returns
unfolding inspect_mms
returns c = let f = mms_frame_of c.args.octets.now in
    let verdict = λ (x : Checked). with_verdict (reported source_mms f.invoke_id f.timestamp_us x) in
    c.verdict_on.ensures source_mms f.invoke_id f.timestamp_us
    ∙ ap (λ (l : List Finding). verdict (ended (monitor_of c.check_mms_lent-alert.new.m) l)) c.one_alert.ensures
    ∙ ap verdict c.check_mms_lent-alert.ensures
