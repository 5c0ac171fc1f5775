-- `inspect_mms_on` meets its contract.
use mathlib.Core.Path.{ap, ◌∙◌}
use Rattle.records.specs.Alert.{source_mms}
use Rattle.inspection.specs.InspectMms.{inspect_mms}
use mathlib.Core.List.{List}
use Rattle.monitor.specs.Monitor.{monitor_of}
use Rattle.inspection.specs.declared.report.Finding.{Finding}
use Rattle.inspection.specs.Report.{ended, reported}
use Rattle.inspection.proofs.inspect_mms.inspect_mms_on.Goals as goal

pub returns : goal.returns
unfolding inspect_mms
returns c = let f = c.args.frame in
    let report = reported source_mms f.invoke_id f.timestamp_us in
    c.report_on.ensures ∙ ap (λ (l : List Finding). report (ended (monitor_of c.check_mms_on-alert.new.m) l)) c.one_alert.ensures
    ∙ ap report c.check_mms_on-alert.ensures
