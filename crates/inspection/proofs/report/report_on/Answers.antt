-- `report_on` meets its contract.
use Rattle.records.proofs.Booleans.{answered}
use Rattle.monitor.specs.Monitor.{monitor_of}
use Rattle.inspection.proofs.AlertLaws.{none_reported, alerts_reported}
use Rattle.inspection.proofs.report.report_on.Goals as goal

pub returns-then-none_found : goal.returns-then-none_found
returns-then-none_found c = let a = c.args in
    none_reported a.source.source_type a.source.source_id a.source.timestamp_us (monitor_of a.m.now) a.alerts c.clean.ensures
    (answered c.none_found.ensures c.if-none_found.true)

pub returns : goal.returns
returns c = let a = c.args in
    alerts_reported a.source.source_type a.source.source_id a.source.timestamp_us (monitor_of a.m.now) a.alerts c.alert_counters_on-counters.ensures
    c.push_alerts-pushed.ensures c.set_alert_counters_on.ensures
