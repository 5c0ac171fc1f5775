-- `noted_on` meets its contract.
use Rattle.std.proofs.Common.{rules}
use Rattle.monitor.specs.Monitor.{monitor_of}
use Rattle.inspection.proofs.AlertLaws.{alerts_noted}
use Rattle.inspection.proofs.report.noted_on.Goals as goal

pub returns : goal.returns
returns c = let a = c.args in
    λ source number time. alerts_noted source number time (monitor_of a.m.now) a.alerts (search rules) c.alert_counters_on-counters.ensures c.verdict_of-noted.ensures
    c.set_alert_counters_on.ensures
