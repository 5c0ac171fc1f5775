-- `verdict_on` meets its contract.
use Rattle.records.proofs.Booleans.{answered}
use Rattle.monitor.specs.Monitor.{monitor_of}
use Rattle.inspection.proofs.AlertLaws.{none_noted}
use Rattle.inspection.proofs.report.verdict_on.Goals as goal

pub returns-then-none_found : goal.returns-then-none_found
returns-then-none_found c = let a = c.args in
    λ source number time. none_noted source number time (monitor_of a.m.now) a.alerts (answered c.none_found.ensures c.if-none_found.true)
