-- `host_report` meets its contract.
use mathlib.Core.Path.{refl, ap, ◌∙◌}
use Rattle.records.proofs.Booleans.{answered}
use Rattle.monitor.specs.Monitor.{monitor_of}
use Rattle.inspection.proofs.AlertLaws.{none_reported}
use Rattle.host.specs.Result.{host_result}
use Rattle.host.specs.Result as result
use Rattle.host.proofs.result.host_report.Goals as goal

pub returns-then-none_found : goal.returns-then-none_found
returns-then-none_found c = let a = c.args in
    (λ i. record { monitor = monitor_of a.m.now; answer = c.clean_result.ensures i })
    ∙ ap (result.answered host_result) (none_reported a.source.source_type a.source.source_id a.source.timestamp_us (monitor_of a.m.now) a.alerts refl
    (answered c.none_found.ensures c.if-none_found.true))
