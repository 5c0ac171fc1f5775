-- `set_alert_counters_on` meets its contract.
use mathlib.Core.Path.{refl}
use native.Mathlib.Omega.{arith}
use Rattle.monitor.specs.Totals.{with_alerts}
use Rattle.monitor.proofs.PartLaws.{total_back}
use Rattle.monitor.proofs.totals.set_alert_counters_on.Goals as goal

pub returns : goal.returns
unfolding with_alerts
returns c =
    let counters = c.args.counters in
    total_back _ (total_back c.args.m.now refl 3 counters.next_alert_id (omega arith)) 4 counters.total_alerts (omega arith)
