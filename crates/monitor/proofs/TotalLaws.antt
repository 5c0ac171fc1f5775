-- Laws of totals.
use mathlib.Core.Path.{◌≡◌, ap}
use lib.Seq.{set-get_or}
use Rattle.monitor.specs.Monitor.{Monitor, with_totals}
use Rattle.monitor.specs.Totals.{alert_counters, with_alerts}

-- counters that are put back change nothing
pub alerts_kept : (m : Monitor) → with_alerts m (alert_counters m) ≡ m
unfolding with_alerts
alerts_kept m = ap (with_totals m) (rw (set-get_or m.totals 3 0) (set-get_or m.totals 4 0))
