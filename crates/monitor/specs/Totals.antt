-- Totals (01, "Alert and result"): how many MMS, GOOSE and SV frames were inspected, the number that the next alert gets, and how many alerts there were.
use Rattle.std.specs.Prelude.{ℕ, get_or, set}
use Rattle.records.specs.declared.result.AlertCounters.{AlertCounters}
use Rattle.records.specs.Counter.{saturated}
use Rattle.monitor.specs.Monitor.{Monitor, with_totals}

module _ (m : Monitor) where
  abbrev pub total : ℕ → ℕ
  total place = get_or m.totals place 0

  abbrev pub mms_total_inspected : ℕ
  mms_total_inspected = total 0

  abbrev pub goose_total_inspected : ℕ
  goose_total_inspected = total 1

  abbrev pub sv_total_inspected : ℕ
  sv_total_inspected = total 2

  abbrev pub alert_counters : AlertCounters
  alert_counters = record { next_alert_id = total 3; total_alerts = total 4 }

  abbrev pub total_alerts : ℕ
  total_alerts = total 4

  -- one more frame; the inspection counts saturate
  unfoldable pub frame_counted : ℕ → Monitor
  frame_counted place = with_totals m (set m.totals place (saturated (total place)))

  -- the alerts' counters replaced
  unfoldable pub with_alerts : AlertCounters → Monitor
  with_alerts counters = with_totals m (set (set m.totals 3 counters.next_alert_id) 4 counters.total_alerts)

-- a counted frame of each kind
abbrev pub counted_mms : Monitor → Monitor
counted_mms m = frame_counted m 0

abbrev pub counted_goose : Monitor → Monitor
counted_goose m = frame_counted m 1

abbrev pub counted_sv : Monitor → Monitor
counted_sv m = frame_counted m 2
