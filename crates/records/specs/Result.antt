-- Results (01, "Alert and result"): a clean one, and one with another alert.
use Rattle.std.specs.Prelude.{ℕ, ◌+◌, Bool, true, false, cond, not, ◌&&◌, replicate, nat_lt, slice_set}
use Rattle.records.specs.declared.alert.AlertSeverity.{AlertSeverity}
use Rattle.records.specs.declared.alert.AlertCode.{AlertCode}
use Rattle.records.specs.declared.alert.CodedAlert.{CodedAlert}
use Rattle.records.specs.declared.result.InspectResult.{InspectResult}
use Rattle.records.specs.declared.result.AlertCounters.{AlertCounters}
use Rattle.records.specs.declared.result.Pushed.{Pushed}
use Rattle.records.specs.Alert.{denies, alert_of, no_alert}
use Rattle.records.specs.Counter.{saturated, wrapped}

-- allowed, with no alert
unfoldable pub clean_result : ℕ → InspectResult
clean_result source =
    record {
      allowed = true;
      alert_count = 0;
      source_type = source;
      alerts = replicate 4 (no_alert source);
      alerts_truncated = false;
    }

-- High or Critical clears allowed
unfoldable pub allowed_with : Bool → AlertSeverity → Bool
allowed_with allowed severity = allowed && not (denies severity)

-- the next number wraps in 64 bits, the total saturates
unfoldable pub counted : AlertCounters → AlertCounters
counted n =
    record { next_alert_id = wrapped n.next_alert_id; total_alerts = saturated n.total_alerts }

-- a result with one more alert in its next slot
unfoldable pub with_alert : InspectResult → Bool → CodedAlert → InspectResult
with_alert r allowed a =
    record {
      allowed = allowed;
      alert_count = r.alert_count + 1;
      source_type = r.source_type;
      alerts = slice_set r.alerts r.alert_count a;
      alerts_truncated = r.alerts_truncated;
    }

-- a result whose four slots are taken, with an alert dropped
unfoldable pub truncated : InspectResult → Bool → InspectResult
truncated r allowed =
    record {
      allowed = allowed;
      alert_count = r.alert_count;
      source_type = r.source_type;
      alerts = r.alerts;
      alerts_truncated = true;
    }

-- up to 4 alerts, and a truncated mark. A dropped alert takes neither number nor total
unfoldable pub pushed : InspectResult → AlertCounters → AlertSeverity → ℕ → ℕ → ℕ → AlertCode → Pushed
pushed r n severity source source_number time code =
    cond (nat_lt r.alert_count 4)
    (record {
      result = with_alert r (allowed_with r.allowed severity) (alert_of n.next_alert_id severity source source_number time code);
      counters = counted n;
    })
    (record { result = truncated r (allowed_with r.allowed severity); counters = n })
