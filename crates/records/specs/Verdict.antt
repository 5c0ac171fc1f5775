-- Verdicts as eight octets: a result without the numbers and times of its alerts.
use Rattle.std.specs.Prelude.{ℕ, cond, List, [], ◌∷◌, slice_index_or}
use Rattle.records.specs.declared.alert.CodedAlert.{CodedAlert}
use Rattle.records.specs.declared.result.InspectResult.{InspectResult}
use Rattle.records.specs.declared.alert.AlertSeverity.TheVariants.{Info}
use Rattle.records.specs.declared.alert.AlertCode.TheVariants.{Unspecified}
use Rattle.records.specs.Alert.{severity_number, code_number}

-- the alert in a slot; past the last there is none
abbrev slot : InspectResult → ℕ → CodedAlert
slot r i =
    slice_index_or r.alerts i
    (record {
      alert = record { id = 0; timestamp_us = 0; payload_hash = []; severity = Info; source_id = 0; source_type = 0 };
      code = Unspecified;
    })

-- allowed, the number of alerts, and of the first three slots the code and the severity; a slot without an alert has 0 and 0
unfoldable pub verdict_of : InspectResult → List ℕ
verdict_of r =
    cond r.allowed 1 0
    ∷ r.alert_count
    ∷ code_number (slot r 0).code
    ∷ severity_number (slot r 0).alert.severity
    ∷ code_number (slot r 1).code
    ∷ severity_number (slot r 1).alert.severity
    ∷ code_number (slot r 2).code
    ∷ severity_number (slot r 2).alert.severity
    ∷ []
