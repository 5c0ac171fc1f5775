-- What the engine answers, in numbers: alerts, results and verdicts, and the monitor beside them.
use Rattle.std.specs.Prelude.{ℕ, List, map, Result, Ok, Err}
use Rattle.records.specs.declared.alert.CodedAlert.{CodedAlert}
use Rattle.records.specs.declared.result.InspectResult.{InspectResult}
use Rattle.records.specs.declared.error.VsError.{VsError}
use Rattle.records.specs.declared.frame.SvFrame.{SvFrame}
use Rattle.records.specs.Frame.{default_sv}
use Rattle.records.specs.Alert.{severity_number, code_number}
use Rattle.records.specs.Error.{error_number}
use Rattle.records.specs.Verdict.{verdict_of}
use Rattle.monitor.specs.Parts.{After}
use Rattle.inspection.specs.declared.inspect_sv.RawSv.{RawSv}
use Rattle.host.specs.declared.result.HostAlert.{HostAlert}
use Rattle.host.specs.declared.result.HostResult.{HostResult}
use Rattle.host.specs.declared.result.HostParsed.{HostParsed}
use Rattle.host.specs.Flag.{flag_number, no_error, answer_error}

-- an alert with its severity and its code as numbers
abbrev pub host_alert : CodedAlert → HostAlert
host_alert a =
    record {
      id = a.alert.id;
      timestamp_us = a.alert.timestamp_us;
      payload_hash = a.alert.payload_hash;
      source_id = a.alert.source_id;
      severity = severity_number a.alert.severity;
      source_type = a.alert.source_type;
      code = code_number a.code;
    }

-- a result with its flags as numbers, and every slot's alert
abbrev pub host_result : InspectResult → HostResult
host_result r =
    record {
      allowed = flag_number r.allowed;
      alert_count = r.alert_count;
      source_type = r.source_type;
      alerts_truncated = flag_number r.alerts_truncated;
      alerts = map host_alert r.alerts;
    }

-- of a raw frame: the result or the verdict, and the error's number
abbrev pub raw_result : RawSv → HostResult × ℕ
raw_result s = (host_result s.result, answer_error s.answer)

abbrev pub raw_verdict : RawSv → List ℕ × ℕ
raw_verdict s = (verdict_of s.result, answer_error s.answer)

-- the frame read from octets, and the error's number; the default frame beside an error
abbrev pub host_parsed : Result SvFrame VsError → HostParsed
host_parsed (Ok f) = record { frame = f; error = no_error }
host_parsed (Err e) = record { frame = default_sv; error = error_number e }

-- a monitor, and the answer in numbers
abbrev pub answered : {A B : Type 0} → (A → B) → After A → After B
answered numbers a = record { monitor = a.monitor; answer = numbers a.answer }
