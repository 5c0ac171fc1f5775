-- What the checks of an inspection find, and the result and counters that report it (01, "Alert and result"; "Refusals in checking order").
use Rattle.std.specs.Prelude.{ℕ, ◌+◌, ◌*◌, Bool, true, false, ◌&&◌, ◌||◌, not, cond, ltb, get_or, set, Option, Some, None, Result, Ok, Err}
use mathlib.Core.List.{List, [], ◌∷◌, ◌++◌, foldl}
use Rattle.records.specs.declared.alert.AlertSeverity.{AlertSeverity}
use Rattle.records.specs.declared.alert.AlertSeverity.TheVariants.{Low, Medium, High}
use Rattle.records.specs.declared.alert.AlertCode.{AlertCode}
use Rattle.records.specs.declared.alert.AlertCode.TheVariants.{UnknownFunctionCode, WriteProtection, RateExceeded, NoMatchingRule}
use Rattle.records.specs.declared.alert.AlertCode.TheVariants.{ResourceExhausted, PolicyViolation}
use Rattle.records.specs.declared.alert.AlertCode.TheVariants.{CbHijack, TimeSyncSpoofing, ReplayDetected, RetransmissionAnomaly, IedMismatch, SvReplay}
use Rattle.records.specs.declared.alert.AlertCode.TheVariants.{SvRateAnomaly}
use Rattle.records.specs.declared.result.AlertCounters.{AlertCounters}
use Rattle.records.specs.declared.result.InspectResult.{InspectResult}
use Rattle.records.specs.declared.result.Pushed.{Pushed}
use Rattle.records.specs.Alert.{severity_number, code_number, denies}
use Rattle.records.specs.Result.{clean_result, counted, pushed}
use Rattle.records.specs.Verdict.{verdict_of}
use Rattle.monitor.specs.Monitor.{Monitor}
use Rattle.monitor.specs.Parts.{After}
use Rattle.monitor.specs.Totals.{alert_counters, with_alerts}
use Rattle.inspection.specs.declared.report.CheckAlert.{CheckAlert}
use Rattle.inspection.specs.declared.report.CheckAlert.TheVariants.{ServiceMasked, WriteRefused, OverRate, NoRule, ReservationsFull}
use Rattle.inspection.specs.declared.report.CheckAlert.TheVariants.{TestBlocked, UnknownPublisher, BoundElsewhere, ClockAlert}
use Rattle.inspection.specs.declared.report.CheckAlert.TheVariants.{GooseReplay, Retransmission, WrongIed, UnknownSvid, CountReplay, CountGap}
use Rattle.inspection.specs.declared.report.CheckAlert.TheVariants.{SuspiciousCount, RateMismatch}
use Rattle.inspection.specs.declared.report.Finding.{Finding}
use Rattle.inspection.specs.declared.report.Noted.{Noted}

-- an alert that refuses the frame: those of 01's numbered list
abbrev pub refusal : AlertSeverity → AlertCode → Finding
refusal severity code = record { severity = severity; code = code; refuses = true }

-- an alert that alone does not refuse: suspicious 27, retransmission 30, Low 23
abbrev pub notice : AlertSeverity → AlertCode → Finding
notice severity code = record { severity = severity; code = code; refuses = false }

-- the alerts that checks give
abbrev pub finding_of : CheckAlert → Finding
finding_of ServiceMasked = refusal Medium UnknownFunctionCode
finding_of WriteRefused = refusal High WriteProtection
finding_of OverRate = refusal Medium RateExceeded
finding_of NoRule = refusal Medium NoMatchingRule
finding_of ReservationsFull = notice Low ResourceExhausted
finding_of TestBlocked = refusal Medium PolicyViolation
finding_of UnknownPublisher = refusal High PolicyViolation
finding_of BoundElsewhere = refusal High CbHijack
finding_of ClockAlert = refusal High TimeSyncSpoofing
finding_of GooseReplay = refusal High ReplayDetected
finding_of Retransmission = notice Medium RetransmissionAnomaly
finding_of WrongIed = refusal High IedMismatch
finding_of UnknownSvid = refusal Medium PolicyViolation
finding_of CountReplay = refusal High SvReplay
finding_of CountGap = refusal Medium SvRateAnomaly
finding_of SuspiciousCount = notice Medium SvRateAnomaly
finding_of RateMismatch = refusal Medium SvRateAnomaly

-- the number of an alert in 01's list of refusals, the first of two; 0 for one that alone does not refuse
abbrev pub refusal_number : CheckAlert → ℕ
refusal_number ServiceMasked = 4
refusal_number WriteRefused = 5
refusal_number OverRate = 7
refusal_number NoRule = 8
refusal_number ReservationsFull = 0
refusal_number TestBlocked = 9
refusal_number UnknownPublisher = 10
refusal_number BoundElsewhere = 11
refusal_number ClockAlert = 12
refusal_number GooseReplay = 13
refusal_number Retransmission = 0
refusal_number WrongIed = 14
refusal_number UnknownSvid = 15
refusal_number CountReplay = 18
refusal_number CountGap = 19
refusal_number SuspiciousCount = 0
refusal_number RateMismatch = 20

-- an alert of a check as a row: the refusal's number, its severity and its code
abbrev pub check_alert_row : CheckAlert → List ℕ
check_alert_row a = refusal_number a ∷ severity_number (finding_of a).severity ∷ code_number (finding_of a).code ∷ []

-- what the rules say as a row: 1 and the rate, or 0 and the alert
abbrev pub rule_check_row : Result ℕ CheckAlert → List ℕ
rule_check_row (Ok rate) = 1 ∷ rate ∷ []
rule_check_row (Err alert) = 0 ∷ check_alert_row alert

-- an alert of a check by itself
abbrev pub findings_of : CheckAlert → List Finding
findings_of a = finding_of a ∷ []

-- the alerts of a check's answer
abbrev pub findings_in : Option CheckAlert → List Finding
findings_in None = []
findings_in (Some a) = findings_of a

-- a clock alert: High 31, checking goes on
abbrev pub clock_findings : Bool → List Finding
clock_findings alert = cond alert (findings_of ClockAlert) []

-- an inspection after its checks: the monitor, and the alerts in their order
abbrev pub Checked : Type 0
Checked = After (List Finding)

-- checking ends here
abbrev pub ended : Monitor → List Finding → Checked
ended m findings = record { monitor = m; answer = findings }

-- a control block or data set bound to another address: High 29, and checking ends
abbrev pub unless_hijacked : (Monitor → Checked) → After Bool → Checked
unless_hijacked next c = cond c.answer (ended c.monitor (findings_of BoundElsewhere)) (next c.monitor)

-- checking ends where the rules refuse, and goes on with the rate that they give
abbrev pub permitted : Monitor → (ℕ → Checked) → Result ℕ CheckAlert → Checked
permitted m next (Ok rate) = next rate
permitted m next (Err alert) = ended m (findings_of alert)

-- a result with this allowed flag
abbrev pub with_allowed : InspectResult → Bool → InspectResult
with_allowed r allowed =
    record {
      allowed = allowed;
      alert_count = r.alert_count;
      source_type = r.source_type;
      alerts = r.alerts;
      alerts_truncated = r.alerts_truncated;
    }

-- a result and the counters with one more alert
abbrev pub reported_next : ℕ → ℕ → ℕ → Pushed → Finding → Pushed
reported_next source source_number time p a =
    pushed (with_allowed p.result (p.result.allowed && not a.refuses)) p.counters a.severity source source_number time a.code

-- a clean result and the counters, with the alerts
unfoldable pub alerts_pushed : ℕ → ℕ → ℕ → AlertCounters → List Finding → Pushed
alerts_pushed source source_number time counters findings =
    foldl (reported_next source source_number time) (record { result = clean_result source; counters = counters }) findings

-- the result of an inspection, and the monitor with the alerts counted
abbrev pub pushed_on : Monitor → Pushed → After InspectResult
pushed_on m p = record { monitor = with_alerts m p.counters; answer = p.result }

unfoldable pub reported : ℕ → ℕ → ℕ → Checked → After InspectResult
reported source source_number time c = pushed_on c.monitor (alerts_pushed source source_number time (alert_counters c.monitor) c.answer)

-- ---- for the code: what it keeps of the findings

-- the alerts of the checks' answers in their order
abbrev pub alerts_of : List (Option CheckAlert) → List Finding
alerts_of [] = []
alerts_of (a ∷ rest) = findings_in a ++ alerts_of rest

-- whether the checks found nothing
abbrev pub none_found : List (Option CheckAlert) → Bool
none_found [] = true
none_found (None ∷ rest) = none_found rest
none_found (Some a ∷ rest) = false

-- the verdict of a result, and the counters
abbrev pub noted_of : Pushed → Noted
noted_of p = record { verdict = verdict_of p.result; counters = p.counters }

-- the verdict on a frame without alerts
abbrev pub clean_verdict : List ℕ
clean_verdict = 1 ∷ 0 ∷ 0 ∷ 0 ∷ 0 ∷ 0 ∷ 0 ∷ 0 ∷ []

-- the octet that says whether a frame is allowed, after an alert: 0 where it refuses the frame or is High or Critical
abbrev pub allowed_octet : ℕ → AlertSeverity → Bool → ℕ
allowed_octet octet severity refuses = cond (refuses || denies severity) 0 octet

-- a verdict with one more alert in the next of its three places, as its result has it, and the counters after it. One with three alerts is left
unfoldable pub alert_noted : Noted → Finding → Noted
alert_noted n f = cond (ltb count 3) (record { verdict = noted_verdict; counters = counted n.counters }) n
  where
    count : ℕ
    count = get_or n.verdict 1 0

    flagged : List ℕ
    flagged = set (set n.verdict 0 (allowed_octet (get_or n.verdict 0 0) f.severity f.refuses)) 1 (count + 1)

    noted_verdict : List ℕ
    noted_verdict = set (set flagged (2 + 2 * count) (code_number f.code)) (2 + 2 * count + 1) (severity_number f.severity)

-- the verdict of an inspection, in place of its result
abbrev pub with_verdict : After InspectResult → After (List ℕ)
with_verdict a = record { monitor = a.monitor; answer = verdict_of a.answer }
