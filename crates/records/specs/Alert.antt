-- Alerts (01, "Alert and result"): severities 0 to 4, alert codes 0 to 42, and what an alert holds.
use Rattle.std.specs.Prelude.{ℕ, Bool, replicate, nat_le}
use Rattle.records.specs.declared.alert.AlertSeverity.{AlertSeverity}
use Rattle.records.specs.declared.alert.AlertSeverity.TheVariants.{Info, Low, Medium, High, Critical}
use Rattle.records.specs.declared.alert.AlertCode.{AlertCode}
use Rattle.records.specs.declared.alert.AlertCode.TheVariants.{Unspecified, CrcFailure, WriteProtection, ReplayDetected, RateExceeded, FloodAbuse}
use Rattle.records.specs.declared.alert.AlertCode.TheVariants.{PolicyViolation, UnknownFunctionCode, DiagnosticBlocked, EndpointBlocked}
use Rattle.records.specs.declared.alert.AlertCode.TheVariants.{SecurityModeViolation, SessionAnomaly, AlarmFlood, SequenceAnomaly, PayloadOverflow}
use Rattle.records.specs.declared.alert.AlertCode.TheVariants.{InvalidProtocol, NoMatchingRule, MessageTypeBlocked, ProviderStateChange, DcpBlocked}
use Rattle.records.specs.declared.alert.AlertCode.TheVariants.{MessageSizeExceeded, AddressViolation, UnknownSession, ResourceExhausted}
use Rattle.records.specs.declared.alert.AlertCode.TheVariants.{ObjectAccessDenied, CipServiceBlocked, SvReplay, SvRateAnomaly, IedMismatch, CbHijack}
use Rattle.records.specs.declared.alert.AlertCode.TheVariants.{RetransmissionAnomaly, TimeSyncSpoofing, ClockRegression, UnitNotAllowed, InvalidUnitId}
use Rattle.records.specs.declared.alert.AlertCode.TheVariants.{TxIdReplay, BadLinkCrc, TransportSeqAnomaly, SaDowngrade, IinFlagSpoofing}
use Rattle.records.specs.declared.alert.AlertCode.TheVariants.{ForeignDevice, NpduLoop, BroadcastFlood}
use Rattle.records.specs.declared.alert.CodedAlert.{CodedAlert}

-- the number of each severity
abbrev pub severity_number : AlertSeverity → ℕ
severity_number Info = 0
severity_number Low = 1
severity_number Medium = 2
severity_number High = 3
severity_number Critical = 4

-- High or Critical clears allowed
unfoldable pub denies : AlertSeverity → Bool
denies s = nat_le (severity_number High) (severity_number s)

-- the number of each alert code
abbrev pub code_number : AlertCode → ℕ
code_number Unspecified = 0
code_number CrcFailure = 1
code_number WriteProtection = 2
code_number ReplayDetected = 3
code_number RateExceeded = 4
code_number FloodAbuse = 5
code_number PolicyViolation = 6
code_number UnknownFunctionCode = 7
code_number DiagnosticBlocked = 8
code_number EndpointBlocked = 9
code_number SecurityModeViolation = 10
code_number SessionAnomaly = 11
code_number AlarmFlood = 12
code_number SequenceAnomaly = 13
code_number PayloadOverflow = 14
code_number InvalidProtocol = 15
code_number NoMatchingRule = 16
code_number MessageTypeBlocked = 17
code_number ProviderStateChange = 18
code_number DcpBlocked = 19
code_number MessageSizeExceeded = 20
code_number AddressViolation = 21
code_number UnknownSession = 22
code_number ResourceExhausted = 23
code_number ObjectAccessDenied = 24
code_number CipServiceBlocked = 25
code_number SvReplay = 26
code_number SvRateAnomaly = 27
code_number IedMismatch = 28
code_number CbHijack = 29
code_number RetransmissionAnomaly = 30
code_number TimeSyncSpoofing = 31
code_number ClockRegression = 32
code_number UnitNotAllowed = 33
code_number InvalidUnitId = 34
code_number TxIdReplay = 35
code_number BadLinkCrc = 36
code_number TransportSeqAnomaly = 37
code_number SaDowngrade = 38
code_number IinFlagSpoofing = 39
code_number ForeignDevice = 40
code_number NpduLoop = 41
code_number BroadcastFlood = 42

-- sources: MMS 40, GOOSE 41, SV 42
abbrev pub source_mms : ℕ
source_mms = 40

abbrev pub source_goose : ℕ
source_goose = 41

abbrev pub source_sv : ℕ
source_sv = 42

-- an alert has a number, severity, the frame's time, a zero hash and a source number
unfoldable pub alert_of : ℕ → AlertSeverity → ℕ → ℕ → ℕ → AlertCode → CodedAlert
alert_of number severity source source_number time code =
    record {
      alert =
          record {
            id = number;
            timestamp_us = time;
            payload_hash = replicate 32 0;
            severity = severity;
            source_id = source_number;
            source_type = source;
          };
      code = code;
    }

-- what a slot without an alert holds: id 0, Info, the result's source, zeros, code 0
unfoldable pub no_alert : ℕ → CodedAlert
no_alert source = alert_of 0 Info source 0 0 Unspecified
