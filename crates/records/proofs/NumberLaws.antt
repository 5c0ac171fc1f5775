-- The numbers of errors, severities, alert codes and services are injective: each case is read back from its number.
use Rattle.std.proofs.Common.{◌≡◌, ℕ, zero, suc, ◌<◌, ◌⊎◌, inl, inr, List, [], ◌∷◌, get_or, sym, refl, ap, ◌∙◌, arith}
use Rattle.records.specs.declared.error.VsError.{VsError}
use Rattle.records.specs.declared.error.VsError.TheVariants as error
use Rattle.records.specs.declared.alert.AlertSeverity.{AlertSeverity}
use Rattle.records.specs.declared.alert.AlertSeverity.TheVariants as severity
use Rattle.records.specs.declared.alert.AlertCode.{AlertCode}
use Rattle.records.specs.declared.alert.AlertCode.TheVariants as code
use Rattle.records.specs.declared.service.MmsServiceType.{MmsServiceType}
use Rattle.records.specs.declared.service.MmsServiceType.TheVariants as service
use Rattle.records.specs.Error.{error_number}
use Rattle.records.specs.Alert.{severity_number, code_number}
use Rattle.records.specs.Service.{service_number, service_of}

-- a function whose argument can be read back is injective
pub read_back :
    {A B : Type 0} (number : A → B) (case : B → A) → ((a : A) → case (number a) ≡ a)
    → (a b : A) → number a ≡ number b → a ≡ b
read_back number case back a b e = sym (back a) ∙ ap case e ∙ back b

errors : List VsError
errors =
    error.CryptoError ∷ error.BusError ∷ error.PolicyViolation ∷ error.IntegrityFailure ∷ error.AuthenticationFailure ∷ error.Timeout
    ∷ error.ResourceExhausted ∷ error.NotInitialized ∷ error.StorageError ∷ error.InvalidInput ∷ error.InvalidConfig ∷ error.NotFound
    ∷ error.OverlappingRegion ∷ error.KeyExpired ∷ error.KeyRevoked ∷ []

error_back : (a : VsError) → get_or errors (error_number a) error.CryptoError ≡ a
unfolding errors
error_back error.CryptoError = refl
error_back error.BusError = refl
error_back error.PolicyViolation = refl
error_back error.IntegrityFailure = refl
error_back error.AuthenticationFailure = refl
error_back error.Timeout = refl
error_back error.ResourceExhausted = refl
error_back error.NotInitialized = refl
error_back error.StorageError = refl
error_back error.InvalidInput = refl
error_back error.InvalidConfig = refl
error_back error.NotFound = refl
error_back error.OverlappingRegion = refl
error_back error.KeyExpired = refl
error_back error.KeyRevoked = refl

pub error_injective : (a b : VsError) → error_number a ≡ error_number b → a ≡ b
error_injective = read_back error_number (λ n. get_or errors n error.CryptoError) error_back

severities : List AlertSeverity
severities = severity.Info ∷ severity.Low ∷ severity.Medium ∷ severity.High ∷ severity.Critical ∷ []

severity_back : (a : AlertSeverity) → get_or severities (severity_number a) severity.Info ≡ a
unfolding severities
severity_back severity.Info = refl
severity_back severity.Low = refl
severity_back severity.Medium = refl
severity_back severity.High = refl
severity_back severity.Critical = refl

pub severity_injective : (a b : AlertSeverity) → severity_number a ≡ severity_number b → a ≡ b
severity_injective = read_back severity_number (λ n. get_or severities n severity.Info) severity_back

codes : List AlertCode
codes =
    code.Unspecified ∷ code.CrcFailure ∷ code.WriteProtection ∷ code.ReplayDetected ∷ code.RateExceeded ∷ code.FloodAbuse ∷ code.PolicyViolation
    ∷ code.UnknownFunctionCode ∷ code.DiagnosticBlocked ∷ code.EndpointBlocked ∷ code.SecurityModeViolation ∷ code.SessionAnomaly ∷ code.AlarmFlood
    ∷ code.SequenceAnomaly ∷ code.PayloadOverflow ∷ code.InvalidProtocol ∷ code.NoMatchingRule ∷ code.MessageTypeBlocked ∷ code.ProviderStateChange
    ∷ code.DcpBlocked ∷ code.MessageSizeExceeded ∷ code.AddressViolation ∷ code.UnknownSession ∷ code.ResourceExhausted ∷ code.ObjectAccessDenied
    ∷ code.CipServiceBlocked ∷ code.SvReplay ∷ code.SvRateAnomaly ∷ code.IedMismatch ∷ code.CbHijack ∷ code.RetransmissionAnomaly
    ∷ code.TimeSyncSpoofing ∷ code.ClockRegression ∷ code.UnitNotAllowed ∷ code.InvalidUnitId ∷ code.TxIdReplay ∷ code.BadLinkCrc
    ∷ code.TransportSeqAnomaly ∷ code.SaDowngrade ∷ code.IinFlagSpoofing ∷ code.ForeignDevice ∷ code.NpduLoop ∷ code.BroadcastFlood ∷ []

code_back : (a : AlertCode) → get_or codes (code_number a) code.Unspecified ≡ a
unfolding codes
code_back code.Unspecified = refl
code_back code.CrcFailure = refl
code_back code.WriteProtection = refl
code_back code.ReplayDetected = refl
code_back code.RateExceeded = refl
code_back code.FloodAbuse = refl
code_back code.PolicyViolation = refl
code_back code.UnknownFunctionCode = refl
code_back code.DiagnosticBlocked = refl
code_back code.EndpointBlocked = refl
code_back code.SecurityModeViolation = refl
code_back code.SessionAnomaly = refl
code_back code.AlarmFlood = refl
code_back code.SequenceAnomaly = refl
code_back code.PayloadOverflow = refl
code_back code.InvalidProtocol = refl
code_back code.NoMatchingRule = refl
code_back code.MessageTypeBlocked = refl
code_back code.ProviderStateChange = refl
code_back code.DcpBlocked = refl
code_back code.MessageSizeExceeded = refl
code_back code.AddressViolation = refl
code_back code.UnknownSession = refl
code_back code.ResourceExhausted = refl
code_back code.ObjectAccessDenied = refl
code_back code.CipServiceBlocked = refl
code_back code.SvReplay = refl
code_back code.SvRateAnomaly = refl
code_back code.IedMismatch = refl
code_back code.CbHijack = refl
code_back code.RetransmissionAnomaly = refl
code_back code.TimeSyncSpoofing = refl
code_back code.ClockRegression = refl
code_back code.UnitNotAllowed = refl
code_back code.InvalidUnitId = refl
code_back code.TxIdReplay = refl
code_back code.BadLinkCrc = refl
code_back code.TransportSeqAnomaly = refl
code_back code.SaDowngrade = refl
code_back code.IinFlagSpoofing = refl
code_back code.ForeignDevice = refl
code_back code.NpduLoop = refl
code_back code.BroadcastFlood = refl

pub code_injective : (a b : AlertCode) → code_number a ≡ code_number b → a ≡ b
code_injective = read_back code_number (λ n. get_or codes n code.Unspecified) code_back

-- a service is that of its number
pub service_back : (a : MmsServiceType) → service_of (service_number a) ≡ a
unfolding service_of
service_back service.Read = refl
service_back service.Write = refl
service_back service.GetNameList = refl
service_back service.GetVariableAccessAttributes = refl
service_back service.DefineNamedVariable = refl
service_back service.DeleteNamedVariable = refl
service_back service.GetDataValues = refl
service_back service.SetDataValues = refl
service_back service.Initiate = refl
service_back service.Conclude = refl
service_back service.SelectControl = refl
service_back service.CancelControl = refl
service_back service.Unknown = refl

pub service_injective : (a b : MmsServiceType) → service_number a ≡ service_number b → a ≡ b
service_injective = read_back service_number service_of service_back

-- a number is that of its service, unless the service is unknown
pub number_back : (v : ℕ) → (service_of v ≡ service.Unknown) ⊎ (service_number (service_of v) ≡ v)
unfolding service_of
number_back zero = inl refl
number_back (suc zero) = inr refl
number_back (suc (suc zero)) = inr refl
number_back (suc (suc (suc zero))) = inr refl
number_back (suc (suc (suc (suc zero)))) = inr refl
number_back (suc (suc (suc (suc (suc zero))))) = inr refl
number_back (suc (suc (suc (suc (suc (suc zero)))))) = inr refl
number_back (suc (suc (suc (suc (suc (suc (suc zero))))))) = inr refl
number_back (suc (suc (suc (suc (suc (suc (suc (suc zero)))))))) = inr refl
number_back (suc (suc (suc (suc (suc (suc (suc (suc (suc zero))))))))) = inr refl
number_back (suc (suc (suc (suc (suc (suc (suc (suc (suc (suc zero)))))))))) = inr refl
number_back (suc (suc (suc (suc (suc (suc (suc (suc (suc (suc (suc zero))))))))))) = inr refl
number_back (suc (suc (suc (suc (suc (suc (suc (suc (suc (suc (suc (suc zero)))))))))))) = inr refl
number_back (suc (suc (suc (suc (suc (suc (suc (suc (suc (suc (suc (suc (suc v))))))))))))) = inl refl

-- the service of a number that is one of those with numbers
pub is_service : (v : ℕ) {a b : MmsServiceType} → b ≡ service_of v → b ≡ a → service_number a < 255 → v ≡ service_number a
is_service v {a} e h known = elim (number_back v) [
  | inl u ↦ absurd (omega (arith, known, ap service_number (sym h ∙ e ∙ u)))
  | inr n ↦ sym n ∙ ap service_number (sym e ∙ h)
]

-- a number of another service is another number
pub other_service : (v : ℕ) (a : MmsServiceType) {b : MmsServiceType} → b ≡ service_of v → (b ≡ a → ⊥) → v ≡ service_number a → ⊥
other_service v a e d h = d (e ∙ ap service_of h ∙ service_back a)
