-- Errors (01, "Alert and result": errors 0 to 14).
use Rattle.std.specs.Prelude.{ℕ}
use Rattle.records.specs.declared.error.VsError.{VsError}
use Rattle.records.specs.declared.error.VsError.TheVariants.{CryptoError, BusError, PolicyViolation, IntegrityFailure, AuthenticationFailure, Timeout}
use Rattle.records.specs.declared.error.VsError.TheVariants.{ResourceExhausted, NotInitialized, StorageError, InvalidInput, InvalidConfig, NotFound}
use Rattle.records.specs.declared.error.VsError.TheVariants.{OverlappingRegion, KeyExpired, KeyRevoked}

-- the number of each error
abbrev pub error_number : VsError → ℕ
error_number CryptoError = 0
error_number BusError = 1
error_number PolicyViolation = 2
error_number IntegrityFailure = 3
error_number AuthenticationFailure = 4
error_number Timeout = 5
error_number ResourceExhausted = 6
error_number NotInitialized = 7
error_number StorageError = 8
error_number InvalidInput = 9
error_number InvalidConfig = 10
error_number NotFound = 11
error_number OverlappingRegion = 12
error_number KeyExpired = 13
error_number KeyRevoked = 14
