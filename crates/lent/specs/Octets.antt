-- The fields of a struct in the octets that C lays it out in; numbers stand least significant octet first.
use Rattle.std.specs.Prelude.{ℕ, ◌+◌, ◌*◌, List}
use Rattle.records.specs.Octets.{octet_at, tabulate}

-- n octets from a place on
abbrev pub octets_at : List ℕ → ℕ → ℕ → List ℕ
octets_at octets at n = tabulate (λ k. octet_at octets (at + k)) n

-- the numbers in two, four and eight octets from a place on
abbrev pub number16 : List ℕ → ℕ → ℕ
number16 octets at = octet_at octets at + octet_at octets (at + 1) * 256

abbrev pub number32 : List ℕ → ℕ → ℕ
number32 octets at = number16 octets at + number16 octets (at + 2) * 65536

abbrev pub number64 : List ℕ → ℕ → ℕ
number64 octets at = number32 octets at + number32 octets (at + 4) * 4294967296
