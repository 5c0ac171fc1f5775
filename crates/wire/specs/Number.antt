-- Numbers in octets, most significant octet first (X.690 8.1.3.5; IEC 61850-9-2).
use Rattle.std.specs.Prelude.{ℕ, ◌+◌, ◌*◌, ◌&&◌, cond, List, [], ◌∷◌, leb, length, Option, Some, None}
use Rattle.records.specs.declared.error.VsError.TheVariants.{InvalidInput}
use Rattle.records.specs.Octets.{octet_at}
use Rattle.records.specs.Row.{error_row}

-- n with these octets appended
unfoldable pub big_endian_from : ℕ → List ℕ → ℕ
big_endian_from n [] = n
big_endian_from n (octet ∷ rest) = big_endian_from (n * 256 + octet) rest

-- the number that octets write
abbrev pub big_endian : List ℕ → ℕ
big_endian octets = big_endian_from 0 octets

-- the number in the two octets from place i on
abbrev pub pair_at : List ℕ → ℕ → ℕ
pair_at octets i = octet_at octets i * 256 + octet_at octets (i + 1)

-- 1 to 4 octets, value to 65535
unfoldable pub unsigned_int : List ℕ → Option ℕ
unsigned_int octets =
    cond (leb 1 (length octets) && leb (length octets) 4 && leb (big_endian octets) 65535) (Some (big_endian octets)) None

-- the answer as a row: 1 and the value, or error 9
abbrev pub unsigned_row : Option ℕ → List ℕ
unsigned_row (Some v) = 1 ∷ v ∷ []
unsigned_row None = error_row InvalidInput
