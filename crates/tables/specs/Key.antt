-- Keys of tables by name (01, "Remembered tables", "MMS and GOOSE frames"): ten words, made of a number and of a name of at most 64 octets. The
-- number is the address of a GOOSE stream (request 8), the kind of a reservation, and 0 for an SV stream.
use Rattle.std.specs.Prelude.{ℕ, zero, suc, ◌+◌, ◌*◌, ◌%◌, ◌^◌, List, ◌∷◌, length, replicate}
use Rattle.records.specs.Octets.{tabulate, octet_at}
use Rattle.tables.specs.Packed.{packed}

-- word k of a name: its octets from 8 × k on, zeros behind its end
unfoldable pub name_word : List ℕ → ℕ → ℕ
name_word name k = packed (λ j. octet_at name (k * 8 + j)) 8

-- a number with n words added, modulo 2^64
unfoldable pub summed : ℕ → (ℕ → ℕ) → ℕ → ℕ
summed number word zero = number
summed number word (suc n) = (summed number word n + word n) % 2 ^ 64

-- the key: a sum, the number and the name's first four words modulo 2^64, which a search compares first; the name's length; its eight words
unfoldable pub key_of : ℕ → List ℕ → List ℕ
key_of number name = summed number (name_word name) 4 ∷ length name ∷ tabulate (name_word name) 8

-- a key of two numbers, as an address and the hash of a name
abbrev pub two_number_key : ℕ → ℕ → List ℕ
two_number_key a b = a ∷ b ∷ replicate 8 0
