-- Octets in a word, least significant octet first.
use Rattle.std.specs.Prelude.{ℕ, zero, suc, ◌+◌, ◌*◌, ◌/◌, ◌%◌, ◌^◌, cond, ◌==◌}

-- the number of n octets
unfoldable pub packed : (ℕ → ℕ) → ℕ → ℕ
packed octet zero = 0
packed octet (suc n) = octet 0 + 256 * packed (λ k. octet (suc k)) n

-- f with its value at one place replaced
abbrev pub updated : (ℕ → ℕ) → ℕ → ℕ → ℕ → ℕ
updated f place v k = cond (k == place) v (f k)

-- octet k of a word
abbrev pub octet_of : ℕ → ℕ → ℕ
octet_of word k = word / 256 ^ k % 256
