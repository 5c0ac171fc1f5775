-- Names of at most 64 octets (01, "MMS and GOOSE frames", "Remembered tables"): svIDs, control blocks, publishers. A table keeps
-- a name as its length and 64 octets, zeros behind its end, so that equal names are equal numbers.
use Rattle.std.specs.Prelude.{ℕ, min, cond, List, take, nat_lt}
use Rattle.records.specs.declared.name.Name.{Name}
use Rattle.records.specs.Octets.{tabulate, octet_at}

-- stated lengths above 64 count as 64
abbrev pub valid_len : ℕ → ℕ
valid_len len = min len 64

-- the name that a frame states: its first octets, 64 at most
abbrev pub name_of : List ℕ → ℕ → List ℕ
name_of octets len = take (valid_len len) octets

abbrev pub stated_name : Name → List ℕ
stated_name n = name_of n.octets.now n.len

-- the octets of a name of this length, zeros behind its end
unfoldable pub padded : List ℕ → ℕ → List ℕ
padded octets len = tabulate (λ k. cond (nat_lt k len) (octet_at octets k) 0) 64
