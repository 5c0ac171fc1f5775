-- What the contracts of the writer say of what was put.
use Rattle.std.specs.Prelude.{ℕ, ◌+◌, List, ◌++◌, length, take, cond, nat_lt}

-- What was put after octets: they stand behind it, if the buffer has room for them.
abbrev pub appended : List ℕ → ℕ → List ℕ → List ℕ
appended buffer end octets = cond (nat_lt (length buffer) (end + length octets)) (take end buffer) (take end buffer ++ octets)
