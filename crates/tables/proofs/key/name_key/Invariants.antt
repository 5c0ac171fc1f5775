-- `name_key` meets its contract. The invariant: the words passed are written.
use Rattle.std.proofs.Common.{◌≡◌, ℕ, ◌+◌, ◌*◌, ◌≤◌, List, replicate}
use Rattle.records.specs.Octets.{octet_at, overwritten}
use Rattle.tables.specs.Packed.{packed}
use Rattle.tables.proofs.key.name_key.Given as goal

-- the words of padded octets
abbrev padded_word : List ℕ → ℕ → ℕ
padded_word name k = packed (λ j. octet_at name (k * 8 + j)) 8

abbrev pub invariant-loop-k : goal.invariant-loop-k
invariant-loop-k l = (l.k ≤ 8) × (l.key ≡ overwritten (replicate 10 0) 2 (padded_word l.name) l.k)
