-- `has_name` meets its contract. The invariant: the words passed agree.
use Rattle.std.proofs.Common.{◌≡◌, ◌+◌, true, get_or}
use Rattle.records.specs.Octets.{agree}
use Rattle.tables.proofs.named.has_name.Given as goal

abbrev pub invariant-loop-k : goal.invariant-loop-k
invariant-loop-k l = agree (λ j. get_or l.t (l.start + j) 0) (λ j. get_or l.key (j + 2) 0) l.k ≡ true
