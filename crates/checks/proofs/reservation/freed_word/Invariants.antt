-- `freed_word` meets its contract. The invariant: the octets from k on are packed.
use Prim.Native.Nat.{◌+◌}
use Rattle.tables.proofs.PackedLaws.{PackedFrom}
use Rattle.checks.specs.Reservation.{freed_rank}
use Rattle.checks.proofs.reservation.freed_word.Given as goal

abbrev pub invariant-loop-k : goal.invariant-loop-k
invariant-loop-k l = PackedFrom (λ j. freed_rank l.t l.client (l.start + j)) l.k l.out
