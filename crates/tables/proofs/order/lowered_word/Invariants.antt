-- `lowered_word` meets its contract. The invariant: the octets from k on are packed.
use Rattle.tables.proofs.PackedLaws.{PackedFrom}
use Rattle.tables.specs.Order.{lowered, rank_in}
use Rattle.tables.proofs.order.lowered_word.Given as goal

abbrev pub invariant-loop-k : goal.invariant-loop-k
invariant-loop-k l = PackedFrom (λ j. lowered l.old (rank_in l.word j)) l.k l.out

abbrev pub decreases-loop-k : goal.decreases-loop-k
decreases-loop-k l = l.k
