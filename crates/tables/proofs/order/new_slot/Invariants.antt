-- `new_slot` meets its contract. The invariant: the search has reached slot i.
use Rattle.std.proofs.Common.{◌≡◌, leb}
use Rattle.tables.specs.Order.{rank_of}
use Rattle.records.proofs.SearchLaws.{Reached}
use Rattle.tables.proofs.order.new_slot.Given as goal

abbrev pub invariant-loop-i : goal.invariant-loop-i
invariant-loop-i l = (l.slot ≡ 15) × Reached (λ j. leb 15 (rank_of l.t j)) 15 l.i
