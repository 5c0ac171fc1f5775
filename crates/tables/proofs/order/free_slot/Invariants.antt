-- `free_slot` meets its contract. The invariant: the search has reached slot i.
use Rattle.std.proofs.Common.{◌≡◌, None, not}
use Rattle.records.proofs.SearchLaws.{Reached}
use Rattle.tables.specs.Order.{rank_of, in_use}
use Rattle.tables.proofs.order.free_slot.Given as goal

abbrev pub invariant-loop-i : goal.invariant-loop-i
invariant-loop-i l = (l.place ≡ None) × Reached (λ j. not (in_use (rank_of l.t) j)) 16 l.i
