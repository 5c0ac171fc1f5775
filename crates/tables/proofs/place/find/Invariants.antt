-- `find` meets its contract. The invariant: the search has reached slot i.
use Rattle.std.proofs.Common.{◌≡◌, ◌&&◌, None}
use Rattle.records.proofs.SearchLaws.{Reached}
use Rattle.tables.specs.Order.{rank_of, in_use}
use Rattle.tables.proofs.place.find.Given as goal

abbrev pub invariant-loop-i : goal.invariant-loop-i
invariant-loop-i g l = (l.place ≡ None) × Reached (λ j. g.K.Key.columns.matches l.t l.key j && in_use (rank_of l.t) j) 16 l.i
