-- `owned_slot` meets its contract.
use Rattle.std.proofs.Common.{◌≡◌, None}
use mathlib.Core.Bool.{◌&&◌}
use Rattle.records.proofs.SearchLaws.{Reached}
use Rattle.tables.specs.Named.{named}
use Rattle.tables.specs.Order.{rank_of, in_use}
use Rattle.checks.specs.Reservation.{owned_by}
use Rattle.checks.proofs.reservation.owned_slot.Given as goal

abbrev pub invariant-loop-i : goal.invariant-loop-i
invariant-loop-i l = (l.place ≡ None) × Reached (λ j. named.matches l.t l.key j && (in_use (rank_of l.t) j && owned_by l.t l.client j)) 16 l.i
