-- `clear` meets its contract. The invariant: the words passed are those of a table without entries.
use Rattle.std.proofs.Common.{◌≡◌, ◌-◌, ◌≤◌, cond, ltb, length}
use Rattle.records.specs.Octets.{overwritten}
use Rattle.tables.specs.Order.{free_word}
use Rattle.tables.proofs.order.clear.Given as goal

abbrev pub invariant-loop-i : goal.invariant-loop-i
invariant-loop-i l = (l.i ≤ length l.t) × (l.t ≡ overwritten l.initial.t 0 (λ k. cond (ltb k 2) free_word 0) l.i) × (length l.t ≡ length l.initial.t)

abbrev pub decreases-loop-i : goal.decreases-loop-i
decreases-loop-i l = length l.initial.t - l.i
