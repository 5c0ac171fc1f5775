-- `free_slot` meets its contract. The invariant: the search has reached slot i.
use Rattle.std.proofs.Common.{not, refl, ap, ◌∙◌, arith, le-ltb, lt-ltb}
use Rattle.records.proofs.SearchLaws.{reached_end, reached_hit, reached_next}
use Rattle.tables.proofs.OrderLaws.{in_use_read}
use Rattle.tables.specs.Order.{free_slot}
use Rattle.tables.proofs.order.free_slot.Goals as goal

pub loop-i-preserved : goal.loop-i-preserved
loop-i-preserved c = (
  c.loop-i.invariant.0,
  reached_next c.loop-i.invariant.1 (omega arith) refl
      (ap not (in_use_read c.rank_at.ensures (lt-ltb _ _ c.if-rank_at-ge16.false))),
)

pub returns-after-loop-i : goal.returns-after-loop-i
unfolding free_slot
returns-after-loop-i c = c.loop-i.invariant.0 ∙ reached_end c.loop-i.invariant.1 (omega arith)

pub returns-then-rank_at-ge16 : goal.returns-then-rank_at-ge16
unfolding free_slot
returns-then-rank_at-ge16 c = reached_hit c.loop-i.invariant.1 (omega arith) refl
    (ap not (in_use_read c.rank_at.ensures (le-ltb _ _ c.if-rank_at-ge16.true)))
