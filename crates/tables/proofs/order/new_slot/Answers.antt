-- `new_slot` meets its contract. The invariant: the search has reached slot i.
use Rattle.std.proofs.Common.{leb, sym, refl, ap, ◌∙◌, arith, le-leb}
use borrow.Author.Tests.{lt-leb}
use Rattle.records.specs.Search.{slot_or}
use Rattle.tables.specs.Order.{new_slot}
use Rattle.records.proofs.SearchLaws.{reached_end, reached_hit, reached_next}
use Rattle.tables.proofs.order.new_slot.Goals as goal

pub loop-i-preserved : goal.loop-i-preserved
loop-i-preserved c = (
  c.loop-i.invariant.0,
  reached_next c.loop-i.invariant.1 (omega arith) refl
      (ap (leb 15) (sym c.rank_at.ensures) ∙ lt-leb 15 c.rank_at.result (omega arith)),
)

pub returns-after-loop-i : goal.returns-after-loop-i
unfolding new_slot
returns-after-loop-i c = c.loop-i.invariant.0 ∙ ap (slot_or 15) (reached_end c.loop-i.invariant.1 (omega arith))

pub returns-then-rank_at-ge15 : goal.returns-then-rank_at-ge15
unfolding new_slot
returns-then-rank_at-ge15 c = ap (slot_or 15) (reached_hit c.loop-i.invariant.1 (omega arith) refl
    (ap (leb 15) (sym c.rank_at.ensures) ∙ le-leb 15 c.rank_at.result (omega arith)))
