-- `owned_slot` meets its contract.
use mathlib.Core.Path.{refl, sym, ◌∙◌}
use Rattle.records.proofs.Booleans.{and_yes, and_no}
use Rattle.records.proofs.SearchLaws.{reached_end, reached_hit, reached_next}
use Rattle.tables.proofs.OrderLaws.{in_use_read}
use Rattle.checks.specs.Reservation.{owned_slot}
use native.Mathlib.Omega.{arith}
use Rattle.checks.proofs.reservation.owned_slot.Goals as goal
use Rattle.checks.proofs.reservation.owned_slot.Goals.{else-is_at-via-then-is_at+then-rank_at-lt16+else-t-i, else-is_at-via-then-is_at+else-rank_at-lt16, else-is_at-via-else-is_at}

pub loop-i-preserved : goal.loop-i-preserved
loop-i-preserved c = let k = sym c.is_at.ensures in (
  c.loop-i.invariant.0,
  reached_next c.loop-i.invariant.1 (omega arith) refl
      (elim c.else-is_at.branch [
        | else-is_at-via-then-is_at+then-rank_at-lt16+else-t-i w ↦
            and_yes (k ∙ w.if-is_at.true) (and_yes (in_use_read w.rank_at.ensures w.if-rank_at-lt16.true-raw) w.if-t-i.false-raw)
        | else-is_at-via-then-is_at+else-rank_at-lt16 w ↦
            and_yes (k ∙ w.if-is_at.true) (and_no _ (in_use_read w.rank_at.ensures w.if-rank_at-lt16.false-raw))
        | else-is_at-via-else-is_at w ↦ and_no _ (k ∙ w.if-is_at.false)
      ]),
)

pub returns-after-loop-i : goal.returns-after-loop-i
unfolding owned_slot
returns-after-loop-i c = c.loop-i.invariant.0 ∙ reached_end c.loop-i.invariant.1 (omega arith)

pub returns-then-t-i : goal.returns-then-t-i
unfolding owned_slot
returns-then-t-i c = reached_hit c.loop-i.invariant.1 (omega arith) refl
    (and_yes (sym c.is_at.ensures ∙ c.if-is_at.true) (and_yes (in_use_read c.rank_at.ensures c.if-rank_at-lt16.true-raw) c.if-t-i.true-raw))
