-- `find` meets its contract. The invariant: the search has reached slot i.
use Rattle.std.proofs.Common.{sym, refl, ◌∙◌, arith}
use Rattle.records.proofs.Booleans.{and_yes, and_no}
use Rattle.records.proofs.SearchLaws.{reached_end, reached_hit, reached_next}
use Rattle.tables.proofs.OrderLaws.{in_use_read}
use Rattle.tables.specs.Place.{found}
use Rattle.tables.proofs.place.find.Goals as goal
use Rattle.tables.proofs.place.find.Goals.{else-is_at-via-then-is_at+else-rank_at-lt16, else-is_at-via-else-is_at}

pub loop-i-preserved : goal.loop-i-preserved
loop-i-preserved g c = let k = sym c.is_at.ensures in (
  c.loop-i.invariant.0,
  reached_next c.loop-i.invariant.1 (omega arith) refl
      (elim c.else-is_at.branch [
        | else-is_at-via-then-is_at+else-rank_at-lt16 w ↦ and_yes (k ∙ w.if-is_at.true) (in_use_read w.rank_at.ensures w.if-rank_at-lt16.false-raw)
        | else-is_at-via-else-is_at w ↦ and_no _ (k ∙ w.if-is_at.false)
      ]),
)

pub returns-after-loop-i : goal.returns-after-loop-i
unfolding found
returns-after-loop-i g c = c.loop-i.invariant.0 ∙ reached_end c.loop-i.invariant.1 (omega arith)

pub returns-then-rank_at-lt16 : goal.returns-then-rank_at-lt16
unfolding found
returns-then-rank_at-lt16 g c = reached_hit c.loop-i.invariant.1 (omega arith) refl
    (and_yes (sym c.is_at.ensures ∙ c.if-is_at.true) (in_use_read c.rank_at.ensures c.if-rank_at-lt16.true-raw))
