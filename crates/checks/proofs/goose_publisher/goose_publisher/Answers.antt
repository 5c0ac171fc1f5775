-- `goose_publisher` meets its contract.
use Rattle.std.proofs.Common.{◌∙◌}
use Rattle.records.proofs.SearchLaws.{reached_end, reached_hit, reached_next}
use Rattle.checks.specs.GoosePublisher.{goose_publisher}
use native.Mathlib.Omega.{arith}
use Rattle.checks.proofs.goose_publisher.goose_publisher.Goals as goal

pub loop-i-preserved : goal.loop-i-preserved
loop-i-preserved c = let l = c.loop-i in
    (l.invariant.0, l.invariant.1, reached_next l.invariant.2 (omega arith) c.fits_at.ensures c.if-fits_at.false)

pub returns-after-loop-i : goal.returns-after-loop-i
unfolding goose_publisher
returns-after-loop-i c = let l = c.loop-i in
    l.invariant.1 ∙ rw (← l.invariant.0) (reached_end l.invariant.2 (omega arith))

pub returns-then-fits_at : goal.returns-then-fits_at
unfolding goose_publisher
returns-then-fits_at c = let l = c.loop-i in
    rw (← l.invariant.0) (reached_hit l.invariant.2 (omega arith) c.fits_at.ensures c.if-fits_at.true)
