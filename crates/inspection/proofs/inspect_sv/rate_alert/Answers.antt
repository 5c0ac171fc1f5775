-- `rate_alert` meets its contract.
use borrow.Author.Tests.{eq-eqb, ne_eqb}
use Rattle.records.proofs.Booleans.{and-false}
use Rattle.inspection.specs.InspectSv.{rate_findings}
use Rattle.inspection.proofs.StageLaws.{nonzero}
use Rattle.inspection.proofs.inspect_sv.rate_alert.Goals as goal
use Rattle.inspection.proofs.inspect_sv.rate_alert.Goals.{then-replay-via-then-replay, then-replay-via-else-replay+then-frame_rate-eq0}
use Rattle.inspection.proofs.inspect_sv.rate_alert.Goals.{then-replay-via-else-replay+else-frame_rate-eq0+then-rate-eq0}
use Rattle.inspection.proofs.inspect_sv.rate_alert.Goals.{then-replay-via-else-replay+else-frame_rate-eq0+else-rate-eq0+then-frame_rate-rate}

pub returns-then-replay : goal.returns-then-replay
unfolding rate_findings
returns-then-replay c = elim c.then-replay.branch [
  | then-replay-via-then-replay w ↦ rw w.if-replay.true
  | then-replay-via-else-replay+then-frame_rate-eq0 w ↦ rw (w.if-replay.false, w.if-frame_rate-eq0.true)
  | then-replay-via-else-replay+else-frame_rate-eq0+then-rate-eq0 w ↦ rw (w.if-replay.false, w.if-rate-eq0.true, and-false)
  | then-replay-via-else-replay+else-frame_rate-eq0+else-rate-eq0+then-frame_rate-rate w ↦
      rw (w.if-replay.false, eq-eqb _ _ w.if-frame_rate-rate.true, and-false)
]

pub returns : goal.returns
unfolding rate_findings
returns c = rw (c.if-replay.false, ne_eqb _ _ c.if-frame_rate-rate.false, nonzero _ c.if-frame_rate-eq0.false, nonzero _ c.if-rate-eq0.false)
