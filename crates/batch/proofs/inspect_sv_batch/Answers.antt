-- `inspect_sv_batch` meets its contract. The invariant: the monitor is the one after the frames passed, and their verdicts are written.
use Rattle.monitor.specs.Monitor.{monitor_of}
use Rattle.batch.proofs.BatchLaws.{none_after, no_verdicts, after_more, verdicts_more}
use Rattle.batch.proofs.inspect_sv_batch.Goals as goal

pub loop-i-init : goal.loop-i-init
loop-i-init c =
    let a = c.args in
    (none_after (monitor_of a.m.now) a.frames.now, no_verdicts (monitor_of a.m.now) a.frames.now a.verdicts.now)

pub loop-i-preserved : goal.loop-i-preserved
loop-i-preserved c =
    let l = c.loop-i in
    let a = c.args in
    let m = monitor_of a.m.now in
    let e = c.inspect_sv_into.ensures in (
      after_more m a.frames.now l.i a.verdicts.now l.invariant.0 l.invariant.1 e,
      verdicts_more m a.frames.now l.i a.verdicts.now l.invariant.0 l.invariant.1 e,
    )
