-- `count_alert` meets its contract.
use mathlib.Core.Path.{sym}
use borrow.Author.Tests.{lt-ltb, le-ltb}
use Rattle.records.proofs.Booleans.{cond_yes, cond_no, and_yes, and_no}
use Rattle.inspection.specs.InspectSv.{count_findings}
use Rattle.inspection.proofs.inspect_sv.count_alert.Goals as goal
use Rattle.inspection.proofs.inspect_sv.count_alert.Goals.{else-limit-gt0-via-then-limit-gt0+else-gap-limit, else-limit-gt0-via-else-limit-gt0}

pub returns-then-gap-limit : goal.returns-then-gap-limit
unfolding count_findings
returns-then-gap-limit c = rw c.in-ForwardGap.is
    (sym (cond_yes _ _ (and_yes (lt-ltb _ _ c.if-limit-gt0.true) c.if-gap-limit.true-raw)))

pub returns-in-FirstSeen : goal.returns-in-FirstSeen
unfolding count_findings
returns-in-FirstSeen c = rw c.in-FirstSeen.is

pub returns-in-Replay : goal.returns-in-Replay
unfolding count_findings
returns-in-Replay c = rw c.in-Replay.is

pub returns-else-limit-gt0 : goal.returns-else-limit-gt0
unfolding count_findings
returns-else-limit-gt0 c = rw c.in-ForwardGap.is
    (sym (cond_no _ _
    (elim c.else-limit-gt0.branch [
      | else-limit-gt0-via-then-limit-gt0+else-gap-limit w ↦ and_yes (lt-ltb _ _ w.if-limit-gt0.true) w.if-gap-limit.false-raw
      | else-limit-gt0-via-else-limit-gt0 w ↦ and_no _ (le-ltb _ _ w.if-limit-gt0.false)
    ])))

pub returns-in-CycleWrap : goal.returns-in-CycleWrap
unfolding count_findings
returns-in-CycleWrap c = rw c.in-CycleWrap.is

pub returns-in-SuspiciousSmpGap : goal.returns-in-SuspiciousSmpGap
unfolding count_findings
returns-in-SuspiciousSmpGap c = rw c.in-SuspiciousSmpGap.is
