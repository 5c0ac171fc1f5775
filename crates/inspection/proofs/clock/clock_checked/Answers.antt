-- `clock_checked` meets its contract.
use Rattle.records.proofs.Booleans.{answered}
use Rattle.monitor.specs.Monitor.{monitor_of}
use Rattle.inspection.proofs.ClockLaws.{without_time}
use Rattle.inspection.proofs.clock.clock_checked.Goals as goal

pub returns : goal.returns
returns c = let a = c.args in
    without_time (monitor_of a.m.now) a.address (a.seconds, a.fraction) (answered c.has_clock.ensures c.if-has_clock.false)
