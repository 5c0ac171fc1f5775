-- `over_rate` meets its contract.
use Rattle.monitor.specs.Monitor.{monitor_of}
use Rattle.inspection.proofs.StageLaws.{rate_free, rate_asked}
use Rattle.inspection.proofs.inspect_mms.over_rate.Goals as goal

pub returns-then-rate-eq0 : goal.returns-then-rate-eq0
returns-then-rate-eq0 c = let a = c.args in
    rate_free (monitor_of a.m.now) a.invoke_id a.rate a.now_us c.if-rate-eq0.true

pub returns : goal.returns
returns c = let a = c.args in
    rate_asked (monitor_of a.m.now) a.invoke_id a.rate a.now_us c.if-rate-eq0.false c.rate_check_on.ensures
