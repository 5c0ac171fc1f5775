-- `mms_rate` meets its contract.
use mathlib.Core.Path.{refl}
use Rattle.monitor.specs.Monitor.{monitor_of}
use Rattle.inspection.specs.InspectMms.{MmsRead}
use Rattle.inspection.proofs.StageLaws.{over_ends, over_passed}
use Rattle.inspection.proofs.inspect_mms.mms_rate.Goals as goal

pub returns-then-over_rate : goal.returns-then-over_rate
returns-then-over_rate c = let a = c.args in
    let f : MmsRead = record { domain = a.domain.now; numbers = a.n } in
    over_ends f (monitor_of a.m.now) a.rate c.over_rate.ensures c.if-over_rate.true refl

pub returns : goal.returns
returns c = let a = c.args in
    let f : MmsRead = record { domain = a.domain.now; numbers = a.n } in
    over_passed f (monitor_of a.m.now) a.rate c.over_rate.ensures c.if-over_rate.false c.mms_control.ensures
