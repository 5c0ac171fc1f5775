-- `mms_checks_on` meets its contract.
use mathlib.Core.Path.{refl}
use Rattle.monitor.specs.Monitor.{monitor_of}
use Rattle.inspection.specs.InspectMms.{MmsRead, mms_rate, mms_checks}
use Rattle.inspection.proofs.StageLaws.{rules_refuse, rules_permit}
use Rattle.inspection.proofs.inspect_mms.mms_checks_on.Goals as goal

pub returns-in-Err : goal.returns-in-Err
unfolding mms_checks
returns-in-Err c = let a = c.args in
    let m = monitor_of a.m.now in
    let f : MmsRead = record { domain = a.domain.now; numbers = a.n } in
    rules_refuse m (λ rate. mms_rate f rate m) c.mms_rule.ensures _ c.in-Err.is refl

pub returns-in-Ok : goal.returns-in-Ok
unfolding mms_checks
returns-in-Ok c = let a = c.args in
    let m = monitor_of a.m.now in
    let f : MmsRead = record { domain = a.domain.now; numbers = a.n } in
    rules_permit m (λ rate. mms_rate f rate m) c.mms_rule.ensures _ c.in-Ok.is c.mms_rate.ensures
