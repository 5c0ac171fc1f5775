-- `sv_checks_on` meets its contract.
use Rattle.records.specs.Name.{stated_name}
use Rattle.monitor.specs.Monitor.{monitor_of}
use Rattle.inspection.specs.InspectSv.{sv_read_by, sv_reservation, sv_binding}
use Rattle.inspection.proofs.StageLaws.{rules_refuse, rules_permit}
use Rattle.inspection.proofs.inspect_sv.sv_checks_on.Goals as goal

pub returns-in-Err : goal.returns-in-Err
unfolding sv_binding
returns-in-Err c = let a = c.args in
    let m = monitor_of a.m.now in
    let f = sv_read_by a.svid.now (stated_name a.dataset) a.n in
    rules_refuse m (λ rate. sv_reservation f rate m) c.sv_rule.ensures _ c.in-Err.is c.one_alert.ensures

pub returns-in-Ok : goal.returns-in-Ok
unfolding sv_binding
returns-in-Ok c = let a = c.args in
    let m = monitor_of a.m.now in
    let f = sv_read_by a.svid.now (stated_name a.dataset) a.n in
    rules_permit m (λ rate. sv_reservation f rate m) c.sv_rule.ensures _ c.in-Ok.is c.sv_reservation.ensures
