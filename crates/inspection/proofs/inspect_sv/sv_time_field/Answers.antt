-- `sv_time_field` meets its contract.
use Rattle.monitor.specs.Monitor.{monitor_of}
use Rattle.inspection.proofs.StageLaws.{clock_and_count}
use Rattle.inspection.proofs.inspect_sv.sv_time_field.Goals as goal

pub returns : goal.returns
returns c = let a = c.args in
    clock_and_count a.svid.now a.n a.rate (monitor_of a.m.now) c.clock_checked-clock.ensures c.check_sv_seq_on-outcome.ensures
    c.setting_on-max_gap.ensures c.sv_alerts.ensures
