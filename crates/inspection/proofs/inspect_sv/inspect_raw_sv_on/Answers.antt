-- `inspect_raw_sv_on` meets its contract.
use Rattle.monitor.specs.Monitor.{monitor_of}
use Rattle.inspection.proofs.StageLaws.{raw_unreadable, raw_read}
use Rattle.inspection.proofs.inspect_sv.inspect_raw_sv_on.Goals as goal

pub returns-in-Ok : goal.returns-in-Ok
returns-in-Ok c = let a = c.args in
    raw_read (monitor_of a.m.now) a.bytes.now a.timestamp_us c.parse_sv.ensures.value c.in-Ok.is c.inspect_sv_on.ensures

pub returns-in-Err : goal.returns-in-Err
returns-in-Err c = let a = c.args in
    raw_unreadable (monitor_of a.m.now) a.bytes.now a.timestamp_us c.parse_sv.ensures.value c.in-Err.is c.clean.ensures
