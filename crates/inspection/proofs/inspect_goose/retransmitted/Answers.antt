-- `retransmitted` meets its contract.
use mathlib.Core.Path.{ap, ◌∙◌}
use Rattle.checks.specs.GooseSeq.{retx_checked}
use Rattle.monitor.specs.Monitor.{monitor_of}
use Rattle.inspection.proofs.StageLaws.{retx_not_asked, retx_asked}
use Rattle.inspection.proofs.inspect_goose.retransmitted.Goals as goal

pub returns-then-flag_on : goal.returns-then-flag_on
returns-then-flag_on c = let a = c.args in
    retx_asked (monitor_of a.m.now) a.n c.flag_on.ensures c.if-flag_on.true c.retx_schedule_on-schedule.ensures c.goose_key-key.ensures
    (c.retx_anomaly_on.ensures
    ∙ ap (retx_checked c.retx_schedule_on-schedule.result (monitor_of a.m.now).goose_seq c.goose_key-key.result) c.stream_numbers.ensures)

pub returns : goal.returns
returns c = let a = c.args in
    retx_not_asked (monitor_of a.m.now) a.n c.flag_on.ensures c.if-flag_on.false
