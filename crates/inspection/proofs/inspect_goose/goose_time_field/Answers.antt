-- `goose_time_field` meets its contract.
use mathlib.Core.Path.{ap, ◌∙◌}
use Rattle.monitor.specs.Parts.{goose_seq_on}
use Rattle.monitor.specs.Monitor.{monitor_of}
use Rattle.inspection.proofs.StageLaws.{clock_and_stream}
use Rattle.inspection.proofs.inspect_goose.goose_time_field.Goals as goal

pub returns : goal.returns
returns c = let a = c.args in
    clock_and_stream a.n (monitor_of a.m.now) c.clock_checked-clock.ensures c.retransmitted-outside.ensures c.goose_key-key.ensures
    (c.check_goose_seq_on-replay.ensures
    ∙ ap (goose_seq_on (monitor_of c.clock_checked-clock.new.m) c.goose_key-key.result) c.stream_numbers.ensures) c.goose_alerts.ensures
