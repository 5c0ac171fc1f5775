-- `inspect_raw_sv` meets its contract.
use Rattle.records.specs.Row.{ValuesOr}
use Rattle.records.specs.Row.{answer_row}
use Rattle.inspection.specs.declared.inspect_sv.RawSv.{RawSv}
use Rattle.inspection.proofs.CallTheoremsHold.{answer_has, raw_refusals}
use Rattle.entries.proofs.iec61850_monitor.Iec61850Monitor.inspect_raw_sv.Goals as goal

pub returns : goal.returns
returns c =
    let both = answer_has (λ (raw : RawSv). ValuesOr 9 (answer_row raw.answer)) c.inspect_raw_sv_on-answer.ensures (raw_refusals _ _ _) in
    record { value = both.0; numbers = both.1 }
