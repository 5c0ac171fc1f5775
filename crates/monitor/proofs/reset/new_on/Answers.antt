-- `new_on` meets its contract.
use mathlib.Core.Path.{refl}
use native.Mathlib.Omega.{arith}
use Rattle.tables.specs.Column.{zero_words}
use Rattle.tables.proofs.WordTables.{length_zero}
use Rattle.checks.proofs.RuleLaws.{flag_is}
use Rattle.monitor.specs.Monitor.{monitor_of}
use Rattle.monitor.proofs.ResetLaws.{part_new, made_new}
use Rattle.monitor.proofs.reset.new_on.Goals as goal

pub returns : goal.returns
returns c = let a = c.args in
    let m = monitor_of a.m.now in
    made_new a.strict m (part_new 0 (zero_words 10) a.m.now (omega arith) (length_zero 10) c.zero_part.ensures refl) (flag_is _ c.from.ensures)
    c.set_setting.ensures c.default_8_1-schedule.ensures c.set_retx_schedule_on.ensures c.reset_on.ensures
