-- `reset_on` meets its contract.
use native.Mathlib.Omega.{arith}
use Rattle.tables.specs.Column.{zero_words}
use Rattle.tables.specs.Order.{no_entries}
use Rattle.tables.proofs.WordTables.{length_none, length_zero}
use Rattle.monitor.specs.Reset.{reset_monitor}
use Rattle.monitor.proofs.ResetLaws.{part_new}
use Rattle.monitor.proofs.reset.reset_on.Goals as goal

pub returns : goal.returns
unfolding reset_monitor
returns c =
    let e2 = part_new 2 (zero_words 49) c.new_totals.new.m (omega arith) (length_zero 49) c.zero_part.ensures c.new_totals.ensures in
    let e3 = part_new 3 (zero_words 177) c.zero_part.new.m (omega arith) (length_zero 177) c.zero_part-2.ensures e2 in
    let e4 = part_new 4 (zero_words 193) c.zero_part-2.new.m (omega arith) (length_zero 193) c.zero_part-3.ensures e3 in
    let e5 = part_new 5 (no_entries 66) c.zero_part-3.new.m (omega arith) (length_none 66) c.clear_part.ensures e4 in
    let e6 = part_new 6 (no_entries 210) c.clear_part.new.m (omega arith) (length_none 210) c.clear_part-2.ensures e5 in
    let e7 = part_new 7 (no_entries 178) c.clear_part-2.new.m (omega arith) (length_none 178) c.clear_part-3.ensures e6 in
    let e8 = part_new 8 (no_entries 50) c.clear_part-3.new.m (omega arith) (length_none 50) c.clear_part-4.ensures e7 in
    part_new 9 (no_entries 210) c.clear_part-4.new.m (omega arith) (length_none 210) c.clear_part-5.ensures e8
