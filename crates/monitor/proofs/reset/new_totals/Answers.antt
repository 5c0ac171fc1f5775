-- `new_totals` meets its contract.
use mathlib.Core.Path.{ap, ◌∙◌}
use native.Mathlib.Omega.{arith}
use Rattle.tables.specs.Column.{zero_words}
use Rattle.monitor.specs.Monitor.{monitor_of, with_totals}
use Rattle.monitor.specs.Reset.{new_totals}
use Rattle.monitor.proofs.PartLaws.{part_length, part_back, total_back}
use Rattle.monitor.proofs.reset.new_totals.Goals as goal

pub returns : goal.returns
unfolding monitor_of new_totals
returns c =
    let l = c.args.m.now in
    let z = c.zero_words.ensures ∙ ap zero_words (part_length l 10 5 (omega arith)) in
    total_back _ (part_back l c.zero_words.new.t c.told-m 1 (omega arith) (omega arith) ∙ ap (with_totals (monitor_of l)) z) 3 1 (omega arith)
