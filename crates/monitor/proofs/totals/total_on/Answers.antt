-- `total_on` meets its contract.
use mathlib.Core.Path.{sym}
use Rattle.monitor.specs.Monitor.{monitor_of}
use Rattle.monitor.proofs.PartLaws.{part_word}
use Rattle.monitor.proofs.totals.total_on.Goals as goal

pub returns : goal.returns
unfolding monitor_of
returns c = sym (part_word c.args.m.now 10 5 c.args.place c.requires)
