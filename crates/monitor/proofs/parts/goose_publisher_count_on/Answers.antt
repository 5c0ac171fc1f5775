-- `goose_publisher_count_on` meets its contract.
use mathlib.Core.Path.{sym}
use native.Mathlib.Omega.{arith}
use Rattle.monitor.specs.Monitor.{monitor_of}
use Rattle.monitor.proofs.PartLaws.{part_word}
use Rattle.monitor.proofs.parts.goose_publisher_count_on.Goals as goal

pub returns : goal.returns
unfolding monitor_of
returns c = sym (part_word c.args.m.now 64 177 176 (omega arith))
