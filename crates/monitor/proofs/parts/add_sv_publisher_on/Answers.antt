-- `add_sv_publisher_on` meets its contract.
use native.Mathlib.Omega.{arith}
use Rattle.monitor.specs.Monitor.{monitor_of}
use Rattle.monitor.specs.Parts.{sv_added_on}
use Rattle.monitor.proofs.PartLaws.{part_checked}
use Rattle.monitor.proofs.parts.add_sv_publisher_on.Goals as goal

pub returns : goal.returns
unfolding monitor_of sv_added_on
returns c = part_checked 4 (λ c. c.rules) (λ c. c.answer) c.args.m.now (omega arith) c.told-m (omega arith) c.add_sv_publisher_in.ensures
