-- `check_cb_on` meets its contract.
use native.Mathlib.Omega.{arith}
use Rattle.monitor.specs.Monitor.{monitor_of}
use Rattle.monitor.specs.Parts.{cb_on}
use Rattle.monitor.proofs.PartLaws.{part_checked}
use Rattle.monitor.proofs.parts.check_cb_on.Goals as goal

pub returns : goal.returns
unfolding monitor_of cb_on
returns c = part_checked 9 (λ c. c.table) (λ c. c.hijack) c.args.m.now (omega arith) c.told-m (omega arith) c.check_cb_in.ensures
