-- `reserve_cb_on` meets its contract.
use native.Mathlib.Omega.{arith}
use Rattle.monitor.specs.Monitor.{monitor_of}
use Rattle.monitor.specs.Parts.{reserved_on}
use Rattle.monitor.proofs.PartLaws.{part_checked}
use Rattle.monitor.proofs.parts.reserve_cb_on.Goals as goal

pub returns : goal.returns
unfolding monitor_of reserved_on
returns c = part_checked 9 (λ c. c.table) (λ c. c.taken) c.args.m.now (omega arith) c.told-m (omega arith) c.reserve_cb_in.ensures
