-- `rate_check_on` meets its contract.
use native.Mathlib.Omega.{arith}
use Rattle.monitor.specs.Monitor.{monitor_of}
use Rattle.monitor.specs.Parts.{rate_on}
use Rattle.monitor.proofs.PartLaws.{part_checked}
use Rattle.monitor.proofs.parts.rate_check_on.Goals as goal

pub returns : goal.returns
unfolding monitor_of rate_on
returns c = part_checked 5 (λ c. c.table) (λ c. c.allowed) c.args.m.now (omega arith) c.told-m (omega arith) c.rate_check_in.ensures
