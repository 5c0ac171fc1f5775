-- `check_time_field_on` meets its contract.
use native.Mathlib.Omega.{arith}
use Rattle.monitor.specs.Monitor.{monitor_of}
use Rattle.monitor.specs.Parts.{time_field_on}
use Rattle.monitor.proofs.PartLaws.{part_checked}
use Rattle.monitor.proofs.parts.check_time_field_on.Goals as goal

pub returns : goal.returns
unfolding monitor_of time_field_on
returns c = part_checked 8 (λ c. c.table) (λ c. c.alert) c.args.m.now (omega arith) c.told-m (omega arith) c.check_time_field_in.ensures
