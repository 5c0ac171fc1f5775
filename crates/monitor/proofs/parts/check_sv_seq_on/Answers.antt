-- `check_sv_seq_on` meets its contract.
use native.Mathlib.Omega.{arith}
use Rattle.monitor.specs.Monitor.{monitor_of}
use Rattle.monitor.specs.Parts.{sv_seq_on}
use Rattle.monitor.proofs.PartLaws.{part_checked}
use Rattle.monitor.proofs.parts.check_sv_seq_on.Goals as goal

pub returns : goal.returns
unfolding monitor_of sv_seq_on
returns c = part_checked 7 (λ c. c.table) (λ c. c.outcome) c.args.m.now (omega arith) c.told-m (omega arith) c.check_sv_seq_in.ensures
