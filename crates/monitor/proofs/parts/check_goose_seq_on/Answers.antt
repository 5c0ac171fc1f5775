-- `check_goose_seq_on` meets its contract.
use native.Mathlib.Omega.{arith}
use Rattle.monitor.specs.Monitor.{monitor_of}
use Rattle.monitor.specs.Parts.{goose_seq_on}
use Rattle.monitor.proofs.PartLaws.{part_checked}
use Rattle.monitor.proofs.parts.check_goose_seq_on.Goals as goal

pub returns : goal.returns
unfolding monitor_of goose_seq_on
returns c = part_checked 6 (λ c. c.table) (λ c. c.replay) c.args.m.now (omega arith) c.told-m (omega arith) c.check_goose_seq_in.ensures
