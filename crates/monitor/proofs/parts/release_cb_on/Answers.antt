-- `release_cb_on` meets its contract.
use mathlib.Core.Path.{ap, ◌∙◌}
use native.Mathlib.Omega.{arith}
use Rattle.monitor.specs.Monitor.{monitor_of, with_cb_reservations}
use Rattle.monitor.specs.Parts.{released_on}
use Rattle.monitor.proofs.PartLaws.{part_back}
use Rattle.monitor.proofs.parts.release_cb_on.Goals as goal

pub returns : goal.returns
unfolding monitor_of released_on
returns c = part_back c.args.m.now c.release_cb_in.new.t c.told-m 9 (omega arith) (omega arith)
    ∙ ap (with_cb_reservations (monitor_of c.args.m.now)) c.release_cb_in.ensures
