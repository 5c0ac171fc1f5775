-- `setting_on` meets its contract.
use lib.Seq.{get_or-take}
use mathlib.Core.Path.{sym}
use Rattle.monitor.specs.Monitor.{monitor_of}
use Rattle.monitor.proofs.settings.setting_on.Goals as goal

pub returns : goal.returns
unfolding monitor_of
returns c = sym (get_or-take 10 c.args.m.now c.args.place 0 c.requires)
