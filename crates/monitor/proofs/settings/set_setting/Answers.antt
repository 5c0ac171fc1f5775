-- `set_setting` meets its contract.
use mathlib.Core.Path.{refl}
use Rattle.monitor.specs.Settings.{setting_set}
use Rattle.monitor.proofs.PartLaws.{setting_back}
use Rattle.monitor.proofs.settings.set_setting.Goals as goal

pub returns : goal.returns
unfolding setting_set
returns c = setting_back c.args.m.now refl c.args.place c.args.v c.requires
