-- `set_retx_schedule_on` meets its contract.
use Rattle.checks.proofs.RuleLaws.{flag_is}
use Rattle.checks.specs.Keys.{flag_word}
use Rattle.monitor.specs.Monitor.{monitor_of}
use Rattle.monitor.specs.Settings.{setting_set, set_retx_schedule}
use Rattle.monitor.proofs.SettingLaws.{set_again}
use Rattle.monitor.proofs.settings.set_retx_schedule_on.Goals as goal

pub returns : goal.returns
unfolding setting_set set_retx_schedule
returns c = let a = c.args in
    let m = monitor_of a.m.now in
    let first = c.set_setting.ensures in
    let second = set_again m 5 a.schedule.t_max_us first c.set_setting-2.ensures in
    let third = set_again m 6 a.schedule.tolerance_pct second c.set_setting-3.ensures in
    set_again m 7 (flag_word a.enforce) third (rw (← flag_is _ c.from.ensures) c.set_setting-4.ensures)
