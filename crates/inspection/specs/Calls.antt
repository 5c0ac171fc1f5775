-- Calls of every entry, and what a list of them leaves.
use Rattle.std.specs.Prelude.{ℕ, Bool}
use mathlib.Core.List.{List, foldl}
use Rattle.records.specs.declared.frame.MmsFrame.{MmsFrame}
use Rattle.records.specs.declared.frame.GooseFrame.{GooseFrame}
use Rattle.records.specs.declared.frame.SvFrame.{SvFrame}
use Rattle.records.specs.declared.schedule.RetxSchedule.{RetxSchedule}
use Rattle.monitor.specs.Monitor.{Monitor}
use Rattle.monitor.specs.Parts.{mms_added_on, goose_added_on, sv_added_on}
use Rattle.monitor.specs.Reset.{new_monitor, reset_monitor}
use Rattle.monitor.specs.Settings.{set_mms_service_mask, set_mms_read_only, set_block_test_frames, set_sv_max_smp_cnt_gap, set_retx_schedule, set_time_max_forward_jump}
use Rattle.inspection.specs.Address.{address_of}
use Rattle.inspection.specs.InspectMms.{inspect_mms}
use Rattle.inspection.specs.InspectGoose.{inspect_goose}
use Rattle.inspection.specs.InspectSv.{inspect_sv, inspect_raw_sv}

-- the nine set and add calls
pub data Setting : Type 0 where
  service_mask : ℕ → Setting
  read_only : Bool → Setting
  new_mms_rule : ℕ → Bool → ℕ → Setting
  new_goose_publisher : List ℕ → List ℕ → Setting
  new_sv_publisher : List ℕ → List ℕ → ℕ → Setting
  block_test : Bool → Setting
  max_smp_cnt_gap : ℕ → Setting
  schedule : RetxSchedule → Bool → Setting
  max_forward_jump : ℕ → Setting

-- every call that may change a monitor; the totals and the mode are read off it
pub data Call : Type 0 where
  setting : Setting → Call
  mms : MmsFrame → Call
  goose : GooseFrame → Call
  sv : SvFrame → Call
  raw_sv : List ℕ → ℕ → Call
  reset : Call

-- the monitor after a set or add call
abbrev pub setting_made : Monitor → Setting → Monitor
setting_made m (service_mask mask) = set_mms_service_mask m mask
setting_made m (read_only on) = set_mms_read_only m on
setting_made m (new_mms_rule mask on rate) = (mms_added_on m mask on rate).monitor
setting_made m (new_goose_publisher mac name) = (goose_added_on m (address_of mac) name).monitor
setting_made m (new_sv_publisher mac svid rate) = (sv_added_on m (address_of mac) svid rate).monitor
setting_made m (block_test block) = set_block_test_frames m block
setting_made m (max_smp_cnt_gap gap) = set_sv_max_smp_cnt_gap m gap
setting_made m (schedule s enforce) = set_retx_schedule m s enforce
setting_made m (max_forward_jump seconds) = set_time_max_forward_jump m seconds

-- a new monitor, strict or not, with its settings made
abbrev pub configured_monitor : Bool → List Setting → Monitor
configured_monitor strict settings = foldl setting_made (new_monitor strict) settings

-- the monitor after a call
abbrev pub called : Monitor → Call → Monitor
called m (setting s) = setting_made m s
called m (mms f) = (inspect_mms m f).monitor
called m (goose f) = (inspect_goose m f).monitor
called m (sv f) = (inspect_sv m f).monitor
called m (raw_sv octets time) = (inspect_raw_sv m octets time).monitor
called m reset = reset_monitor m

-- and after a list of them
abbrev pub after_calls : Monitor → List Call → Monitor
after_calls m calls = foldl called m calls
