-- Settings (01, "Rules"): what the set calls store, and reset keeps. Ten words: strict mode, test blocking, MMS mask, MMS read-only, the schedule's
-- initial interval, longest interval and tolerance, its enforcement, jump limit and gap limit.
use Rattle.std.specs.Prelude.{ℕ, min, ◌-◌, ◌^◌, Bool, not, List, [], ◌∷◌, eqb, get_or, set}
use Rattle.records.specs.declared.schedule.RetxSchedule.{RetxSchedule}
use Rattle.records.specs.Schedule.{default_schedule}
use Rattle.checks.specs.Keys.{flag_word}
use Rattle.monitor.specs.Monitor.{Monitor, with_settings}

-- nothing limited and nothing blocked; a schedule that is not enforced
abbrev pub new_settings : Bool → List ℕ
new_settings strict =
    flag_word strict ∷ 0 ∷ 0 ∷ 0 ∷ default_schedule.initial_us ∷ default_schedule.t_max_us ∷ default_schedule.tolerance_pct ∷ 0 ∷ 0 ∷ 0 ∷ []

-- settings with one of them set
module _ (s : List ℕ) where
  abbrev pub with_block_test : Bool → List ℕ
  with_block_test block = set s 1 (flag_word block)

  abbrev pub with_service_mask : ℕ → List ℕ
  with_service_mask mask = set s 2 mask

  abbrev pub with_read_only : Bool → List ℕ
  with_read_only read_only = set s 3 (flag_word read_only)

  abbrev pub with_schedule : RetxSchedule → Bool → List ℕ
  with_schedule schedule enforce =
      set (set (set (set s 4 schedule.initial_us) 5 schedule.t_max_us) 6 schedule.tolerance_pct) 7 (flag_word enforce)

  abbrev pub with_max_jump : ℕ → List ℕ
  with_max_jump seconds = set s 8 seconds

  abbrev pub with_max_gap : ℕ → List ℕ
  with_max_gap gap = set s 9 gap

-- the set calls
module _ (m : Monitor) where
  unfoldable pub set_mms_service_mask : ℕ → Monitor
  set_mms_service_mask mask = with_settings m (with_service_mask m.settings mask)

  unfoldable pub set_mms_read_only : Bool → Monitor
  set_mms_read_only read_only = with_settings m (with_read_only m.settings read_only)

  unfoldable pub set_block_test_frames : Bool → Monitor
  set_block_test_frames block = with_settings m (with_block_test m.settings block)

  unfoldable pub set_sv_max_smp_cnt_gap : ℕ → Monitor
  set_sv_max_smp_cnt_gap gap = with_settings m (with_max_gap m.settings gap)

  unfoldable pub set_retx_schedule : RetxSchedule → Bool → Monitor
  set_retx_schedule schedule enforce = with_settings m (with_schedule m.settings schedule enforce)

  unfoldable pub set_time_max_forward_jump : ℕ → Monitor
  set_time_max_forward_jump seconds = with_settings m (with_max_jump m.settings seconds)

-- any setting set
unfoldable pub setting_set : Monitor → ℕ → ℕ → Monitor
setting_set m place v = with_settings m (set m.settings place v)

-- what the settings say
module _ (m : Monitor) where
  abbrev pub setting : ℕ → ℕ
  setting place = get_or m.settings place 0

  -- a flag is set where its word is not 0
  abbrev pub setting_flag : ℕ → Bool
  setting_flag place = not (eqb (setting place) 0)

  abbrev pub strict_mode : Bool
  strict_mode = setting_flag 0

  abbrev pub block_test_frames : Bool
  block_test_frames = setting_flag 1

  abbrev pub mms_service_mask : ℕ
  mms_service_mask = setting 2

  abbrev pub mms_read_only : Bool
  mms_read_only = setting_flag 3

  -- a number is the most that its type holds where its word has more
  abbrev pub retx_schedule : RetxSchedule
  retx_schedule = record {
    initial_us = min (setting 4) (2 ^ 32 - 1);
    t_max_us = min (setting 5) (2 ^ 32 - 1);
    tolerance_pct = min (setting 6) 255;
  }

  abbrev pub retx_enforce : Bool
  retx_enforce = setting_flag 7

  abbrev pub time_max_forward_jump : ℕ
  time_max_forward_jump = min (setting 8) (2 ^ 32 - 1)

  abbrev pub sv_max_smp_cnt_gap : ℕ
  sv_max_smp_cnt_gap = setting 9
