-- A reset monitor is a new one with its set calls made: a reset keeps the settings, and only set calls write them.
use Prim.Native.Nat.{ℕ}
use mathlib.Core.Bool.{Bool}
use mathlib.Core.List.{List, [], ◌∷◌, ◌++◌, foldl, foldl-append}
use mathlib.Core.Path.{◌≡◌, refl, sym, ap, ◌∙◌}
use Rattle.monitor.specs.Monitor.{Monitor}
use Rattle.monitor.specs.Parts.{mms_added_on, goose_added_on, sv_added_on}
use Rattle.monitor.specs.Reset.{fresh_with, new_monitor, reset_monitor}
use Rattle.monitor.specs.Settings.{with_block_test, with_service_mask, with_read_only, with_schedule, with_max_jump, with_max_gap}
use Rattle.monitor.specs.Settings.{set_mms_service_mask, set_mms_read_only, set_block_test_frames, set_sv_max_smp_cnt_gap, set_retx_schedule, set_time_max_forward_jump}
use Rattle.inspection.specs.Calls.{Setting, service_mask, read_only, new_mms_rule, new_goose_publisher, new_sv_publisher, block_test, max_smp_cnt_gap, schedule}
use Rattle.inspection.specs.Calls.{max_forward_jump, Call, setting, mms, goose, sv, raw_sv, reset, setting_made, configured_monitor, called, after_calls}
use Rattle.inspection.proofs.CallLaws.{mms_inspects, goose_inspects, sv_inspects, raw_inspects}

-- the set calls among calls
abbrev pub if_set : Setting → List Setting
if_set (service_mask mask) = service_mask mask ∷ []
if_set (read_only on) = read_only on ∷ []
if_set (new_mms_rule mask on rate) = []
if_set (new_goose_publisher mac name) = []
if_set (new_sv_publisher mac svid rate) = []
if_set (block_test block) = block_test block ∷ []
if_set (max_smp_cnt_gap gap) = max_smp_cnt_gap gap ∷ []
if_set (schedule s enforce) = schedule s enforce ∷ []
if_set (max_forward_jump seconds) = max_forward_jump seconds ∷ []

abbrev pub set_of : Call → List Setting
set_of (setting s) = if_set s
set_of (mms f) = []
set_of (goose f) = []
set_of (sv f) = []
set_of (raw_sv octets time) = []
set_of reset = []

abbrev pub set_calls : List Call → List Setting
set_calls [] = []
set_calls (c ∷ calls) = set_of c ++ set_calls calls

module _ (m : Monitor) (s : List ℕ) (e : m.settings ≡ s) where
  -- a new monitor with the settings after a call
  set_kept : (x : Setting) → fresh_with (setting_made m x).settings ≡ foldl setting_made (fresh_with s) (if_set x)
  unfolding set_mms_service_mask set_mms_read_only set_block_test_frames set_sv_max_smp_cnt_gap set_retx_schedule set_time_max_forward_jump
      mms_added_on goose_added_on sv_added_on
  set_kept (service_mask mask) = ap (λ (z : List ℕ). fresh_with (with_service_mask z mask)) e
  set_kept (read_only on) = ap (λ (z : List ℕ). fresh_with (with_read_only z on)) e
  set_kept (new_mms_rule mask on rate) = ap fresh_with e
  set_kept (new_goose_publisher mac name) = ap fresh_with e
  set_kept (new_sv_publisher mac svid rate) = ap fresh_with e
  set_kept (block_test block) = ap (λ (z : List ℕ). fresh_with (with_block_test z block)) e
  set_kept (max_smp_cnt_gap gap) = ap (λ (z : List ℕ). fresh_with (with_max_gap z gap)) e
  set_kept (schedule c enforce) = ap (λ (z : List ℕ). fresh_with (with_schedule z c enforce)) e
  set_kept (max_forward_jump seconds) = ap (λ (z : List ℕ). fresh_with (with_max_jump z seconds)) e

  call_kept : (c : Call) → fresh_with (called m c).settings ≡ foldl setting_made (fresh_with s) (set_of c)
  unfolding reset_monitor
  call_kept (setting x) = set_kept x
  call_kept (mms f) = ap fresh_with ((mms_inspects m f).same.settings ∙ e)
  call_kept (goose f) = ap fresh_with ((goose_inspects m f).same.settings ∙ e)
  call_kept (sv f) = ap fresh_with ((sv_inspects m f).same.settings ∙ e)
  call_kept (raw_sv octets time) = ap fresh_with ((raw_inspects m octets time).same.settings ∙ e)
  call_kept reset = ap fresh_with e

calls_kept : (m : Monitor) (calls : List Call) → fresh_with (after_calls m calls).settings ≡ foldl setting_made (fresh_with m.settings) (set_calls calls)
calls_kept m [] = refl
calls_kept m (c ∷ calls) =
    calls_kept (called m c) calls
    ∙ ap (λ (z : Monitor). foldl setting_made z (set_calls calls)) (call_kept m m.settings refl c)
    ∙ sym (foldl-append setting_made (fresh_with m.settings) (set_of c) (set_calls calls))

pub reset_configured : (strict : Bool) (calls : List Call) → reset_monitor (after_calls (new_monitor strict) calls)
    ≡ configured_monitor strict (set_calls calls)
unfolding reset_monitor
reset_configured strict calls = calls_kept (new_monitor strict) calls

-- and with settings made after the reset
pub reset_set : (strict : Bool) (calls : List Call) (settings : List Setting)
    → foldl setting_made (reset_monitor (after_calls (new_monitor strict) calls)) settings ≡ configured_monitor strict (set_calls calls ++ settings)
reset_set strict calls settings =
    ap (λ (m : Monitor). foldl setting_made m settings) (reset_configured strict calls)
    ∙ sym (foldl-append setting_made (new_monitor strict) (set_calls calls) settings)
