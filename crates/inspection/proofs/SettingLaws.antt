-- Set and add calls leave what is remembered, the reservations, the totals and the sizes.
use Prim.Native.Nat.{ℕ}
use mathlib.Core.Bool.{Bool}
use mathlib.Core.List.{List, [], ◌∷◌, foldl}
use mathlib.Core.Path.{◌≡◌, refl, ap, ◌∙◌}
use lib.ListN.{get_or, length-set}
use Rattle.monitor.specs.Monitor.{Monitor}
use Rattle.monitor.specs.Parts.{mms_added_on, goose_added_on, sv_added_on}
use Rattle.monitor.specs.Reset.{new_monitor}
use Rattle.monitor.specs.Settings.{set_mms_service_mask, set_mms_read_only, set_block_test_frames, set_sv_max_smp_cnt_gap, set_retx_schedule, set_time_max_forward_jump}
use Rattle.inspection.specs.Address.{address_of}
use Rattle.inspection.specs.Calls.{Setting, service_mask, read_only, new_mms_rule, new_goose_publisher, new_sv_publisher, block_test, max_smp_cnt_gap}
use Rattle.inspection.specs.Calls.{schedule, max_forward_jump, setting_made, configured_monitor}
use Rattle.inspection.proofs.SizeLaws.{sizes, mms_added_long, goose_added_long, sv_added_long}

-- what they leave
abbrev left : Monitor → List (List ℕ)
left m = m.totals ∷ m.rate_buckets ∷ m.goose_seq ∷ m.sv_seq ∷ m.time_trackers ∷ m.cb_reservations ∷ sizes m ∷ []

setting_left : (m : Monitor) (s : Setting) → left (setting_made m s) ≡ left m
unfolding set_mms_service_mask set_mms_read_only set_block_test_frames set_sv_max_smp_cnt_gap set_retx_schedule set_time_max_forward_jump
    mms_added_on goose_added_on sv_added_on
setting_left m (service_mask mask) = simp length-set refl
setting_left m (read_only on) = simp length-set refl
setting_left m (new_mms_rule mask on rate) = rw (mms_added_long m.mms_rules mask on rate)
setting_left m (new_goose_publisher mac name) = rw (goose_added_long m.goose_publishers (address_of mac) name)
setting_left m (new_sv_publisher mac svid rate) = rw (sv_added_long m.sv_publishers (address_of mac) svid rate)
setting_left m (block_test block) = simp length-set refl
setting_left m (max_smp_cnt_gap gap) = simp length-set refl
setting_left m (schedule s enforce) = simp length-set refl
setting_left m (max_forward_jump seconds) = simp length-set refl

-- the same buckets, streams, clocks, reservations, totals and sizes
pub record Untouched (m m' : Monitor) : Type 0 where
  pub totals : m'.totals ≡ m.totals
  pub buckets : m'.rate_buckets ≡ m.rate_buckets
  pub goose : m'.goose_seq ≡ m.goose_seq
  pub sv : m'.sv_seq ≡ m.sv_seq
  pub clocks : m'.time_trackers ≡ m.time_trackers
  pub reservations : m'.cb_reservations ≡ m.cb_reservations
  pub sizes : sizes m' ≡ sizes m

untouched : {m m' : Monitor} → left m' ≡ left m → Untouched m m'
untouched {m} {m'} e = record {
  totals = same 0;
  buckets = same 1;
  goose = same 2;
  sv = same 3;
  clocks = same 4;
  reservations = same 5;
  sizes = same 6;
}
  where
    same : (k : ℕ) → get_or (left m') k [] ≡ get_or (left m) k []
    same k = ap (λ (l : List (List ℕ)). get_or l k []) e

pub setting_untouched : (m : Monitor) (s : Setting) → Untouched m (setting_made m s)
setting_untouched m s = untouched (setting_left m s)

settings_left : (m : Monitor) (settings : List Setting) → left (foldl setting_made m settings) ≡ left m
settings_left m [] = refl
settings_left m (s ∷ settings) = settings_left (setting_made m s) settings ∙ setting_left m s

-- a new monitor with its settings made remembers nothing
pub configured_untouched : (strict : Bool) (settings : List Setting) → Untouched (new_monitor strict) (configured_monitor strict settings)
configured_untouched strict settings = untouched (settings_left (new_monitor strict) settings)
