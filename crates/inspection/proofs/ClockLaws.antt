-- Laws of the time of a frame: one without a time changes nothing, and one with a time is checked by the monitor's limit.
use Prim.Native.Nat.{ℕ}
use mathlib.Core.Bool.{Bool, false}
use mathlib.Core.Path.{◌≡◌, sym, ap, ◌∙◌}
use Rattle.records.proofs.Booleans.{cond_no}
use Rattle.checks.specs.TimeField.{TimeChecked, has_clock, time_checked}
use Rattle.monitor.specs.Monitor.{Monitor, with_time_trackers}
use Rattle.monitor.specs.Parts.{After, after, time_field_on}
use Rattle.monitor.specs.Settings.{time_max_forward_jump}

module _ (m : Monitor) (address : ℕ) (pair : ℕ × ℕ) where
  pub without_time : has_clock pair ≡ false → record { monitor = m; answer = false } ≡ time_field_on m (time_max_forward_jump m) address pair
  unfolding time_field_on time_checked
  without_time h = sym (ap (after (with_time_trackers m) (λ (c : TimeChecked). c.table) (λ (c : TimeChecked). c.alert)) (cond_no _ _ h))

  pub by_limit : {limit : ℕ} {r : After Bool} → limit ≡ time_max_forward_jump m → r ≡ time_field_on m limit address pair
      → r ≡ time_field_on m (time_max_forward_jump m) address pair
  by_limit l e = e ∙ ap (λ (limit : ℕ). time_field_on m limit address pair) l
