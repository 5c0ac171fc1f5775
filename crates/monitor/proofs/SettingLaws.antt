-- Laws of settings.
use Prim.Native.Nat.{ℕ}
use mathlib.Core.List.{List}
use mathlib.Core.Path.{◌≡◌, ap, ◌∙◌}
use lib.ListN.{set}
use Rattle.monitor.specs.Monitor.{Monitor, with_settings}
use Rattle.monitor.specs.Settings.{setting_set}

-- one more setting set
pub set_again : (m : Monitor) (place v : ℕ) {n o : Monitor} {s : List ℕ} → n ≡ with_settings m s → o ≡ setting_set n place v
    → o ≡ with_settings m (set s place v)
unfolding setting_set
set_again m place v p q = q ∙ ap (λ (x : Monitor). with_settings x (set x.settings place v)) p
