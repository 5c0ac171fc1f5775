-- Laws of reset: a part that is made as new.
use Prim.Native.Nat.{ℕ, ◌<◌}
use mathlib.Core.Bool.{Bool, false}
use mathlib.Core.List.{List}
use mathlib.Core.Path.{◌≡◌, ap, ◌∙◌}
use borrow.Rule.Slice.PartMut.{put_mid}
use lib.ListN.{length}
use Rattle.records.specs.declared.schedule.RetxSchedule.{RetxSchedule}
use Rattle.records.specs.Octets.{tabulate}
use Rattle.records.specs.Schedule.{default_schedule}
use Rattle.tables.specs.Column.{zero_words}
use Rattle.checks.specs.Keys.{flag_word}
use Rattle.monitor.specs.Monitor.{Monitor, monitor_of, with_part, with_settings}
use Rattle.monitor.specs.Reset.{new_monitor, reset_monitor}
use Rattle.monitor.specs.Settings.{setting_set, set_retx_schedule}
use Rattle.monitor.proofs.PartLaws.{size_of, first_of, part_back}

-- part k made as new, in a monitor that has come so far
pub part_new : (k : ℕ) (new l : List ℕ) {l' : List ℕ} {m : Monitor} → k < 10 → length new ≡ size_of k
    → (length l ≡ 1148) × (l' ≡ put_mid (first_of k) (size_of k) l new) → monitor_of l ≡ m → monitor_of l' ≡ with_part k m new
part_new k new l h y e m = ap monitor_of e.1 ∙ part_back l new e.0 k h y ∙ ap (λ (x : Monitor). with_part k x new) m

-- the settings of a new monitor stored, then all else reset
pub made_new :
    (strict : Bool) (m : Monitor) {zero flagged scheduled new : Monitor} {flag : ℕ} {schedule : RetxSchedule}
    → zero ≡ with_settings m (zero_words 10) → flag ≡ flag_word strict → flagged ≡ setting_set zero 0 flag
    → schedule ≡ default_schedule → scheduled ≡ set_retx_schedule flagged schedule false → new ≡ reset_monitor scheduled → new ≡ new_monitor strict
unfolding setting_set set_retx_schedule reset_monitor zero_words tabulate
made_new strict m z f g d s n =
    n ∙ ap reset_monitor (s ∙ λ i. set_retx_schedule ((g ∙ λ j. setting_set (z j) 0 (f j)) i) (d i) false)
