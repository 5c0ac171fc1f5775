-- `count_frame_on` meets its contract.
use Prim.Native.Nat.{ℕ, ◌+◌}
use mathlib.Core.Path.{refl, sym, ap, ◌∙◌}
use lib.ListN.{set}
use Rattle.records.specs.Counter.{saturated}
use Rattle.monitor.specs.Monitor.{monitor_of}
use Rattle.monitor.specs.Totals.{frame_counted}
use Rattle.monitor.proofs.PartLaws.{part_word, total_back}
use Rattle.monitor.proofs.totals.count_frame_on.Goals as goal

pub returns : goal.returns
unfolding monitor_of frame_counted
returns c =
    let l = c.args.m.now in
    let e = c.saturating_increment.ensures ∙ ap saturated (sym (part_word l 10 5 c.args.place c.requires)) in
    ap (λ (v : ℕ). monitor_of (set l (10 + c.args.place) v)) e ∙ total_back l refl c.args.place _ c.requires
