-- The three tables of a monitor that demand 3 speaks of. A new monitor with its settings made has no entry in them, and no reservation.
use Prim.Native.Nat.{ℕ}
use mathlib.Core.Bool.{Bool}
use mathlib.Core.List.{List}
use mathlib.Core.Path.{◌≡◌}
use Rattle.tables.specs.Order.{no_entries}
use Rattle.monitor.specs.Monitor.{Monitor}
use Rattle.inspection.specs.Calls.{Setting, configured_monitor}
use Rattle.inspection.proofs.SettingLaws.{configured_untouched}

-- what the inspections read and write of a monitor
pub record Remembering : Type 0 where
  pub sv_seq : List ℕ
  pub goose_seq : List ℕ
  pub time_trackers : List ℕ

abbrev pub remembering : Monitor → Remembering
remembering m = record { sv_seq = m.sv_seq; goose_seq = m.goose_seq; time_trackers = m.time_trackers }

abbrev pub new_remembering : Remembering
new_remembering = record { sv_seq = no_entries 178; goose_seq = no_entries 210; time_trackers = no_entries 50 }

module _ (strict : Bool) (settings : List Setting) where
  pub configured_tables : remembering (configured_monitor strict settings) ≡ new_remembering
  configured_tables = let u = configured_untouched strict settings in λ i. record { sv_seq = u.sv i; goose_seq = u.goose i; time_trackers = u.clocks i }

  pub configured_free : (configured_monitor strict settings).cb_reservations ≡ no_entries 210
  configured_free = (configured_untouched strict settings).reservations
