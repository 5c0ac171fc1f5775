-- Laws of the use of a control block or data set: without a name, and without reservations, it changes nothing.
use Prim.Native.Nat.{ℕ}
use mathlib.Core.Bool.{true, false}
use mathlib.Core.List.{List}
use mathlib.Core.Path.{◌≡◌, refl, sym, ap}
use lib.Dec.{eqb}
use lib.ListN.{get_or}
use Rattle.records.proofs.Booleans.{cond_holds}
use Rattle.records.specs.Name.{name_of}
use Rattle.tables.specs.Key.{key_of}
use Rattle.tables.specs.Named.{named}
use Rattle.tables.specs.Order.{all_free}
use Rattle.tables.proofs.PlaceLaws.{none_found_lem}
use Rattle.checks.specs.Reservation.{CbChecked, bound_by, cb_checked}
use Rattle.monitor.specs.Monitor.{Monitor, with_cb_reservations}
use Rattle.monitor.specs.Parts.{after, cb_on}

-- a check that leaves the reservations leaves the monitor
left : (m : Monitor) (key : List ℕ) (address : ℕ) → cb_checked m.cb_reservations key address ≡ record { table = m.cb_reservations; hijack = false }
    → record { monitor = m; answer = false } ≡ cb_on m key address
unfolding cb_on
left m key address e = sym (ap (after (with_cb_reservations m) (λ (c : CbChecked). c.table) (λ (c : CbChecked). c.hijack)) e)

pub unnamed_passed : (m : Monitor) (number : ℕ) (octets : List ℕ) (len address : ℕ) → len ≡ 0
    → cb_on m (key_of number (name_of octets len)) address ≡ record { monitor = m; answer = false }
unfolding cb_checked key_of
unnamed_passed m number octets len address h = rw h (sym (left m (key_of number (name_of octets 0)) address refl))

pub unreserved_passed : (m : Monitor) (key : List ℕ) (address : ℕ) → all_free m.cb_reservations ≡ true
    → record { monitor = m; answer = false } ≡ cb_on m key address
unfolding cb_checked
unreserved_passed m key address h =
    left m key address
    (cond_holds (λ (c : CbChecked). c ≡ record { table = m.cb_reservations; hijack = false }) (eqb (get_or key 1 0) 0) refl
    (ap (bound_by m.cb_reservations address) (none_found_lem named m.cb_reservations key h)))
