-- Laws of clocks: the check carried out on the words of the table.
use Prim.Native.Nat.{ℕ, ◌-◌}
use mathlib.Core.Bool.{Bool, true, false, ◌&&◌, ◌||◌}
use mathlib.Core.List.{List}
use mathlib.Core.Option.{Option, none, some}
use mathlib.Core.Path.{◌≡◌, refl, sym, ap, ◌∙◌}
use native.Mathlib.Omega.{arith}
use borrow.Author.Tests.{le-ltb, eq-eqb}
use lib.Dec.{ltb}
use Rattle.records.proofs.Booleans.{cond_yes, cond_no}
use Rattle.records.specs.Remembered.{after}
use Rattle.tables.proofs.WordTables.{two_laws, numbered_laws, value_read, value_stored}
use Rattle.tables.specs.declared.place.Place.{Place}
use Rattle.tables.specs.Column.{word_of, word_set}
use Rattle.tables.specs.Numbered.{numbered}
use Rattle.tables.specs.Place.{entered, if_known}
use Rattle.tables.specs.Table.{value_of}
use Rattle.tables.specs.WordTable.{two_numbers}
use Rattle.checks.specs.TimeField.{clocks, has_clock, earlier, clock_alert, time_checked}

or-none : (a b : Bool) → b || (a && false) ≡ b
or-none true true = refl
or-none true false = refl
or-none false true = refl
or-none false false = refl

-- a clock is its last pair
pub latest : (pair : ℕ × ℕ) (o : Option (ℕ × ℕ)) → pair ≡ after (λ i. i) (λ kept i. i) o pair
latest pair none = refl
latest pair (some kept) = refl

-- a pair of the same second
pub alert_same : (limit : ℕ) (kept pair : ℕ × ℕ) → pair.0 ≡ kept.0 → ltb pair.1 kept.1 ≡ clock_alert limit (some kept) pair
unfolding earlier
alert_same limit kept pair h =
    let d : ltb limit (pair.0 - kept.0) ≡ false = le-ltb limit (pair.0 - kept.0) (omega arith) in
    rw (le-ltb pair.0 kept.0 (omega arith), eq-eqb pair.0 kept.0 h, d) (sym (or-none (ltb 0 limit) (ltb pair.1 kept.1)))

module _ (t : List ℕ) (limit address : ℕ) (pair : ℕ × ℕ) where
  -- a pair of zeros
  pub time_skipped : has_clock pair ≡ false → record { table = t; alert = false } ≡ time_checked t limit address pair
  unfolding time_checked
  time_skipped e = sym (cond_no _ _ e)

  module _ {words first out : List ℕ} {place : Place} {kept : ℕ × ℕ} {alert : Bool} where
    pub time_checked_lem : has_clock pair ≡ true → record { table = words; place = place } ≡ entered numbered t address
        → kept ≡ (word_of words 18 place.slot, word_of words 34 place.slot)
        → first ≡ word_set words 18 place.slot pair.0 → out ≡ word_set first 34 place.slot pair.1
        → alert ≡ clock_alert limit (if_known place.known kept) pair → record { table = out; alert = alert } ≡ time_checked t limit address pair
    unfolding time_checked
    time_checked_lem h e s u o a =
        let v : if_known place.known kept ≡ value_of clocks t address =
        ap (if_known place.known) s ∙ value_read numbered numbered_laws two_numbers two_laws t address e in
        let p = value_stored numbered numbered_laws two_numbers two_laws t address e (λ i. i) (λ kept i. i) pair {w = pair}
        (latest pair (value_of clocks t address)) (o ∙ ap (λ (l : List ℕ). word_set l 34 place.slot pair.1) u) in
        let q = a ∙ ap (λ x. clock_alert limit x pair) v in
        (λ i. record { table = p i; alert = q i }) ∙ sym (cond_yes _ _ h)
