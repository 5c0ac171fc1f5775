-- Clocks (01, "Remembered tables": keyed by address, shared by GOOSE and SV).
use Rattle.std.specs.Prelude.{ℕ, ◌-◌, Bool, false, ◌&&◌, ◌||◌, not, cond, List, eqb, ltb}
use Rattle.std.proofs.Math.Option.{Option, none, some}
use Rattle.tables.specs.Numbered.{numbered}
use Rattle.checks.specs.declared.time_field.ClockPair.{ClockPair}
use Rattle.tables.specs.Table.{Columns, value_of, stepped}
use Rattle.tables.specs.WordTable.{two_numbers, word_table}

-- the clocks as a table by address: of each its last pair, seconds and fraction
abbrev pub clocks : Columns (List ℕ) ℕ (ℕ × ℕ)
clocks = word_table numbered two_numbers

-- a clock's pair as one of numbers
abbrev pub pair_of : ClockPair ℕ → ℕ × ℕ
pair_of pair = (pair.seconds, pair.fraction)

-- the pair (0, 0) is neither checked nor kept
unfoldable pub has_clock : ℕ × ℕ → Bool
has_clock pair = not (eqb pair.0 0 && eqb pair.1 0)

-- earlier than the kept pair
unfoldable pub earlier : ℕ × ℕ → ℕ × ℕ → Bool
earlier pair kept = ltb pair.0 kept.0 || (eqb pair.0 kept.0 && ltb pair.1 kept.1)

-- a pair alerts that is earlier than the kept one, or further ahead in seconds than a nonzero limit
abbrev pub clock_alert : ℕ → Option (ℕ × ℕ) → ℕ × ℕ → Bool
clock_alert limit none pair = false
clock_alert limit (some kept) pair = earlier pair kept || (ltb 0 limit && ltb limit (pair.0 - kept.0))

-- the clocks after a frame, and whether its pair alerts; either way the new pair is kept
pub record TimeChecked : Type 0 where
  pub table : List ℕ
  pub alert : Bool

unfoldable pub time_checked : List ℕ → ℕ → ℕ → ℕ × ℕ → TimeChecked
time_checked t limit address pair =
    cond (has_clock pair)
    (record {
      table = stepped clocks (λ i. i) (λ kept i. i) t address pair;
      alert = clock_alert limit (value_of clocks t address) pair;
    })
    (record { table = t; alert = false })
