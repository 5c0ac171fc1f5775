-- GOOSE streams (01, "Remembered tables": keyed by address and FNV-1a of the name).
use Rattle.std.specs.Prelude.{ℕ, min, ◌-◌, ◌^◌, Bool, false, ◌&&◌, ◌||◌, not, cond, List, eqb, ltb, leb}
use Rattle.std.proofs.Math.Option.{Option, none, some}
use Rattle.records.specs.declared.schedule.RetxSchedule.{RetxSchedule}
use Rattle.records.specs.Schedule.{expected_interval, within_tolerance}
use Rattle.checks.specs.declared.goose_seq.StreamNumbers.{StreamNumbers}
use Rattle.tables.specs.Column.{word_of}
use Rattle.tables.specs.Named.{named}
use Rattle.tables.specs.Table.{Columns, value_of, stepped}
use Rattle.tables.specs.WordTable.{three_numbers, word_table}

-- the streams as a table by key: of each its last stored frame's numbers, stNum and sqNum, and its time
abbrev pub goose_streams : Columns (List ℕ) (List ℕ) ((ℕ × ℕ) × ℕ)
goose_streams = word_table named three_numbers

-- a stream's numbers and time
abbrev pub numbers_of : StreamNumbers ℕ → (ℕ × ℕ) × ℕ
numbers_of n = ((n.st_num, n.sq_num), n.timestamp_us)

-- those of a slot
abbrev pub numbers_at : List ℕ → ℕ → (ℕ × ℕ) × ℕ
numbers_at t slot = ((word_of t 162 slot, word_of t 178 slot), word_of t 194 slot)

-- lower stNum, or equal stNum with sqNum not above the last, is replay
unfoldable pub replays : ℕ × ℕ → ℕ × ℕ → Bool
replays last numbers = ltb numbers.0 last.0 || (eqb numbers.0 last.0 && leb numbers.1 last.1)

-- the first frame of a stream is no replay
abbrev pub goose_replay : Option ((ℕ × ℕ) × ℕ) → ℕ × ℕ → Bool
goose_replay none numbers = false
goose_replay (some last) numbers = replays last.0 numbers

-- what a replay leaves, and any other frame replaces
abbrev pub kept_numbers : (ℕ × ℕ) × ℕ → (ℕ × ℕ) × ℕ → (ℕ × ℕ) × ℕ
kept_numbers last new = cond (replays last.0 new.0) last new

-- the streams after a frame, and whether it is a replay
pub record GooseChecked : Type 0 where
  pub table : List ℕ
  pub replay : Bool

unfoldable pub goose_checked : List ℕ → List ℕ → (ℕ × ℕ) × ℕ → GooseChecked
goose_checked t key new =
    record { table = stepped goose_streams (λ i. i) kept_numbers t key new; replay = goose_replay (value_of goose_streams t key) new.0 }

-- equal stNum, higher sqNum and no earlier time: outside tolerance when the distance in µs from the last stored frame, cut to
-- 4,294,967,295 if larger, misses the interval for its sqNum
unfoldable pub outside_tolerance : RetxSchedule → (ℕ × ℕ) × ℕ → (ℕ × ℕ) × ℕ → Bool
outside_tolerance schedule last new =
    eqb new.0.0 last.0.0 && ltb last.0.1 new.0.1 && leb last.1 new.1
    && not (within_tolerance schedule (min (new.1 - last.1) (2 ^ 32 - 1)) (expected_interval schedule new.0.1))

-- asked only with enforcement on: a frame of a known stream
abbrev pub retransmission : RetxSchedule → Option ((ℕ × ℕ) × ℕ) → (ℕ × ℕ) × ℕ → Bool
retransmission schedule none new = false
retransmission schedule (some last) new = outside_tolerance schedule last new

-- whether a frame misses the schedule, by what the table has of its key; nothing is aged
unfoldable pub retx_checked : RetxSchedule → List ℕ → List ℕ → (ℕ × ℕ) × ℕ → Bool
retx_checked schedule t key new = retransmission schedule (value_of goose_streams t key) new
