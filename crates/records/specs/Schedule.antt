-- The retransmission schedule (01, "Remembered tables", GOOSE stream).
use Rattle.std.specs.Prelude.{ℕ, ◌+◌, ◌-◌, ◌*◌, ◌/◌, ◌^◌, min, Bool, nat_le}
use Rattle.records.specs.declared.schedule.RetxSchedule.{RetxSchedule}

-- 4000 µs to 1,000,000, tolerance 25
abbrev pub default_schedule : RetxSchedule
default_schedule = record { initial_us = 4000; t_max_us = 1000000; tolerance_pct = 25 }

-- initial × 2^n, n taken as 31 at most, and never above the schedule's maximum
unfoldable pub expected_interval : RetxSchedule → ℕ → ℕ
expected_interval s n = min (s.initial_us * 2 ^ min n 31) s.t_max_us

-- how far apart two numbers are
abbrev pub distance : ℕ → ℕ → ℕ
distance a b = (a - b) + (b - a)

-- missed by a value more than interval × percent div 100 away on either side
unfoldable pub within_tolerance : RetxSchedule → ℕ → ℕ → Bool
within_tolerance s observed expected = nat_le (distance observed expected) (expected * s.tolerance_pct / 100)
