-- Counters (01, "Alert and result": the totals saturate; alert numbers wrap in 64 bits).
use Rattle.std.specs.Prelude.{ℕ, ◌+◌, ◌-◌, ◌%◌, ◌^◌, min}

-- a total after one more
abbrev pub saturated : ℕ → ℕ
saturated x = min (x + 1) (2 ^ 64 - 1)

-- an alert number after one more
abbrev pub wrapped : ℕ → ℕ
wrapped x = (x + 1) % 2 ^ 64
