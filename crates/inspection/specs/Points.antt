-- The starred reference points of 01 about SV counts, and the table of those of all crates.
use Rattle.std.specs.Prelude.{ℕ, List, [], ◌∷◌, ◌++◌}
use Rattle.records.specs.Points.{Point, records_points}
use Rattle.wire.specs.Points.{wire_points}
use Rattle.checks.specs.SvSeq.{count_outcome, outcome_row}

-- a count and the next one as a row: the outcome's number and its gap
abbrev pub count_point : ℕ → ℕ → ℕ → ℕ → Point
count_point c n number gap = record { computed = outcome_row (count_outcome c n); expected = number ∷ gap ∷ [] }

-- the starred points of this crate: replay is 1, wrap 3, suspicious 4
abbrev pub count_points : List Point
count_points =
    count_point 40000 7234 1 0
    ∷ count_point 40000 7233 4 32769
    ∷ count_point 65535 255 3 0
    ∷ count_point 65535 256 4 257
    ∷ []

-- all starred points
abbrev pub starred_points : List Point
starred_points = records_points ++ wire_points ++ count_points
