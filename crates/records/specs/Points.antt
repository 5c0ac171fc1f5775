-- The starred reference points of 01 that live in this crate. A row is what is computed and what it must be; the table of all
-- crates, with its one lemma, stands in the crate above.
use Rattle.std.specs.Prelude.{◌≡◌, ℕ, Bool, true, false, List, [], ◌∷◌}
use Rattle.records.specs.declared.bucket.RateBucket.{RateBucket}
use Rattle.records.specs.Schedule.{default_schedule, expected_interval}
use Rattle.records.specs.Hash.{fnv1a}
use Rattle.records.specs.Bucket.{next_call}

-- what is computed, and what it must be
pub record Point : Type 0 where
  pub computed : List ℕ
  pub expected : List ℕ

-- a row of one number
abbrev pub number : ℕ → ℕ → Point
number computed expected = record { computed = computed ∷ []; expected = expected ∷ [] }

-- allowed as 1, refused as 0
abbrev pub flag : Bool → ℕ
flag true = 1
flag false = 0

-- every row of a table holds
abbrev pub Hold : List Point → Type 0
Hold [] = Unit {0}
Hold (p ∷ rest) = (p.computed ≡ p.expected) × Hold rest

-- a bucket of 10, empty, refilled at 0
abbrev empty_ten : RateBucket
empty_ten = record { tokens = 0; capacity = 10; last_refill_us = 0 }

-- the starred points of this crate
abbrev pub records_points : List Point
records_points =
    number (fnv1a []) 0x811C9DC5
    ∷ number (fnv1a (0x61 ∷ [])) 0xE40C292C
    ∷ number (expected_interval default_schedule 7) 512000
    ∷ number (expected_interval default_schedule 8) 1000000
    ∷ number (expected_interval default_schedule 32) 1000000
    ∷ number (flag (next_call empty_ten 99999).allowed) 0
    ∷ number (flag (next_call empty_ten 100000).allowed) 1
    ∷ []
