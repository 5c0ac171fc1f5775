-- 01's wrapping age (01, "Remembered tables": a full table, buckets included, gives up the entry with the greatest wrapping age; of equal ages the
-- bucket table takes the last entry, the others the first), and the claim that the stored order of use gives up the same entry. No other
-- definition of this crate speaks of ticks.
use Rattle.std.specs.Prelude.{◌≡◌, ℕ, zero, suc, ◌+◌, ◌-◌, ◌%◌, ◌^◌, ◌<◌, ◌≤◌, Bool, true, false, cond, not, List, [], ◌∷◌, length, ◌==◌, nat_le, nat_lt}
use mathlib.Core.List.{foldl}
use Rattle.records.specs.Search.{first, slot_or}
use Rattle.records.specs.Remembered.{after}
use Rattle.tables.specs.Order.{new_slot, used_rank}
use Rattle.tables.specs.Table.{Columns, slot_of, value_of}

-- ---- ticks, as 01 has them

-- which slots are in use, the tick of each slot's last use, and the tick of the latest use
pub record Ticks : Type 0 where
  pub active : ℕ → Bool
  pub last_used : ℕ → ℕ
  pub tick : ℕ

-- ticks count the uses of a table, modulo 2^32
abbrev pub next_tick : ℕ → ℕ
next_tick tick = (tick + 1) % 2 ^ 32

-- the wrapping age of a slot
abbrev pub age_at : ℕ → ℕ → ℕ
age_at tick used = (tick + (2 ^ 32 - used)) % 2 ^ 32

-- a table without entries
abbrev pub no_ticks : Ticks
no_ticks = record { active = λ i. false; last_used = λ i. 0; tick = 0 }

-- a slot used, at the next tick
abbrev pub ticked : Ticks → ℕ → Ticks
ticked t slot =
    record {
      active = λ i. cond (i == slot) true (t.active i);
      last_used = λ i. cond (i == slot) (next_tick t.tick) (t.last_used i);
      tick = next_tick t.tick;
    }

-- which of equal ages goes: in the bucket table the last, in the others the first
pub data EqualAges : Type 0 where
  first_entry : EqualAges
  last_entry : EqualAges

-- whether a slot behind another goes in its place, by the ages of both
abbrev pub exceeds : EqualAges → ℕ → ℕ → Bool
exceeds first_entry front behind = nat_lt front behind
exceeds last_entry front behind = nat_le front behind

-- the slot of the greatest age among the first n
unfoldable pub oldest_of : EqualAges → (ℕ → ℕ) → ℕ → ℕ
oldest_of rule age zero = 0
oldest_of rule age (suc n) = cond (exceeds rule (age (oldest_of rule age n)) (age n)) n (oldest_of rule age n)

-- the slot that a new key takes, at the next tick: the first that is free, or that of the greatest age
unfoldable pub slot_by_age : EqualAges → Ticks → ℕ
slot_by_age rule t = slot_or (oldest_of rule (λ i. age_at (next_tick t.tick) (t.last_used i)) 16) (first (λ i. not (t.active i)))

-- a table and its ticks
module _ {T K W I : Type 0} (C : Columns T K W) (rule : EqualAges) (fresh : I → W) (step : W → I → W) where
  -- the slot that a frame of a key uses: the one that has the key, or the one that its age gives a new key
  abbrev pub target_by_age : T × Ticks → K → ℕ
  target_by_age s k = slot_or (slot_by_age rule s.1) (slot_of C s.0 k)

  -- after a frame, a key and its input, as `stepped` has it of the table alone (Table)
  abbrev pub stepped_by_age : T × Ticks → K × I → T × Ticks
  stepped_by_age s x = (
    C.store s.0 (target_by_age s x.0) x.0 (after fresh step (value_of C s.0 x.0) x.1),
    ticked s.1 (target_by_age s x.0),
  )

-- ---- the claim, over the uses of slots

-- each is one of the sixteen
abbrev pub AllSlots : List ℕ → Type 0
AllSlots [] = Unit {0}
AllSlots (s ∷ uses) = (s < 16) × AllSlots uses

-- the ranks that uses of slots, the earliest first, leave in a table without entries, and the ticks that they leave
abbrev pub ranks_after : List ℕ → ℕ → ℕ
ranks_after uses = foldl used_rank (λ i. 16) uses

abbrev pub ticks_after : List ℕ → Ticks
ticks_after uses = foldl ticked no_ticks uses

-- after up to 4,294,967,295 uses (request 9) a new key takes the slot that 01's ages give it
abbrev pub WrappingAge : Type 0
WrappingAge =
    (rule : EqualAges) (uses : List ℕ) → AllSlots uses → length uses ≤ 4294967295 → new_slot (ranks_after uses) ≡ slot_by_age rule (ticks_after uses)
