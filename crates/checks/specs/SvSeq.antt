-- SV streams (01, "Remembered tables": keyed by svID, last count c).
use Rattle.std.specs.Prelude.{ℕ, ◌-◌, Bool, cond, List, [], ◌∷◌, eqb, ltb, leb}
use Rattle.std.proofs.Math.Option.{Option, none, some}
use Rattle.tables.specs.Named.{named}
use Rattle.tables.specs.Table.{Columns, value_of, stepped}
use Rattle.tables.specs.WordTable.{one_number, word_table}
use Rattle.checks.specs.declared.sv_seq.SvSeqOutcome.{SvSeqOutcome}
use Rattle.checks.specs.declared.sv_seq.SvSeqOutcome.TheVariants.{FirstSeen, Replay, ForwardGap, CycleWrap, SuspiciousSmpGap}

-- the streams as a table by svID: of each its last count
abbrev pub sv_streams : Columns (List ℕ) (List ℕ) ℕ
sv_streams = word_table named one_number

-- forward f across the wrap: wrap if f is at most 256, else suspicious f
abbrev pub across_wrap : ℕ → SvSeqOutcome
across_wrap f = cond (leb f 256) CycleWrap (SuspiciousSmpGap f)

-- n = c replay; n above c gap n − c; n below c by 32766 or less replay; by more, forward f = 65536 − (c − n)
unfoldable pub count_outcome : ℕ → ℕ → SvSeqOutcome
count_outcome c n =
    cond (eqb n c) Replay
    (cond (ltb c n) (ForwardGap (n - c))
    (cond (leb (c - n) 32766) Replay (across_wrap (65536 - (c - n)))))

-- a stream of which nothing is known is first seen
abbrev pub sv_outcome : Option ℕ → ℕ → SvSeqOutcome
sv_outcome none n = FirstSeen
sv_outcome (some c) n = count_outcome c n

-- the outcomes in 01's order
abbrev pub outcome_number : SvSeqOutcome → ℕ
outcome_number FirstSeen = 0
outcome_number Replay = 1
outcome_number (ForwardGap gap) = 2
outcome_number CycleWrap = 3
outcome_number (SuspiciousSmpGap gap) = 4

-- and the gap
abbrev pub outcome_gap : SvSeqOutcome → ℕ
outcome_gap FirstSeen = 0
outcome_gap Replay = 0
outcome_gap (ForwardGap gap) = gap
outcome_gap CycleWrap = 0
outcome_gap (SuspiciousSmpGap gap) = gap

-- the outcome as a row: its number and its gap
abbrev pub outcome_row : SvSeqOutcome → List ℕ
outcome_row o = outcome_number o ∷ outcome_gap o ∷ []

-- whether an outcome is replay
unfoldable pub is_replay : SvSeqOutcome → Bool
is_replay o = eqb (outcome_number o) (outcome_number Replay)

-- a replay stores nothing but use
abbrev pub count_or : Bool → ℕ → ℕ → ℕ
count_or replay c n = cond replay c n

abbrev pub kept_count : ℕ → ℕ → ℕ
kept_count c n = count_or (is_replay (count_outcome c n)) c n

-- the streams after a frame, and what its count says
pub record SvChecked : Type 0 where
  pub table : List ℕ
  pub outcome : SvSeqOutcome

unfoldable pub sv_checked : List ℕ → List ℕ → ℕ → SvChecked
sv_checked t svid n = record { table = stepped sv_streams (λ i. i) kept_count t svid n; outcome = sv_outcome (value_of sv_streams t svid) n }
