-- The remembered lists in the terms of the monitor's definitions: what the proof works with. Agreement has that they are the claim's.
use Prim.Native.Nat.{ℕ}
use mathlib.Core.Bool.{cond}
use mathlib.Core.List.{List, [], ◌∷◌, reverse}
use native.Mathlib.Decide.{ℕ_discrete}
use Rattle.records.specs.declared.frame.GooseFrame.{GooseFrame}
use Rattle.records.specs.Decide.{decide_pair, decide_list}
use Rattle.records.specs.Hash.{fnv1a}
use Rattle.records.specs.Remembered.{remembered}
use Rattle.checks.specs.GooseSeq.{replays}
use Rattle.checks.specs.SvSeq.{count_outcome, is_replay}
use Rattle.checks.specs.TimeField.{has_clock}
use Rattle.monitor.specs.Monitor.{Monitor}
use Rattle.inspection.specs.Address.{address_of}
use Rattle.inspection.specs.InspectGoose.{control_block, goose_numbers, goose_pair, blocked}
use Rattle.inspection.specs.InspectSv.{svid_of, sv_pair}
use Rattle.demand3.specs.Demand3.{Inspection, goose, sv, reaching, RememberedLists}

-- which frames reach a check
abbrev pub sv_reaches : Inspection → List (List ℕ × ℕ)
sv_reaches (goose f) = []
sv_reaches (sv f) = (svid_of f, f.smp_cnt) ∷ []

abbrev pub goose_stream_of : GooseFrame → ℕ × ℕ
goose_stream_of f = (address_of f.src_mac, fnv1a (control_block f))

abbrev pub goose_reaches : Monitor → Inspection → List ((ℕ × ℕ) × (ℕ × ℕ))
goose_reaches m (goose f) = cond (blocked m f.test) [] ((goose_stream_of f, goose_numbers f) ∷ [])
goose_reaches m (sv f) = []

abbrev pub if_clock : ℕ → ℕ × ℕ → List (ℕ × (ℕ × ℕ))
if_clock address pair = cond (has_clock pair) ((address, pair) ∷ []) []

abbrev pub clock_reaches : Monitor → Inspection → List (ℕ × (ℕ × ℕ))
clock_reaches m (goose f) = cond (blocked m f.test) [] (if_clock (address_of f.src_mac) (goose_pair f))
clock_reaches m (sv f) = if_clock (address_of f.src_mac) (sv_pair f)

-- what a frame leaves
abbrev pub count_after : ℕ → ℕ → ℕ
count_after last new = cond (is_replay (count_outcome last new)) last new

abbrev pub numbers_after : ℕ × ℕ → ℕ × ℕ → ℕ × ℕ
numbers_after last new = cond (replays last new) last new

abbrev pub monitor_lists : Monitor → List Inspection → RememberedLists
monitor_lists m h =
    record {
      sv_streams = remembered (decide_list ℕ_discrete) 16 (λ n. n) count_after (reverse (reaching sv_reaches h));
      goose_streams = remembered (decide_pair ℕ_discrete ℕ_discrete) 16 (λ n. n) numbers_after (reverse (reaching (goose_reaches m) h));
      clocks = remembered ℕ_discrete 16 (λ p. p) (λ kept p. p) (reverse (reaching (clock_reaches m) h));
    }
