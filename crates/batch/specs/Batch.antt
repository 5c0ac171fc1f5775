-- Many SV frames in one call: the monitor after them, and the verdicts on them.
use Rattle.std.specs.Prelude.{ℕ, zero, suc, ◌*◌, ◌/◌, min, List, length, take, drop}
use Rattle.records.specs.declared.frame.SvFrame.{SvFrame}
use Rattle.records.specs.Octets.{octet_at, overwritten}
use Rattle.records.specs.Verdict.{verdict_of}
use Rattle.records.specs.declared.result.InspectResult.{InspectResult}
use Rattle.monitor.specs.Monitor.{Monitor}
use Rattle.monitor.specs.Parts.{After}
use Rattle.inspection.specs.InspectSv.{inspect_sv}
use Rattle.lent.specs.Sv.{sv_frame_of}

-- how many frames are inspected: whole records of 160 octets, with 8 octets for the verdict of each
unfoldable pub batch_count : ℕ → ℕ → ℕ
batch_count frames verdicts = min (frames / 160) (verdicts / 8)

-- a frame by its place, counted from 0
abbrev pub frame_at : List ℕ → ℕ → SvFrame
frame_at frames k = sv_frame_of (take 160 (drop (k * 160) frames))

-- octets with the verdict of an inspection from a place on, beside the monitor that it leaves
abbrev pub verdict_put : List ℕ → ℕ → After InspectResult → After (List ℕ)
verdict_put octets at i = record { monitor = i.monitor; answer = overwritten octets at (octet_at (verdict_of i.answer)) 8 }

-- the monitor after the first n frames
unfoldable pub sv_after : Monitor → List ℕ → ℕ → Monitor
sv_after m frames zero = m
sv_after m frames (suc n) = (inspect_sv (sv_after m frames n) (frame_at frames n)).monitor

-- octets with the verdicts on the first n frames in their places
unfoldable pub sv_verdicts : Monitor → List ℕ → List ℕ → ℕ → List ℕ
sv_verdicts m frames octets zero = octets
sv_verdicts m frames octets (suc n) =
    (verdict_put (sv_verdicts m frames octets n) (n * 8) (inspect_sv (sv_after m frames n) (frame_at frames n))).answer

-- what a batch leaves: the monitor, the octets of the verdicts, and how many frames were inspected
pub record SvBatch : Type 0 where
  pub monitor : Monitor
  pub verdicts : List ℕ
  pub count : ℕ

abbrev pub sv_batch_of : Monitor → List ℕ → List ℕ → ℕ → SvBatch
sv_batch_of m frames octets n = record { monitor = sv_after m frames n; verdicts = sv_verdicts m frames octets n; count = n }

abbrev pub sv_batch : Monitor → List ℕ → List ℕ → SvBatch
sv_batch m frames octets = sv_batch_of m frames octets (batch_count (length frames) (length octets))
