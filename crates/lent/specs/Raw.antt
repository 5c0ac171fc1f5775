-- The verdict on a raw SV frame that is read where it stands.
use Rattle.std.specs.Prelude.{ℕ, List, [], ◌∷◌, Result, Ok, Err}
use Rattle.records.specs.declared.error.VsError.{VsError}
use Rattle.records.specs.Verdict.{verdict_of}
use Rattle.sv_frame.specs.Places.{SvReading}
use Rattle.checks.specs.Keys.{plain_key}
use Rattle.monitor.specs.Monitor.{Monitor}
use Rattle.monitor.specs.Parts.{After}
use Rattle.monitor.specs.Totals.{counted_sv}
use Rattle.inspection.specs.declared.inspect_sv.RawSv.{RawSv}
use Rattle.inspection.specs.declared.inspect_sv.SvNumbers.{SvNumbers}
use Rattle.inspection.specs.InspectSv.{sv_read_by, sv_binding}
use Rattle.inspection.specs.Report.{Checked}
use Rattle.lent.specs.declared.raw.RawVerdict.{RawVerdict}

-- the verdict of a raw frame's inspection, in place of its result
abbrev pub with_raw_verdict : After RawSv → After RawVerdict
with_raw_verdict a = record { monitor = a.monitor; answer = record { answer = a.answer.answer; verdict = verdict_of a.answer.result } }

-- ---- for the code

-- an error, not allowed, and no alert
abbrev pub refused_verdict : VsError → RawVerdict
refused_verdict e = record { answer = Err e; verdict = 0 ∷ 0 ∷ 0 ∷ 0 ∷ 0 ∷ 0 ∷ 0 ∷ 0 ∷ [] }

-- the verdict on a frame that was read, or the error
abbrev pub answered_verdict : Result (List ℕ) VsError → RawVerdict
answered_verdict (Ok verdict) = record { answer = Ok tt; verdict = verdict }
answered_verdict (Err e) = refused_verdict e

-- the numbers among what is read of a frame, and the frame counted and checked by what is read of it
abbrev pub read_numbers : ℕ → SvReading → SvNumbers
read_numbers address q =
    record {
      address = address;
      seconds = q.seconds;
      fraction = q.fraction;
      smp_cnt = q.smp_cnt;
      smp_rate = q.smp_rate;
    }

abbrev pub checked_reading : Monitor → ℕ → SvReading → Checked
checked_reading m address q = sv_binding (counted_sv m) (sv_read_by (plain_key q.svid) q.dataset (read_numbers address q))
