-- Each check and add call on its part of the monitor: the monitor with the part that it leaves, and its answer.
use Rattle.std.specs.Prelude.{ℕ, Bool, List, Result}
use Rattle.records.specs.declared.error.VsError.{VsError}
use Rattle.checks.specs.declared.sv_seq.SvSeqOutcome.{SvSeqOutcome}
use Rattle.checks.specs.GoosePublisher.{goose_added}
use Rattle.checks.specs.GooseSeq.{goose_checked}
use Rattle.checks.specs.MmsRule.{mms_added}
use Rattle.checks.specs.Rate.{rate_checked}
use Rattle.checks.specs.Reservation.{cb_checked, reserved, released}
use Rattle.checks.specs.SvPublisher.{sv_added}
use Rattle.checks.specs.SvSeq.{sv_checked}
use Rattle.checks.specs.TimeField.{time_checked}
use Rattle.monitor.specs.Monitor.{Monitor, with_cb_reservations, with_goose_publishers, with_goose_seq}
use Rattle.monitor.specs.Monitor.{with_mms_rules, with_rate_buckets, with_sv_publishers, with_sv_seq, with_time_trackers}

-- a monitor, and an answer
pub record After (A : Type 0) : Type 0 where
  pub monitor : Monitor
  pub answer : A

-- a monitor with the part that a check leaves, and its answer
abbrev pub after : {A C : Type 0} → (List ℕ → Monitor) → (C → List ℕ) → (C → A) → C → After A
after with_part part answer c = record { monitor = with_part (part c); answer = answer c }

-- an SV frame's count (01, "Remembered tables", SV stream)
unfoldable pub sv_seq_on : Monitor → List ℕ → ℕ → After SvSeqOutcome
sv_seq_on m svid n = after (with_sv_seq m) (λ c. c.table) (λ c. c.outcome) (sv_checked m.sv_seq svid n)

-- a GOOSE frame's numbers and time (GOOSE stream)
unfoldable pub goose_seq_on : Monitor → List ℕ → (ℕ × ℕ) × ℕ → After Bool
goose_seq_on m key new = after (with_goose_seq m) (λ c. c.table) (λ c. c.replay) (goose_checked m.goose_seq key new)

-- a frame's time (clock)
unfoldable pub time_field_on : Monitor → ℕ → ℕ → ℕ × ℕ → After Bool
time_field_on m limit address pair = after (with_time_trackers m) (λ c. c.table) (λ c. c.alert) (time_checked m.time_trackers limit address pair)

-- an MMS request (01, "Bucket")
unfoldable pub rate_on : Monitor → ℕ → ℕ → ℕ → After Bool
rate_on m key rate time = after (with_rate_buckets m) (λ c. c.table) (λ c. c.allowed) (rate_checked m.rate_buckets key rate time)

-- the use of a control block, SelectControl, and Cancel or Conclude (reservation)
unfoldable pub cb_on : Monitor → List ℕ → ℕ → After Bool
cb_on m key address = after (with_cb_reservations m) (λ c. c.table) (λ c. c.hijack) (cb_checked m.cb_reservations key address)

unfoldable pub reserved_on : Monitor → List ℕ → ℕ → After Bool
reserved_on m key client = after (with_cb_reservations m) (λ c. c.table) (λ c. c.taken) (reserved m.cb_reservations key client)

unfoldable pub released_on : Monitor → List ℕ → ℕ → Monitor
released_on m key client = with_cb_reservations m (released m.cb_reservations key client)

-- the add calls (01, "Rules"; refusals 1 and 2)
unfoldable pub mms_added_on : Monitor → ℕ → Bool → ℕ → After (Result (Unit {0}) VsError)
mms_added_on m mask read_only rate = after (with_mms_rules m) (λ c. c.rules) (λ c. c.answer) (mms_added m.mms_rules mask read_only rate)

unfoldable pub goose_added_on : Monitor → ℕ → List ℕ → After (Result (Unit {0}) VsError)
goose_added_on m address name = after (with_goose_publishers m) (λ c. c.rules) (λ c. c.answer) (goose_added m.goose_publishers address name)

unfoldable pub sv_added_on : Monitor → ℕ → List ℕ → ℕ → After (Result (Unit {0}) VsError)
sv_added_on m address svid rate = after (with_sv_publishers m) (λ c. c.rules) (λ c. c.answer) (sv_added m.sv_publishers address svid rate)
