-- The inspection of a GOOSE frame (01, "Refusals in checking order", 9 to 13).
use Rattle.std.specs.Prelude.{ℕ, Bool, true, ◌&&◌, not, cond, List, [], ◌++◌, ltb}
use Rattle.records.specs.declared.frame.GooseFrame.{GooseFrame}
use Rattle.records.specs.declared.result.InspectResult.{InspectResult}
use Rattle.records.specs.Alert.{source_goose}
use Rattle.records.specs.Hash.{fnv1a}
use Rattle.records.specs.Name.{name_of}
use Rattle.records.specs.Search.{is_found}
use Rattle.checks.specs.GoosePublisher.{goose_publisher_count, goose_publisher}
use Rattle.checks.specs.GooseSeq.{retx_checked}
use Rattle.checks.specs.Keys.{plain_key, goose_key, reservation_key}
use Rattle.monitor.specs.Monitor.{Monitor}
use Rattle.monitor.specs.Parts.{After, goose_seq_on, time_field_on, cb_on}
use Rattle.monitor.specs.Settings.{block_test_frames, retx_schedule, retx_enforce, time_max_forward_jump}
use Rattle.monitor.specs.Totals.{counted_goose}
use Rattle.inspection.specs.declared.inspect_goose.GooseNumbers.{GooseNumbers}
use Rattle.inspection.specs.declared.report.CheckAlert.TheVariants.{TestBlocked, UnknownPublisher, GooseReplay, Retransmission}
use Rattle.inspection.specs.Address.{address_of}
use Rattle.inspection.specs.declared.report.Finding.{Finding}
use Rattle.inspection.specs.Report.{Checked, findings_of, clock_findings, ended, unless_hijacked, reported}

-- the control block's name, the frame's numbers, stNum and sqNum, and the pair of t, seconds and fraction
abbrev pub control_block : GooseFrame → List ℕ
control_block f = name_of f.go_cb_ref f.go_cb_ref_len

abbrev pub goose_numbers : GooseFrame → ℕ × ℕ
goose_numbers f = (f.st_num, f.sq_num)

abbrev pub goose_pair : GooseFrame → ℕ × ℕ
goose_pair f = (f.t_seconds_since_epoch, f.t_fraction_of_second)

-- what the checks read of a frame: the keys of its control block among the publishers and among the reservations, and its numbers
pub record GooseRead : Type 0 where
  pub publisher : List ℕ
  pub reservation : List ℕ
  pub numbers : GooseNumbers

abbrev pub goose_read_by : List ℕ → GooseNumbers → GooseRead
goose_read_by name n = record { publisher = plain_key name; reservation = reservation_key true name; numbers = n }

abbrev pub goose_numbers_by : ℕ → ℕ → GooseFrame → GooseNumbers
goose_numbers_by address hash f =
    record {
      address = address;
      hash = hash;
      st_num = f.st_num;
      sq_num = f.sq_num;
      test = f.test;
      timestamp_us = f.timestamp_us;
      seconds = f.t_seconds_since_epoch;
      fraction = f.t_fraction_of_second;
    }

abbrev pub goose_read : GooseFrame → GooseRead
goose_read f = goose_read_by (control_block f) (goose_numbers_by (address_of f.src_mac) (fnv1a (control_block f)) f)

-- the stream's key, and the numbers with the time
abbrev pub stream_key : GooseNumbers → List ℕ
stream_key n = goose_key n.address n.hash

abbrev pub timed_numbers : GooseNumbers → (ℕ × ℕ) × ℕ
timed_numbers n = ((n.st_num, n.sq_num), n.timestamp_us)

-- 13. replay: High 3; otherwise a retransmission outside tolerance is Medium 30
abbrev pub stream_findings : Bool → Bool → List Finding
stream_findings replay outside =
    cond replay (findings_of GooseReplay) (cond outside (findings_of Retransmission) [])

-- the retransmission is asked for only with enforcement on
unfoldable pub retransmitted : Monitor → GooseNumbers → Bool
retransmitted m n = retx_enforce m && retx_checked (retx_schedule m) m.goose_seq (stream_key n) (timed_numbers n)

-- the stream's alerts follow the clock's
abbrev pub goose_stream : List Finding → Bool → After Bool → Checked
goose_stream before outside c = ended c.monitor (before ++ stream_findings c.answer outside)

module _ (n : GooseNumbers) where
  -- the retransmission is looked up before anything of the stream is stored
  abbrev pub goose_clock : After Bool → Checked
  goose_clock c =
      goose_stream (clock_findings c.answer) (retransmitted c.monitor n) (goose_seq_on c.monitor (stream_key n) (timed_numbers n))

  -- 12. clock alert: High 31, checking goes on
  unfoldable pub goose_time_field : Monitor → Checked
  goose_time_field m = goose_clock (time_field_on m (time_max_forward_jump m) n.address (n.seconds, n.fraction))

-- 11. named control block bound to another address: High 29
unfoldable pub goose_reservation : GooseNumbers → List ℕ → Monitor → Checked
goose_reservation n reservation m = unless_hijacked (goose_time_field n) (cb_on m reservation n.address)

-- publishers exist, and none fits
unfoldable pub goose_unknown : Monitor → ℕ → List ℕ → Bool
goose_unknown m address name =
    ltb 0 (goose_publisher_count m.goose_publishers) && not (is_found (goose_publisher m.goose_publishers address name))

-- 10. publishers exist, none fits: High 6
unfoldable pub goose_allowed : Monitor → GooseRead → Checked
goose_allowed m f =
    cond (goose_unknown m f.numbers.address f.publisher) (ended m (findings_of UnknownPublisher)) (goose_reservation f.numbers f.reservation m)

-- a test frame while blocked
abbrev pub blocked : Monitor → Bool → Bool
blocked m test = block_test_frames m && test

-- 9. test frame while blocked: Medium 6
unfoldable pub goose_test : Monitor → GooseRead → Checked
goose_test m f = cond (blocked m f.numbers.test) (ended m (findings_of TestBlocked)) (goose_allowed m f)

-- a GOOSE frame counted and checked
abbrev pub checked_goose : Monitor → GooseFrame → Checked
checked_goose m f = goose_test (counted_goose m) (goose_read f)

-- the monitor after a GOOSE frame, and the result
unfoldable pub inspect_goose : Monitor → GooseFrame → After InspectResult
inspect_goose m f = reported source_goose f.st_num f.timestamp_us (checked_goose m f)
