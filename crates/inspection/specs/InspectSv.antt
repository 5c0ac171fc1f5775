-- The inspection of a sampled-values frame, decoded or raw (01, "Refusals in checking order", 3 and 14 to 20).
use Rattle.std.specs.Prelude.{ℕ, Bool, false, ◌&&◌, not, cond, List, [], ◌++◌, eqb, ltb, Result, Ok, Err}
use Rattle.records.specs.declared.error.VsError.{VsError}
use Rattle.records.specs.declared.frame.SvFrame.{SvFrame}
use Rattle.records.specs.declared.result.InspectResult.{InspectResult}
use Rattle.records.specs.Alert.{source_sv}
use Rattle.records.specs.Name.{name_of}
use Rattle.records.specs.Result.{clean_result}
use Rattle.sv_frame.specs.Sv.{sv_frame}
use Rattle.checks.specs.declared.sv_publisher.PublisherMismatch.{PublisherMismatch}
use Rattle.checks.specs.declared.sv_publisher.PublisherMismatch.TheVariants.{NotRegistered, WrongAddress}
use Rattle.checks.specs.declared.sv_seq.SvSeqOutcome.{SvSeqOutcome}
use Rattle.checks.specs.declared.sv_seq.SvSeqOutcome.TheVariants.{FirstSeen, Replay, ForwardGap, CycleWrap, SuspiciousSmpGap}
use Rattle.checks.specs.Keys.{plain_key, reservation_key}
use Rattle.checks.specs.SvPublisher.{sv_publisher_count, sv_publisher, publisher_rate}
use Rattle.monitor.specs.Monitor.{Monitor}
use Rattle.monitor.specs.Parts.{After, sv_seq_on, time_field_on, cb_on}
use Rattle.monitor.specs.Settings.{strict_mode, time_max_forward_jump, sv_max_smp_cnt_gap}
use Rattle.monitor.specs.Totals.{counted_sv}
use Rattle.inspection.specs.declared.inspect_sv.RawSv.{RawSv}
use Rattle.inspection.specs.declared.inspect_sv.SvNumbers.{SvNumbers}
use Rattle.inspection.specs.declared.report.CheckAlert.{CheckAlert}
use Rattle.inspection.specs.declared.report.CheckAlert.TheVariants.{WrongIed, UnknownSvid, CountReplay, CountGap, SuspiciousCount, RateMismatch}
use Rattle.inspection.specs.Address.{address_of}
use Rattle.inspection.specs.declared.report.Finding.{Finding}
use Rattle.inspection.specs.Report.{Checked, findings_of, clock_findings, ended, unless_hijacked, permitted, reported, with_allowed}

-- the svID, the data set's name, and the pair of the time field, seconds and fraction
abbrev pub svid_of : SvFrame → List ℕ
svid_of f = name_of f.svid f.svid_len

abbrev pub dataset_of : SvFrame → List ℕ
dataset_of f = name_of f.dataset_ref f.dataset_ref_len

abbrev pub sv_pair : SvFrame → ℕ × ℕ
sv_pair f = (f.t_seconds_since_epoch, f.t_fraction_of_second)

-- what the checks read of a frame: the keys of its svID and data set, and its numbers
pub record SvRead : Type 0 where
  pub svid : List ℕ
  pub dataset : List ℕ
  pub numbers : SvNumbers

abbrev pub sv_read_by : List ℕ → List ℕ → SvNumbers → SvRead
sv_read_by svid dataset n = record { svid = svid; dataset = reservation_key false dataset; numbers = n }

abbrev pub sv_numbers_by : ℕ → SvFrame → SvNumbers
sv_numbers_by address f =
    record {
      address = address;
      seconds = f.t_seconds_since_epoch;
      fraction = f.t_fraction_of_second;
      smp_cnt = f.smp_cnt;
      smp_rate = f.smp_rate;
    }

abbrev pub sv_read : SvFrame → SvRead
sv_read f = sv_read_by (plain_key (svid_of f)) (dataset_of f) (sv_numbers_by (address_of f.src_mac) f)

-- 20. frame's and rule's rates nonzero and unequal: Medium 27
unfoldable pub rate_findings : ℕ → ℕ → List Finding
rate_findings frame_rate rate =
    cond (ltb 0 frame_rate && ltb 0 rate && not (eqb frame_rate rate)) (findings_of RateMismatch) []

-- 18. replay: High 26, and checking ends. 19. gap above a nonzero limit: Medium 27, checking goes on; a suspicious count's Medium 27 does not
-- refuse. `further` is what the checks after the count find
unfoldable pub count_findings : ℕ → List Finding → SvSeqOutcome → List Finding
count_findings limit further FirstSeen = further
count_findings limit further Replay = findings_of CountReplay
count_findings limit further (ForwardGap gap) = cond (ltb 0 limit && ltb limit gap) (findings_of CountGap ++ further) further
count_findings limit further CycleWrap = further
count_findings limit further (SuspiciousSmpGap gap) = findings_of SuspiciousCount ++ further

module _ (svid : List ℕ) (n : SvNumbers) (rate : ℕ) where
  -- the count's alerts follow the clock's
  abbrev pub sv_count : List Finding → After SvSeqOutcome → Checked
  sv_count before c = ended c.monitor (before ++ count_findings (sv_max_smp_cnt_gap c.monitor) (rate_findings n.smp_rate rate) c.answer)

  -- the count is checked also after a clock alert
  abbrev pub sv_clock : After Bool → Checked
  sv_clock c = sv_count (clock_findings c.answer) (sv_seq_on c.monitor svid n.smp_cnt)

  -- 17. clock alert: High 31, checking goes on
  unfoldable pub sv_time_field : Monitor → Checked
  sv_time_field m = sv_clock (time_field_on m (time_max_forward_jump m) n.address (n.seconds, n.fraction))

-- 16. data set bound to another address: High 29
unfoldable pub sv_reservation : SvRead → ℕ → Monitor → Checked
sv_reservation f rate m = unless_hijacked (sv_time_field f.svid f.numbers rate) (cb_on m f.dataset f.numbers.address)

-- 14. svID registered, never with this address: High 28. 15. strict, publishers exist, svID not among them: Medium 6. Otherwise the
-- rate of the last rule that fits, none for an svID not among them
abbrev pub sv_matched : Bool → List ℕ → Result ℕ PublisherMismatch → Result ℕ CheckAlert
sv_matched strict publishers (Err WrongAddress) = Err WrongIed
sv_matched strict publishers (Err NotRegistered) = cond (strict && ltb 0 (sv_publisher_count publishers)) (Err UnknownSvid) (Ok 0)
sv_matched strict publishers (Ok i) = Ok (publisher_rate publishers i)

unfoldable pub sv_rule : Monitor → ℕ → List ℕ → Result ℕ CheckAlert
sv_rule m address svid = sv_matched (strict_mode m) m.sv_publishers (sv_publisher m.sv_publishers address svid)

-- how the svID and the address match the publishers
unfoldable pub sv_binding : Monitor → SvRead → Checked
sv_binding m f = permitted m (λ rate. sv_reservation f rate m) (sv_rule m f.numbers.address f.svid)

-- an SV frame counted and checked
abbrev pub checked_sv : Monitor → SvFrame → Checked
checked_sv m f = sv_binding (counted_sv m) (sv_read f)

-- the monitor after an SV frame, and the result
unfoldable pub inspect_sv : Monitor → SvFrame → After InspectResult
inspect_sv m f = reported source_sv f.smp_cnt f.timestamp_us (checked_sv m f)

-- 3. an unreadable frame leaves the monitor, and is not allowed: a clean result but for that stands beside the error
abbrev pub parsed_inspected : Monitor → Result SvFrame VsError → After RawSv
parsed_inspected m (Ok f) = record { monitor = (inspect_sv m f).monitor; answer = record { answer = Ok tt; result = (inspect_sv m f).answer } }
parsed_inspected m (Err e) = record { monitor = m; answer = record { answer = Err e; result = with_allowed (clean_result source_sv) false } }

-- the monitor after a raw frame of these octets at a time, and the result
unfoldable pub inspect_raw_sv : Monitor → List ℕ → ℕ → After RawSv
inspect_raw_sv m octets time = parsed_inspected m (sv_frame octets time)
