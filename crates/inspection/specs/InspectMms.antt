-- The inspection of an MMS frame (01, "Refusals in checking order", 4 to 8; "Remembered tables", reservation).
use Rattle.std.specs.Prelude.{ℕ, Bool, false, ◌&&◌, ◌||◌, not, cond, List, [], eqb, ltb, Result, Ok, Err, Option, Some, None}
use Rattle.records.specs.declared.frame.MmsFrame.{MmsFrame}
use Rattle.records.specs.declared.result.InspectResult.{InspectResult}
use Rattle.records.specs.Alert.{source_mms}
use Rattle.records.specs.Name.{name_of}
use Rattle.records.specs.Service.{service_number, is_write}
use Rattle.checks.specs.Keys.{reservation_key}
use Rattle.checks.specs.MmsRule.{has_bit, mms_rule_count, first_rule, rule_read_only, rule_rate}
use Rattle.monitor.specs.Monitor.{Monitor}
use Rattle.monitor.specs.Parts.{After, rate_on, reserved_on, released_on}
use Rattle.monitor.specs.Settings.{strict_mode, mms_service_mask, mms_read_only}
use Rattle.monitor.specs.Totals.{counted_mms}
use Rattle.inspection.specs.declared.inspect_mms.MmsNumbers.{MmsNumbers}
use Rattle.inspection.specs.declared.report.CheckAlert.{CheckAlert}
use Rattle.inspection.specs.declared.report.CheckAlert.TheVariants.{ServiceMasked, WriteRefused, OverRate, NoRule, ReservationsFull}
use Rattle.inspection.specs.declared.report.Finding.{Finding}
use Rattle.inspection.specs.Report.{Checked, findings_of, ended, permitted, reported}

-- what the checks read of a frame: the octets of the name that a control action states, and its numbers
pub record MmsRead : Type 0 where
  pub domain : List ℕ
  pub numbers : MmsNumbers

abbrev pub mms_read_with : ℕ → Bool → MmsFrame → MmsRead
mms_read_with service write f =
    record {
      domain = f.domain;
      numbers = record {
        service = service;
        write = write;
        raw_service_type = f.raw_service_type;
        domain_len = f.domain_len;
        invoke_id = f.invoke_id;
        timestamp_us = f.timestamp_us;
        client_id = f.client_id;
        control_block_is_goose = f.control_block_is_goose;
      };
    }

abbrev pub mms_read : MmsFrame → MmsRead
mms_read f = mms_read_with (service_number f.service_type) (is_write f.service_type) f

-- the key of the control block that a control action names
abbrev pub control_key : MmsRead → List ℕ
control_key f = reservation_key f.numbers.control_block_is_goose (name_of f.domain f.numbers.domain_len)

-- a full reservation table gives Low 23 and still allows
abbrev pub full_findings : Bool → List Finding
full_findings taken = cond taken [] (findings_of ReservationsFull)

abbrev pub mms_reserved : After Bool → Checked
mms_reserved c = ended c.monitor (full_findings c.answer)

-- CancelControl 12 and Conclude 10 release
abbrev pub releases : ℕ → Bool
releases service = eqb service 12 || eqb service 10

-- whether a request is over a rate: its bucket is empty; a rate of 0 is no limit
abbrev pub refused_on : After Bool → After Bool
refused_on c = record { monitor = c.monitor; answer = not c.answer }

unfoldable pub over_rate : Monitor → ℕ → ℕ → ℕ → After Bool
over_rate m key rate time = cond (ltb 0 rate) (refused_on (rate_on m key rate time)) (record { monitor = m; answer = false })

module _ (f : MmsRead) where
  -- the control actions: SelectControl 11 reserves, CancelControl 12 and Conclude 10 release
  unfoldable pub mms_control : Monitor → Checked
  mms_control m =
      cond (eqb f.numbers.service 11) (mms_reserved (reserved_on m (control_key f) f.numbers.client_id))
      (cond (releases f.numbers.service) (ended (released_on m (control_key f) f.numbers.client_id) []) (ended m []))

  -- 7. over the rate: Medium 4
  abbrev pub unless_over : After Bool → Checked
  unless_over c = cond c.answer (ended c.monitor (findings_of OverRate)) (mms_control c.monitor)

  unfoldable pub mms_rate : ℕ → Monitor → Checked
  mms_rate rate m = unless_over (over_rate m f.numbers.invoke_id rate f.numbers.timestamp_us)

-- 6. the applying rule is read-only and a write comes: High 2; otherwise its rate. 8. strict, rules exist, none applies: Medium 16
abbrev pub mms_applying : Bool → List ℕ → Bool → Option ℕ → Result ℕ CheckAlert
mms_applying strict rules write (Some i) = cond (rule_read_only rules i && write) (Err WriteRefused) (Ok (rule_rate rules i))
mms_applying strict rules write None = cond (strict && ltb 0 (mms_rule_count rules)) (Err NoRule) (Ok 0)

-- whether a mask refuses a raw number: it is nonzero, and the number is 16 or above or its bit is not in it
unfoldable pub masked : ℕ → ℕ → Bool
masked mask raw = ltb 0 mask && not (has_bit mask raw)

-- 4. the mask refuses the raw number: Medium 7. 5. read-only and a write: High 2. Masks use the raw number, write checks the service
unfoldable pub mms_rule : Monitor → ℕ → Bool → Result ℕ CheckAlert
mms_rule m raw write =
    cond (masked (mms_service_mask m) raw) (Err ServiceMasked)
    (cond (mms_read_only m && write) (Err WriteRefused) (mms_applying (strict_mode m) m.mms_rules write (first_rule m.mms_rules raw)))

unfoldable pub mms_checks : Monitor → MmsRead → Checked
mms_checks m f = permitted m (λ rate. mms_rate f rate m) (mms_rule m f.numbers.raw_service_type f.numbers.write)

-- an MMS frame counted and checked
abbrev pub checked_mms : Monitor → MmsFrame → Checked
checked_mms m f = mms_checks (counted_mms m) (mms_read f)

-- the monitor after an MMS frame, and the result
unfoldable pub inspect_mms : Monitor → MmsFrame → After InspectResult
inspect_mms m f = reported source_mms f.invoke_id f.timestamp_us (checked_mms m f)
