-- Theorems over any list of calls of any entry, from any monitor (01, "Alert and result", "Rules", "Refusals in checking order").
use Rattle.std.specs.Prelude.{ℕ, zero, suc, ◌+◌, ◌-◌, ◌<◌, ◌≤◌, ◌%◌, ◌^◌, min, Bool, false, List, [], ◌∷◌, ◌++◌, map, ◌≡◌, length, take}
use Rattle.std.specs.Prelude.{Result, Ok, Err}
use Rattle.records.specs.declared.alert.CodedAlert.{CodedAlert}
use Rattle.records.specs.declared.error.VsError.{VsError}
use Rattle.records.specs.declared.result.InspectResult.{InspectResult}
use Rattle.records.specs.Alert.{source_sv}
use Rattle.records.specs.Result.{clean_result}
use Rattle.records.specs.Row.{ValuesOr}
use Rattle.records.specs.declared.frame.SvFrame.{SvFrame}
use Rattle.records.specs.Row.{answer_row}
use Rattle.sv_frame.specs.Sv.{sv_frame}
use Rattle.checks.specs.Rules.{AddNumbers}
use Rattle.checks.specs.GoosePublisher.{goose_publisher_count}
use Rattle.checks.specs.MmsRule.{mms_rule_count}
use Rattle.checks.specs.SvPublisher.{sv_publisher_count}
use Rattle.monitor.specs.Monitor.{Monitor, Sized}
use Rattle.monitor.specs.Parts.{mms_added_on, goose_added_on, sv_added_on}
use Rattle.monitor.specs.Reset.{new_monitor}
use Rattle.monitor.specs.Totals.{total, mms_total_inspected, goose_total_inspected, sv_total_inspected, total_alerts}
use Rattle.inspection.specs.Address.{address_of}
use Rattle.inspection.specs.Calls.{Call, setting, mms, goose, sv, raw_sv, reset, new_mms_rule, new_goose_publisher, new_sv_publisher, called, after_calls}
use Rattle.inspection.specs.InspectMms.{inspect_mms}
use Rattle.inspection.specs.InspectGoose.{inspect_goose}
use Rattle.inspection.specs.InspectSv.{inspect_sv, inspect_raw_sv}
use Rattle.inspection.specs.Report.{with_allowed}

-- ---- settings and rules

-- a list of inspections only
abbrev pub Inspections : List Call → Type 0
Inspections [] = Unit {0}
Inspections (setting s ∷ calls) = ⊥
Inspections (mms f ∷ calls) = Inspections calls
Inspections (goose f ∷ calls) = Inspections calls
Inspections (sv f ∷ calls) = Inspections calls
Inspections (raw_sv octets time ∷ calls) = Inspections calls
Inspections (reset ∷ calls) = ⊥

-- the same settings and rules
pub record SameRules (m m' : Monitor) : Type 0 where
  pub settings : m'.settings ≡ m.settings
  pub mms : m'.mms_rules ≡ m.mms_rules
  pub goose : m'.goose_publishers ≡ m.goose_publishers
  pub sv : m'.sv_publishers ≡ m.sv_publishers

-- "Rules (made by the add and set calls, read by the inspections)": inspections change none of them
abbrev pub InspectionsKeepRules : Type 0
InspectionsKeepRules = (m : Monitor) (calls : List Call) → Inspections calls → SameRules m (after_calls m calls)

-- at most 16 rules of each kind
pub record AtMost16 (m : Monitor) : Type 0 where
  pub mms : mms_rule_count m.mms_rules ≤ 16
  pub goose : goose_publisher_count m.goose_publishers ≤ 16
  pub sv : sv_publisher_count m.sv_publishers ≤ 16

-- "At most 16 MMS rules, 16 GOOSE and 16 SV publishers": no calls lead to more
abbrev pub RuleCountsHold : Type 0
RuleCountsHold = (strict : Bool) (calls : List Call) → AtMost16 (after_calls (new_monitor strict) calls)

-- ---- alerts of a call

-- the alerts of a result: its first slots, as many as its count says
abbrev pub alerts_in : InspectResult → List CodedAlert
alerts_in r = take r.alert_count r.alerts

-- the alerts of a call; a set or add call and a reset have none
abbrev pub alerts_of : Monitor → Call → List CodedAlert
alerts_of m (setting s) = []
alerts_of m (mms f) = alerts_in (inspect_mms m f).answer
alerts_of m (goose f) = alerts_in (inspect_goose m f).answer
alerts_of m (sv f) = alerts_in (inspect_sv m f).answer
alerts_of m (raw_sv octets time) = alerts_in (inspect_raw_sv m octets time).answer.result
alerts_of m reset = []

-- how many they are
abbrev pub alert_count : Monitor → Call → ℕ
alert_count m c = length (alerts_of m c)

-- a result with as many alerts as its count says, at most three, and none dropped
pub record AtMostThree (r : InspectResult) : Type 0 where
  pub counted : length (alerts_in r) ≡ r.alert_count
  pub few : r.alert_count ≤ 3
  pub whole : r.alerts_truncated ≡ false

-- ---- totals

-- a raw frame counts as the frame read from it, an unreadable one as none
abbrev pub frames_read : Result SvFrame VsError → ℕ
frames_read (Ok f) = 1
frames_read (Err e) = 0

-- the MMS, GOOSE and SV frames that a call inspects
abbrev pub frames_of : Call → ℕ × ℕ × ℕ
frames_of (setting s) = (0, 0, 0)
frames_of (mms f) = (1, 0, 0)
frames_of (goose f) = (0, 1, 0)
frames_of (sv f) = (0, 0, 1)
frames_of (raw_sv octets time) = (0, 0, frames_read (sv_frame octets time))
frames_of reset = (0, 0, 0)

-- after a reset the first number, after any other call this one
abbrev pub unless_reset : Call → ℕ → ℕ → ℕ
unless_reset (setting s) first n = n
unless_reset (mms f) first n = n
unless_reset (goose f) first n = n
unless_reset (sv f) first n = n
unless_reset (raw_sv octets time) first n = n
unless_reset reset first n = first

-- what a number comes to: each call adds to it, and a reset sets it to the first
abbrev pub count_from : (Monitor → Call → ℕ) → ℕ → Monitor → ℕ → List Call → ℕ
count_from adds first m n [] = n
count_from adds first m n (c ∷ calls) = count_from adds first (called m c) (unless_reset c first (n + adds m c)) calls

-- a total within 64 bits is, after any calls, that count or the most that 64 bits hold. A monitor of 1148 words has parts of their sizes
abbrev pub Counts : (Monitor → ℕ) → (Monitor → Call → ℕ) → Type 0
Counts total adds =
    (m : Monitor) (calls : List Call) → Sized m → total m < 2 ^ 64
    → total (after_calls m calls) ≡ min (count_from adds 0 m (total m) calls) (2 ^ 64 - 1)

-- "The alert total and the three inspection counts saturate", and "a refused inspection counts the frame and its alerts"
abbrev pub TotalsCount : Type 0
TotalsCount =
    Counts mms_total_inspected (λ m c. (frames_of c).0)
    × Counts goose_total_inspected (λ m c. (frames_of c).1)
    × Counts sv_total_inspected (λ m c. (frames_of c).2)
    × Counts total_alerts alert_count

-- ---- alert numbers

-- the number that the next alert gets
abbrev pub next_number : Monitor → ℕ
next_number m = total m 3

-- the numbers that alerts have
abbrev pub numbers_in : List CodedAlert → List ℕ
numbers_in alerts = map (λ (a : CodedAlert). a.alert.id) alerts

-- the numbers of all alerts of the calls, in order
abbrev pub alert_numbers : Monitor → List Call → List ℕ
alert_numbers m [] = []
alert_numbers m (c ∷ calls) = numbers_in (alerts_of m c) ++ alert_numbers (called m c) calls

-- so many numbers, each one more than the one before, in 64 bits
abbrev pub numbers_from : ℕ → ℕ → List ℕ
numbers_from n zero = []
numbers_from n (suc k) = n % 2 ^ 64 ∷ numbers_from (n + 1) k

-- numbers for all alerts of the calls, one after another, from 1 again after a reset
abbrev pub consecutive : Monitor → ℕ → List Call → List ℕ
consecutive m n [] = []
consecutive m n (c ∷ calls) =
    numbers_from n (alert_count m c) ++ consecutive (called m c) (unless_reset c 1 (n + alert_count m c)) calls

-- "An alert has the next number (from 1, wrapping in 64 bits)", and the monitor goes on from there
abbrev pub AlertNumbersConsecutive : Type 0
AlertNumbersConsecutive =
    (m : Monitor) (calls : List Call) → Sized m → next_number m < 2 ^ 64
    → (alert_numbers m calls ≡ consecutive m (next_number m) calls)
    × (next_number (after_calls m calls) ≡ count_from alert_count 1 m (next_number m) calls % 2 ^ 64)

-- ---- refused calls

-- a call that is answered by an error
pub data AnsweredByError (m : Monitor) : Call → Type 0 where
  mms_rule_error : (mask : ℕ) (on : Bool) (rate : ℕ) (e : VsError) → (mms_added_on m mask on rate).answer ≡ Err e
      → AnsweredByError m (setting (new_mms_rule mask on rate))
  goose_publisher_error : (mac name : List ℕ) (e : VsError) → (goose_added_on m (address_of mac) name).answer ≡ Err e
      → AnsweredByError m (setting (new_goose_publisher mac name))
  sv_publisher_error : (mac svid : List ℕ) (rate : ℕ) (e : VsError) → (sv_added_on m (address_of mac) svid rate).answer ≡ Err e
      → AnsweredByError m (setting (new_sv_publisher mac svid rate))
  raw_frame_error : (octets : List ℕ) (time : ℕ) (e : VsError) → (inspect_raw_sv m octets time).answer.answer ≡ Err e
      → AnsweredByError m (raw_sv octets time)

-- refusals 1 and 2 by their numbers, of each add call: 6 on 16 rules, then 9 for a name over 64 octets, else added. An MMS rule has no name
abbrev pub RefusalNumbers : Type 0
RefusalNumbers =
    (m : Monitor)
    → ((mask : ℕ) (on : Bool) (rate : ℕ) → AddNumbers (mms_rule_count m.mms_rules) 0 (mms_added_on m mask on rate).answer)
    × ((address : ℕ) (name : List ℕ) → AddNumbers (goose_publisher_count m.goose_publishers) (length name) (goose_added_on m address name).answer)
    × ((address : ℕ) (svid : List ℕ) (rate : ℕ)
    → AddNumbers (sv_publisher_count m.sv_publishers) (length svid) (sv_added_on m address svid rate).answer)

-- refusal 3 by its number: a raw frame is read, or the error is 9
abbrev pub RawRefusals : Type 0
RawRefusals = (m : Monitor) (octets : List ℕ) (time : ℕ) → ValuesOr 9 (answer_row (inspect_raw_sv m octets time).answer.answer)

-- refusals 1 to 3: "changes nothing", "no frame"
abbrev pub RefusedChangesNothing : Type 0
RefusedChangesNothing = (m : Monitor) (c : Call) → AnsweredByError m c → called m c ≡ m

-- so a refused call may be left out, wherever it stands
abbrev pub RefusedLeftOut : Type 0
RefusedLeftOut =
    (m : Monitor) (before : List Call) (c : Call) (further : List Call) → AnsweredByError (after_calls m before) c
    → after_calls m (before ++ c ∷ further) ≡ after_calls m (before ++ further)

-- refusal 3: beside the error stands a result without alerts that does not allow the frame
abbrev pub UnreadableNotAllowed : Type 0
UnreadableNotAllowed =
    (m : Monitor) (octets : List ℕ) (time : ℕ) (e : VsError) → (inspect_raw_sv m octets time).answer.answer ≡ Err e
    → (inspect_raw_sv m octets time).answer.result ≡ with_allowed (clean_result source_sv) false
