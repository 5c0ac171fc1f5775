-- Request 1. A frame heard twice: switches sometimes deliver both copies of a frame. For every setting and reachable state, one GOOSE or SV frame that is
-- inspected twice in succession, with no call between, is refused the second time. An inspection gives at most three alerts and never sets the
-- truncated mark.
use Rattle.std.specs.Prelude.{ℕ, Bool, false, ◌||◌, not, cond, List, [], ◌∷◌, ◌≡◌, eqb, length}
use Rattle.records.specs.declared.frame.MmsFrame.{MmsFrame}
use Rattle.records.specs.declared.frame.GooseFrame.{GooseFrame}
use Rattle.records.specs.declared.frame.SvFrame.{SvFrame}
use Rattle.records.specs.declared.result.InspectResult.{InspectResult}
use Rattle.monitor.specs.Monitor.{Monitor, monitor_of}
use Rattle.monitor.specs.Parts.{After}
use Rattle.monitor.specs.Reset.{new_monitor}
use Rattle.inspection.specs.declared.inspect_sv.RawSv.{RawSv}
use Rattle.inspection.specs.Calls.{Call, after_calls}
use Rattle.inspection.specs.CallTheorems.{AtMostThree}
use Rattle.inspection.specs.InspectMms.{inspect_mms}
use Rattle.inspection.specs.InspectGoose.{inspect_goose}
use Rattle.inspection.specs.InspectSv.{inspect_sv, inspect_raw_sv}
use Rattle.demand3.specs.Demand3.{Answer, answer_of}

-- ---- copies of a frame

-- a decoded frame as the recorder hears it at a time: only `timestamp_us` is replaced, and the frame's own time t stays. Copies differ in nothing else
abbrev pub goose_at : GooseFrame → ℕ → GooseFrame
goose_at f time =
    record {
      src_mac = f.src_mac;
      go_cb_ref = f.go_cb_ref;
      go_cb_ref_len = f.go_cb_ref_len;
      st_num = f.st_num;
      sq_num = f.sq_num;
      test = f.test;
      timestamp_us = time;
      t_seconds_since_epoch = f.t_seconds_since_epoch;
      t_fraction_of_second = f.t_fraction_of_second;
    }

abbrev pub sv_at : SvFrame → ℕ → SvFrame
sv_at f time =
    record {
      src_mac = f.src_mac;
      svid_len = f.svid_len;
      svid = f.svid;
      smp_cnt = f.smp_cnt;
      smp_rate = f.smp_rate;
      dataset_ref_len = f.dataset_ref_len;
      dataset_ref = f.dataset_ref;
      timestamp_us = time;
      t_seconds_since_epoch = f.t_seconds_since_epoch;
      t_fraction_of_second = f.t_fraction_of_second;
    }

-- a frame that is delivered twice: decoded by the host, or the octets of an SV frame, readable or not
pub data Delivered : Type 0 where
  goose : GooseFrame → Delivered
  sv : SvFrame → Delivered
  raw_sv : List ℕ → Delivered

-- a raw frame's result; that of an unreadable frame is refused and has no alert
abbrev pub raw_result : After RawSv → After InspectResult
raw_result c = record { monitor = c.monitor; answer = c.answer.result }

-- the inspection of a frame that is heard at a time: the monitor after it, and the result
abbrev pub heard : Monitor → Delivered → ℕ → After InspectResult
heard m (goose f) time = inspect_goose m (goose_at f time)
heard m (sv f) time = inspect_sv m (sv_at f time)
heard m (raw_sv octets) time = raw_result (inspect_raw_sv m octets time)

-- the answers, allowed flag and codes in order: to the first copy, and to the second, on the monitor that the first left, with no call between
abbrev pub first_answer : Monitor → Delivered → ℕ → Answer
first_answer m x time = answer_of (heard m x time).answer

abbrev pub second_answer : Monitor → Delivered → ℕ → ℕ → Answer
second_answer m x time time' = answer_of (heard (heard m x time).monitor x time').answer

-- ---- the answer to the second copy

-- the code of a replay (01, refusals 13 and 18)
abbrev pub replay_code : Delivered → ℕ
replay_code (goose f) = 3
replay_code (sv f) = 26
replay_code (raw_sv octets) = 26

-- the codes of 01's refusals before the check of the stream: 6 (refusals 9, 10, 15), 28 (14) and 29 (11, 16). No check from the clock on gives them
abbrev pub before_stream : ℕ → Bool
before_stream code = eqb code 6 || eqb code 28 || eqb code 29

-- whether a first copy of this answer was refused before the check of its stream; an unreadable frame (refusal 3) is refused without a code
abbrev pub refused_before : Answer → Bool
refused_before (allowed, []) = not allowed
refused_before (allowed, code ∷ codes) = before_stream code

-- the second copy is refused: with the codes of the first where that was refused before the check of its stream, otherwise with replay alone. An outsider
-- that is not stored (request 13, code 44) may pass twice: it would be a case here, and excepted from `second_refused`
abbrev pub refused_again : ℕ → Answer → Answer
refused_again replay first = (false, cond (refused_before first) first.1 (replay ∷ []))

-- for every frame, whatever its fields or octets, and every two times: the request's words, and the whole answer, from which they follow
pub record HeardTwiceOn (m : Monitor) : Type 0 where
  pub second_refused : (x : Delivered) (time time' : ℕ) → (second_answer m x time time').0 ≡ false
  pub whole_answer : (x : Delivered) (time time' : ℕ) → second_answer m x time time' ≡ refused_again (replay_code x) (first_answer m x time)

-- ---- the claims

-- a monitor that calls lead to: any number of calls of any entry, refused ones included, on a new monitor, strict or not
pub record Reachable (m : Monitor) : Type 0 where
  pub strict : Bool
  pub calls : List Call
  pub reached : m ≡ after_calls (new_monitor strict) calls

-- for every setting and reachable state
abbrev pub HeardTwice : Type 0
HeardTwice = (m : Monitor) → Reachable m → HeardTwiceOn m

-- and for any 1148 words that a host holds as a monitor, whether or not calls lead to them
abbrev pub HeardTwiceOnWords : Type 0
HeardTwiceOnWords = (words : List ℕ) → length words ≡ 1148 → HeardTwiceOn (monitor_of words)

-- from every monitor, reachable or not, an inspection of any kind gives at most three alerts, as many as its count says, and never sets the truncated mark
abbrev pub AtMostThreeAlerts : Type 0
AtMostThreeAlerts =
    (m : Monitor)
    → ((f : MmsFrame) → AtMostThree (inspect_mms m f).answer)
    × ((f : GooseFrame) → AtMostThree (inspect_goose m f).answer)
    × ((f : SvFrame) → AtMostThree (inspect_sv m f).answer)
    × ((octets : List ℕ) (time : ℕ) → AtMostThree (inspect_raw_sv m octets time).answer.result)
