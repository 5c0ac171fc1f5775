-- A frame heard twice is refused the second time.
use Prim.Native.Nat.{ℕ}
use mathlib.Core.Bool.{true}
use mathlib.Core.List.{List, [], ◌∷◌}
use mathlib.Core.Path.{◌≡◌, refl, sym, ap, ◌∙◌}
use native.Mathlib.Omega.{arith}
use Rattle.records.specs.declared.frame.GooseFrame.{GooseFrame}
use Rattle.records.specs.declared.frame.SvFrame.{SvFrame}
use Rattle.records.specs.Alert.{source_goose, source_sv}
use Rattle.records.specs.Result.{clean_result}
use Rattle.tables.proofs.KeyMaps.{key_words}
use Rattle.std.proofs.Common.{Result}
use Rattle.records.specs.declared.error.VsError.{VsError}
use Rattle.monitor.specs.Monitor.{Monitor, Sized, monitor_of}
use Rattle.monitor.specs.Reset.{new_monitor}
use Rattle.monitor.specs.Settings.{new_settings}
use Rattle.monitor.specs.Totals.{frame_counted, with_alerts, counted_goose, counted_sv}
use Rattle.monitor.proofs.Bijection.{words_sized}
use Rattle.inspection.specs.Calls.{Call, called, after_calls}
use Rattle.inspection.specs.InspectGoose.{goose_read, control_block, goose_test, inspect_goose}
use Rattle.inspection.specs.InspectSv.{sv_read, svid_of, dataset_of, sv_binding, inspect_sv, parsed_inspected, inspect_raw_sv}
use Rattle.inspection.specs.Report.{reported}
use Rattle.inspection.proofs.CallLaws.{mms_inspects, goose_inspects, sv_inspects, raw_inspects, called_sized}
use Rattle.inspection.proofs.CheckLaws.{goose_kept, sv_kept}
use Rattle.inspection.proofs.SizeLaws.{fresh_sized}
use Rattle.demand3.specs.Demand3.{Answer, answer_of}
use Rattle.demand3.proofs.AnswerLaws.{answer_from, reported_answer}
use Rattle.heard_twice.specs.HeardTwice.{goose_at, sv_at, Delivered, goose, sv, raw_sv, raw_result, first_answer, second_answer, replay_code, refused_again}
use Rattle.heard_twice.specs.HeardTwice.{HeardTwiceOn, HeardTwice, HeardTwiceOnWords, AtMostThreeAlerts}
use Rattle.heard_twice.proofs.RawCopies.{Reread, frame, refused, reread}
use Rattle.heard_twice.proofs.SecondCopy.{Again, goose_again, sv_again}

-- ---- decoded frames

-- what an inspection answers, from the monitor with the frame counted
goose_answer_lem : (m : Monitor) (f : GooseFrame) → answer_of (inspect_goose m f).answer
    ≡ answer_from true [] (goose_test (counted_goose m) (goose_read f)).answer
unfolding inspect_goose
goose_answer_lem m f =
    reported_answer source_goose f.st_num f.timestamp_us (goose_test (counted_goose m) (goose_read f))
    (let k = goose_kept (counted_goose m) (goose_read f) in omega (arith, k.few))

sv_answer_lem : (m : Monitor) (f : SvFrame) → answer_of (inspect_sv m f).answer ≡ answer_from true [] (sv_binding (counted_sv m) (sv_read f)).answer
unfolding inspect_sv
sv_answer_lem m f =
    reported_answer source_sv f.smp_cnt f.timestamp_us (sv_binding (counted_sv m) (sv_read f))
    (let k = sv_kept (counted_sv m) (sv_read f) in omega (arith, k.few))

module _ (m : Monitor) (z : Sized m) (time time' : ℕ) where
  -- the checks of the second copy get the monitor that the first left, with the frame counted
  goose_checked_lem : (f : GooseFrame) → Again 3 (goose_test (counted_goose m) (goose_read (goose_at f time))).answer
      (goose_test (counted_goose (inspect_goose m (goose_at f time)).monitor) (goose_read (goose_at f time'))).answer
  unfolding inspect_goose reported with_alerts frame_counted
  goose_checked_lem f =
      goose_again (counted_goose m) (counted_goose (inspect_goose m (goose_at f time)).monitor).totals z.cb_reservations z.time_trackers
      (goose_read (goose_at f time)) time' z.goose_seq (key_words 1 (control_block f))

  goose_second : (f : GooseFrame) → second_answer m (goose f) time time' ≡ refused_again 3 (first_answer m (goose f) time)
  goose_second f =
      goose_answer_lem (inspect_goose m (goose_at f time)).monitor (goose_at f time') ∙ goose_checked_lem f
      ∙ ap (refused_again 3) (sym (goose_answer_lem m (goose_at f time)))

  sv_checked_lem : (f : SvFrame) → Again 26 (sv_binding (counted_sv m) (sv_read f)).answer
      (sv_binding (counted_sv (inspect_sv m (sv_at f time)).monitor) (sv_read f)).answer
  unfolding inspect_sv reported with_alerts frame_counted
  sv_checked_lem f =
      sv_again (counted_sv m) (counted_sv (inspect_sv m (sv_at f time)).monitor).totals z.cb_reservations z.time_trackers
      (sv_read f) z.sv_seq (key_words 0 (svid_of f)) (key_words 0 (dataset_of f))

  sv_second : (f : SvFrame) → second_answer m (sv f) time time' ≡ refused_again 26 (first_answer m (sv f) time)
  sv_second f =
      sv_answer_lem (inspect_sv m (sv_at f time)).monitor (sv_at f time') ∙ sv_checked_lem f
      ∙ ap (refused_again 26) (sym (sv_answer_lem m (sv_at f time)))

-- ---- raw frames

module _ (m : Monitor) (z : Sized m) (time : ℕ) where
  reread_second : {p q : Result SvFrame VsError} → Reread time p q
      → answer_of (raw_result (parsed_inspected (parsed_inspected m p).monitor q)).answer
      ≡ refused_again 26 (answer_of (raw_result (parsed_inspected m p)).answer)
  unfolding clean_result
  reread_second (frame f) = sv_second m z f.timestamp_us time f
  reread_second (refused e) = refl

-- ---- every monitor whose parts have their sizes

module _ (m : Monitor) (z : Sized m) where
  answered : (x : Delivered) (time time' : ℕ) → second_answer m x time time' ≡ refused_again (replay_code x) (first_answer m x time)
  unfolding inspect_raw_sv
  answered (goose f) time time' = goose_second m z time time' f
  answered (sv f) time time' = sv_second m z time time' f
  answered (raw_sv octets) time time' = reread_second m z time' (reread time' octets time)

  heard_twice_on : HeardTwiceOn m
  heard_twice_on = record {
    second_refused = λ x time time'. ap (λ (a : Answer). a.0) (answered x time time');
    whole_answer = answered;
  }

-- as calls leave them
calls_sized : (m : Monitor) (calls : List Call) → Sized m → Sized (after_calls m calls)
calls_sized m [] z = z
calls_sized m (c ∷ calls) z = calls_sized (called m c) calls (called_sized m c z)

pub heard_twice_lem : HeardTwice
heard_twice_lem m r =
    heard_twice_on m (rw r.reached (calls_sized (new_monitor r.strict) r.calls (fresh_sized (new_settings r.strict) refl)))

pub heard_twice_on_words : HeardTwiceOnWords
heard_twice_on_words words z = heard_twice_on (monitor_of words) (words_sized words z)

-- ---- at most three alerts

pub at_most_three_alerts : AtMostThreeAlerts
at_most_three_alerts m =
    (λ f. (mms_inspects m f).few, λ f. (goose_inspects m f).few, λ f. (sv_inspects m f).few, λ octets time. (raw_inspects m octets time).few)
