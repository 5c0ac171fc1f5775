-- How the alerts of an inspection's result are numbered and counted.
use Prim.Native.Nat.{ℕ, ◌+◌, ◌-◌, ◌≤◌, ◌<◌, ◌%◌, ◌^◌, min}
use mathlib.Core.List.{List, [], ◌∷◌, ◌++◌, map, map-append, foldl, append_assoc, append-nil}
use mathlib.Core.Path.{◌≡◌, refl, sym, ap, ◌∙◌}
use native.Mathlib.Nat.{add-zero}
use native.Mathlib.Numerals.{add-one}
use native.Mathlib.Omega.{arith}
use borrow.Author.Tests.{lt-ltb}
use lib.ListN.{length, set, take, length-set}
use lib.Seq.{length-take-le, take-suc-set, get_or-set_same, get_or-set_other}
use Rattle.records.specs.declared.alert.CodedAlert.{CodedAlert}
use Rattle.records.specs.declared.result.AlertCounters.{AlertCounters}
use Rattle.records.specs.declared.result.InspectResult.{InspectResult}
use Rattle.records.specs.declared.result.Pushed.{Pushed}
use Rattle.records.specs.Alert.{alert_of}
use Rattle.records.specs.Counter.{saturated}
use Rattle.records.specs.Result.{clean_result, counted, with_alert, pushed}
use Rattle.monitor.specs.Monitor.{Monitor}
use Rattle.monitor.specs.Parts.{After}
use Rattle.monitor.specs.Totals.{total, total_alerts, alert_counters, with_alerts}
use Rattle.inspection.proofs.AlertLaws.{one_pushed}
use Rattle.inspection.specs.CallTheorems.{alerts_in, AtMostThree, next_number, numbers_in, numbers_from}
use Rattle.inspection.specs.declared.report.Finding.{Finding}
use Rattle.inspection.specs.Report.{Checked, reported_next, alerts_pushed, reported}

-- what is read of each alert, codes or numbers, with one more alert in the next slot
pub slots_more :
    (read : CodedAlert → ℕ) (l : List CodedAlert) (k : ℕ) (a : CodedAlert)
    → k < length l → map read (take (k + 1) (set l k a)) ≡ map read (take k l) ++ read a ∷ []
slots_more read l k a h = rw (add-one, take-suc-set l k a h) (map-append read (take k l) (a ∷ []))

-- a total stays at the most that 64 bits hold, a number wraps
abbrev pub saturating : ℕ → ℕ
saturating n = min n (2 ^ 64 - 1)

abbrev pub wrapping : ℕ → ℕ
wrapping n = n % 2 ^ 64

-- a counter that stands for n stands for k more afterwards
abbrev pub Grows : (ℕ → ℕ) → ℕ → ℕ → ℕ → Type 0
Grows reduce before k after = (n : ℕ) → before ≡ reduce n → after ≡ reduce (n + k)

pub grows_none : (reduce : ℕ → ℕ) {before after : ℕ} → after ≡ before → Grows reduce before 0 after
grows_none reduce e n h = e ∙ h ∙ ap reduce (sym (add-zero n))

pub grows_one : (x : ℕ) → Grows saturating x 1 (saturated x)
grows_one x n h = rw h (omega arith)

-- so many alerts, each in its slot with the next number, and counted
pub record Pushes (p q : Pushed) (k : ℕ) : Type 0 where
  pub size : length q.result.alerts ≡ 4
  pub count : q.result.alert_count ≡ p.result.alert_count + k
  whole : q.result.alerts_truncated ≡ p.result.alerts_truncated
  total : Grows saturating p.counters.total_alerts k q.counters.total_alerts
  next : Grows wrapping p.counters.next_alert_id k q.counters.next_alert_id
  numbers : (n : ℕ) → p.counters.next_alert_id ≡ wrapping n
      → numbers_in (alerts_in q.result) ≡ numbers_in (alerts_in p.result) ++ numbers_from n k

module _ (source source_number time : ℕ) where
  pub pushes_one :
      (p : Pushed) (a : Finding)
      → length p.result.alerts ≡ 4 → p.result.alert_count < 4 → Pushes p (reported_next source source_number time p a) 1
  unfolding pushed with_alert alert_of counted
  pushes_one p a size h =
      let r = p.result in
      let full = lt-ltb r.alert_count 4 h in
      let one = one_pushed source source_number time p a size h in
      record {
        size = one.0;
        count = one.1;
        whole = rw full;
        total = λ n e. rw (full, e) (omega arith);
        next = λ n e. rw (full, e) (omega arith);
        numbers = λ n e. rw full (slots_more (λ (x : CodedAlert). x.alert.id) r.alerts r.alert_count _ (omega arith) ∙ rw e);
      }

  pushes_all :
      (p : Pushed) (findings : List Finding)
      → length p.result.alerts ≡ 4 → p.result.alert_count + length findings ≤ 4
      → Pushes p (foldl (reported_next source source_number time) p findings) (length findings)
  pushes_all p [] size h = record {
    size = size;
    count = omega arith;
    whole = refl;
    total = grows_none saturating refl;
    next = grows_none wrapping refl;
    numbers = λ n e. sym (append-nil _);
  }
  pushes_all p (a ∷ rest) size h =
      let one = pushes_one p a size (omega arith) in
      let all = pushes_all (reported_next source source_number time p a) rest one.size (omega (arith, one.count)) in
      record {
        size = all.size;
        count = omega (arith, all.count, one.count);
        whole = all.whole ∙ one.whole;
        total = λ n e. all.total (n + 1) (one.total n e) ∙ omega arith;
        next = λ n e. all.next (n + 1) (one.next n e) ∙ omega arith;
        numbers =
            λ n e. all.numbers (n + 1) (one.next n e)
            ∙ rw (one.numbers n e) (append_assoc (numbers_in (alerts_in p.result)) (numbers_from n 1) (numbers_from (n + 1) (length rest)));
      }

-- ---- the counters among the totals

module _ (m : Monitor) (counters : AlertCounters) where
  pub frames_kept : (k : ℕ) → k < 3 → total (with_alerts m counters) k ≡ total m k
  unfolding with_alerts
  frames_kept k h =
      get_or-set_other (set m.totals 3 counters.next_alert_id) 4 k _ 0 (λ e. omega arith) ∙ get_or-set_other m.totals 3 k _ 0 (λ e. omega arith)

  module _ (z : length m.totals ≡ 5) where
    next_set : next_number (with_alerts m counters) ≡ counters.next_alert_id
    unfolding with_alerts
    next_set =
        get_or-set_other (set m.totals 3 counters.next_alert_id) 4 3 _ 0 (λ e. omega arith) ∙ get_or-set_same m.totals 3 _ 0 (omega arith)

    total_set : total_alerts (with_alerts m counters) ≡ counters.total_alerts
    unfolding with_alerts
    total_set = get_or-set_same (set m.totals 3 counters.next_alert_id) 4 _ 0 (simp length-set (omega arith))

-- an inspection's alerts, numbered and counted from the monitor that its checks left
pub record Reports (m : Monitor) (i : After InspectResult) : Type 0 where
  pub few : AtMostThree i.answer
  pub total : length m.totals ≡ 5 → Grows saturating (total_alerts m) (length (alerts_in i.answer)) (total_alerts i.monitor)
  pub next : length m.totals ≡ 5 → Grows wrapping (next_number m) (length (alerts_in i.answer)) (next_number i.monitor)
  pub numbers : (n : ℕ) → next_number m ≡ wrapping n → numbers_in (alerts_in i.answer) ≡ numbers_from n (length (alerts_in i.answer))

pub reports : (source source_number time : ℕ) (c : Checked) → length c.answer ≤ 3 → Reports c.monitor (reported source source_number time c)
unfolding reported alerts_pushed clean_result
reports source source_number time c h =
    let start : Pushed = record { result = clean_result source; counters = alert_counters c.monitor } in
    let all = pushes_all source source_number time start c.answer refl (omega arith) in
    let p = alerts_pushed source source_number time (alert_counters c.monitor) c.answer in
    let r = p.result in
    let count : r.alert_count ≡ length c.answer = omega (arith, all.count) in
    let size : length (alerts_in r) ≡ r.alert_count = length-take-le r.alert_count r.alerts (omega (arith, all.size, count)) in
    record {
      few = record { counted = size; few = omega arith; whole = all.whole };
      total = λ z n e. total_set c.monitor p.counters z ∙ all.total n e ∙ rw (size ∙ count);
      next = λ z n e. next_set c.monitor p.counters z ∙ all.next n e ∙ rw (size ∙ count);
      numbers = rw (size ∙ count) all.numbers;
    }
