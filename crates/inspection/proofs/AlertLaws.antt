-- Laws of the alerts of an inspection: the result and the verdict that report them.
use Prim.Native.Nat.{ℕ, zero, suc, ◌+◌, ◌*◌, ◌≤◌, ◌<◌}
use mathlib.Core.Bool.{Bool, true, false, ◌&&◌, ◌||◌, cond, not}
use mathlib.Core.List.{List, [], ◌∷◌, ◌++◌, foldl, foldl-append, append_assoc, append-nil}
use mathlib.Core.Path.{◌≡◌, refl, sym, ap, ◌∙◌}
use native.Mathlib.Omega.{arith}
use borrow.Author.Tests.{lt-ltb, le-ltb}
use lib.ListN.{length, get_or, set, length-set}
use Rattle.std.proofs.Common.{Option, Some, None, true≢false, take, take_all}
use Rattle.std.proofs.lemmas.List.{take_more}
use Rattle.records.specs.declared.alert.CodedAlert.{CodedAlert}
use Rattle.records.specs.declared.result.AlertCounters.{AlertCounters}
use Rattle.records.specs.declared.result.InspectResult.{InspectResult}
use Rattle.records.specs.declared.result.Pushed.{Pushed}
use Rattle.records.specs.Alert.{severity_number, denies, code_number, no_alert, alert_of}
use Rattle.records.specs.Counter.{saturated, wrapped}
use Rattle.records.specs.Result.{clean_result, allowed_with, counted, with_alert, pushed}
use Rattle.records.specs.Verdict.{verdict_of}
use Rattle.records.proofs.Booleans.{cond_yes, cond_no}
use Rattle.monitor.specs.Monitor.{Monitor}
use Rattle.monitor.specs.Totals.{alert_counters, with_alerts}
use Rattle.monitor.proofs.TotalLaws.{alerts_kept}
use Rattle.inspection.specs.declared.report.CheckAlert.{CheckAlert}
use Rattle.inspection.specs.declared.report.Noted.{Noted}
use Rattle.inspection.specs.declared.report.Finding.{Finding}
use Rattle.inspection.specs.Report.{reported_next, alerts_pushed, pushed_on, ended, reported}
use Rattle.inspection.specs.Report.{finding_of, findings_in, alerts_of, none_found, clean_verdict, noted_of, allowed_octet, alert_noted, with_verdict}

-- ---- the checks' answers
pub none_found_lem : (l : List (Option CheckAlert)) → none_found l ≡ true → alerts_of l ≡ []
none_found_lem [] e = refl
none_found_lem (None ∷ rest) e = none_found_lem rest e
none_found_lem (Some a ∷ rest) e = absurd (true≢false (sym e))

-- a check's answer has one alert at most
at_most_all : (l : List (Option CheckAlert)) → length (alerts_of l) ≤ length l
at_most_all [] = omega arith
at_most_all (None ∷ rest) = let x = at_most_all rest in omega (arith, x)
at_most_all (Some a ∷ rest) = let x = at_most_all rest in omega (arith, x)

-- the alerts of one more answer
alerts_more : (l : List (Option CheckAlert)) (a : Option CheckAlert) → alerts_of (l ++ a ∷ []) ≡ alerts_of l ++ findings_in a
alerts_more [] a = append-nil (findings_in a)
alerts_more (x ∷ l) a = ap (λ (r : List Finding). findings_in x ++ r) (alerts_more l a) ∙ sym (append_assoc (findings_in x) (alerts_of l) (findings_in a))

-- one more answer: its alerts are added or noted behind those of the answers before it
pub one_answer_more :
    {S : Type 0} (step : S → Finding → S) (start : S) (l : List (Option CheckAlert)) (i : ℕ) {now : S}
    → i < length l → now ≡ foldl step start (alerts_of (take i l))
    → foldl step now (findings_in (get_or l i None)) ≡ foldl step start (alerts_of (take (i + 1) l))
one_answer_more step start l i h e =
    ap (λ n. foldl step n (findings_in (get_or l i None))) e
    ∙ sym (foldl-append step start (alerts_of (take i l)) (findings_in (get_or l i None)))
    ∙ ap (foldl step start) (sym (ap alerts_of (take_more l i None h) ∙ alerts_more (take i l) (get_or l i None)))

-- ---- verdicts

-- the verdict without an alert
clean_noted :
    (source : ℕ) (counters : AlertCounters)
    → record { verdict = clean_verdict; counters = counters }
    ≡ noted_of (record { result = clean_result source; counters = counters })
unfolding verdict_of clean_result no_alert alert_of
clean_noted source counters = refl

-- a verdict with one more alert, as the code puts its octets
pub alert_put :
    (n : Noted) (f : Finding) {octet code severity next total : ℕ}
    → get_or n.verdict 1 0 < 3
    → octet ≡ allowed_octet (get_or n.verdict 0 0) f.severity f.refuses
    → code ≡ code_number f.code
    → severity ≡ severity_number f.severity
    → next ≡ wrapped n.counters.next_alert_id
    → total ≡ saturated n.counters.total_alerts
    → (let count = get_or n.verdict 1 0 in
    record {
      verdict = set (set (set (set n.verdict 0 octet) 1 (count + 1)) (2 + 2 * count) code) (2 + 2 * count + 1) severity;
      counters = record { next_alert_id = next; total_alerts = total };
    })
    ≡ alert_noted n f
unfolding alert_noted counted
alert_put n f h o c s x t =
    let count = get_or n.verdict 1 0 in
    (λ i. record {
      verdict = set (set (set (set n.verdict 0 (o i)) 1 (count + 1)) (2 + 2 * count) (c i)) (2 + 2 * count + 1) (s i);
      counters = record { next_alert_id = x i; total_alerts = t i };
    })
    ∙ sym (cond_yes _ _ (lt-ltb _ _ h))

-- a verdict with three alerts is left
pub alert_left : (n : Noted) (f : Finding) → 3 ≤ get_or n.verdict 1 0 → n ≡ alert_noted n f
unfolding alert_noted
alert_left n f h = sym (cond_no _ _ (le-ltb _ _ h))

-- the octet after an alert is that of the flag after it
flag_octet :
    (allowed refuses denied : Bool)
    → ◌≡◌ {A = ℕ} (cond (refuses || denied) 0 (cond allowed 1 0)) (cond ((allowed && not refuses) && not denied) 1 0)
flag_octet true true denied = refl
flag_octet true false true = refl
flag_octet true false false = refl
flag_octet false true denied = refl
flag_octet false false true = refl
flag_octet false false false = refl

-- what holds of every four holds of a list of length 4
of_four : {A : Type 0} (P : List A → Type 0) → ((x y z w : A) → P (x ∷ y ∷ z ∷ w ∷ [])) → (l : List A) → length l ≡ 4 → P l
of_four P h [] e = absurd (omega (arith, e))
of_four P h (x ∷ []) e = absurd (omega (arith, e))
of_four P h (x ∷ y ∷ []) e = absurd (omega (arith, e))
of_four P h (x ∷ y ∷ z ∷ []) e = absurd (omega (arith, e))
of_four P h (x ∷ y ∷ z ∷ w ∷ []) e = h x y z w
of_four P h (x ∷ y ∷ z ∷ w ∷ v ∷ l) e = absurd (omega (arith, e))

module _ (source number time : ℕ) where
  -- an alert noted in each of the three places
  module _ (allowed truncated : Bool) (kind : ℕ) (counters : AlertCounters) where
    abbrev with_slots : ℕ → List CodedAlert → Pushed
    with_slots count alerts = record {
      result = record { allowed = allowed; alert_count = count; source_type = kind; alerts = alerts; alerts_truncated = truncated };
      counters = counters;
    }

    noted_at :
        (f : Finding) (count : ℕ) (x y z w : CodedAlert) → count ≤ 2
        → alert_noted (noted_of (with_slots count (x ∷ y ∷ z ∷ w ∷ []))) f
        ≡ noted_of (reported_next source number time (with_slots count (x ∷ y ∷ z ∷ w ∷ [])) f)
    unfolding alert_noted verdict_of pushed with_alert allowed_with alert_of
    noted_at f zero x y z w h =
        λ i. record {
          verdict =
              flag_octet allowed f.refuses (denies f.severity) i
              ∷ 1 ∷ code_number f.code ∷ severity_number f.severity
              ∷ code_number y.code ∷ severity_number y.alert.severity
              ∷ code_number z.code ∷ severity_number z.alert.severity ∷ [];
          counters = counted counters;
        }
    noted_at f (suc zero) x y z w h =
        λ i. record {
          verdict =
              flag_octet allowed f.refuses (denies f.severity) i
              ∷ 2 ∷ code_number x.code ∷ severity_number x.alert.severity
              ∷ code_number f.code ∷ severity_number f.severity
              ∷ code_number z.code ∷ severity_number z.alert.severity ∷ [];
          counters = counted counters;
        }
    noted_at f (suc (suc zero)) x y z w h =
        λ i. record {
          verdict =
              flag_octet allowed f.refuses (denies f.severity) i
              ∷ 3 ∷ code_number x.code ∷ severity_number x.alert.severity
              ∷ code_number y.code ∷ severity_number y.alert.severity
              ∷ code_number f.code ∷ severity_number f.severity ∷ [];
          counters = counted counters;
        }
    noted_at f (suc (suc (suc count))) x y z w h = absurd (omega (arith, h))

  -- a pushed alert takes one of four slots
  pub one_pushed :
      (p : Pushed) (f : Finding) → length p.result.alerts ≡ 4 → p.result.alert_count < 4
      → (length (reported_next source number time p f).result.alerts ≡ 4)
      × ((reported_next source number time p f).result.alert_count ≡ p.result.alert_count + 1)
  unfolding pushed with_alert
  one_pushed p f size h =
      let full = lt-ltb p.result.alert_count 4 h in
      (rw full (length-set p.result.alerts p.result.alert_count _ ∙ size), rw full)

  -- an alert noted in a verdict is noted in the verdict of the result with the alert
  noted_next :
      (p : Pushed) (f : Finding)
      → p.result.alert_count ≤ 2 → length p.result.alerts ≡ 4 → alert_noted (noted_of p) f ≡ noted_of (reported_next source number time p f)
  noted_next p f h e =
      let r = p.result in
      let q : List CodedAlert → Pushed = with_slots r.allowed r.alerts_truncated r.source_type p.counters r.alert_count in
      of_four (λ (l : List CodedAlert). alert_noted (noted_of (q l)) f ≡ noted_of (reported_next source number time (q l) f))
      (λ x y z w. noted_at r.allowed r.alerts_truncated r.source_type p.counters f r.alert_count x y z w h)
      r.alerts e

  -- up to three alerts noted one by one
  noted_all :
      (p : Pushed) (l : List Finding)
      → p.result.alert_count + length l ≤ 3 → length p.result.alerts ≡ 4
      → foldl alert_noted (noted_of p) l ≡ noted_of (foldl (reported_next source number time) p l)
  noted_all p [] h e = refl
  noted_all p (f ∷ rest) h e =
      let one = one_pushed p f e (omega arith) in
      ap (λ (n : Noted). foldl alert_noted n rest) (noted_next p f (omega arith) e)
      ∙ noted_all (reported_next source number time p f) rest (omega (arith, one.1)) one.0

  -- the verdict with the alerts of three answers is that of the result with them
  noted_pushed :
      (counters : AlertCounters) (a : List (Option CheckAlert)) → length a ≡ 3
      → foldl alert_noted (record { verdict = clean_verdict; counters = counters }) (alerts_of a)
      ≡ noted_of (alerts_pushed source number time counters (alerts_of a))
  unfolding alerts_pushed clean_result
  noted_pushed counters a h =
      ap (λ (n : Noted). foldl alert_noted n (alerts_of a)) (clean_noted source counters)
      ∙ noted_all (record { result = clean_result source; counters = counters }) (alerts_of a) (let few = at_most_all a in omega (arith, few, h)) refl

-- the alert of one answer noted
pub none_noted_yet : (n : Noted) (a : Option CheckAlert) → a ≡ None → n ≡ foldl alert_noted n (findings_in a)
none_noted_yet n a h = ap (λ (x : Option CheckAlert). foldl alert_noted n (findings_in x)) (sym h)

pub one_noted : (n : Noted) (a : Option CheckAlert) {alert : CheckAlert} {r : Noted} → a ≡ Some alert → r ≡ alert_noted n (finding_of alert)
    → r ≡ foldl alert_noted n (findings_in a)
one_noted n a h e = e ∙ ap (λ (x : Option CheckAlert). foldl alert_noted n (findings_in x)) (sym h)

-- the alerts of three answers noted one by one
pub three_noted :
    (start : Noted) (a : List (Option CheckAlert)) {one two three : Noted}
    → length a ≡ 3
    → one ≡ foldl alert_noted start (findings_in (get_or a 0 None))
    → two ≡ foldl alert_noted one (findings_in (get_or a 1 None))
    → three ≡ foldl alert_noted two (findings_in (get_or a 2 None))
    → three ≡ foldl alert_noted start (alerts_of a)
three_noted start a h x y z =
    let first = x ∙ one_answer_more alert_noted start a 0 (omega (arith, h)) refl in
    let second = y ∙ one_answer_more alert_noted start a 1 (omega (arith, h)) first in
    z ∙ one_answer_more alert_noted start a 2 (omega (arith, h)) second
    ∙ ap (λ (l : List (Option CheckAlert)). foldl alert_noted start (alerts_of l)) (take_all 3 a (omega (arith, h)))

-- ---- in a monitor

module _ (source number time : ℕ) (m : Monitor) (a : List (Option CheckAlert)) where
  -- without an alert the monitor is left and the result clean
  pub none_reported :
      {clean : InspectResult} → clean ≡ clean_result source → none_found a ≡ true
      → record { monitor = m; answer = clean } ≡ reported source number time (ended m (alerts_of a))
  unfolding reported alerts_pushed
  none_reported e h = let k = sym (alerts_kept m) in rw (none_found_lem a h) (λ i. record { monitor = k i; answer = e i })

  pub alerts_reported :
      {counters : AlertCounters} {p : Pushed} {after : Monitor}
      → counters ≡ alert_counters m → p ≡ alerts_pushed source number time counters (alerts_of a) → after ≡ with_alerts m p.counters
      → record { monitor = after; answer = p.result } ≡ reported source number time (ended m (alerts_of a))
  unfolding reported
  alerts_reported {p = p} c e w =
      (λ i. record { monitor = w i; answer = p.result })
      ∙ ap (pushed_on m) (e ∙ ap (λ (n : AlertCounters). alerts_pushed source number time n (alerts_of a)) c)

  -- the same of the verdict
  pub none_noted :
      none_found a ≡ true
      → record { monitor = m; answer = clean_verdict } ≡ with_verdict (reported source number time (ended m (alerts_of a)))
  none_noted h =
      (λ i. record { monitor = m; answer = (clean_noted source (alert_counters m) i).verdict }) ∙ ap with_verdict (none_reported refl h)

  pub alerts_noted :
      {counters : AlertCounters} {n : Noted} {after : Monitor} → length a ≡ 3 → counters ≡ alert_counters m
      → n ≡ foldl alert_noted (record { verdict = clean_verdict; counters = counters }) (alerts_of a) → after ≡ with_alerts m n.counters
      → record { monitor = after; answer = n.verdict } ≡ with_verdict (reported source number time (ended m (alerts_of a)))
  unfolding reported
  alerts_noted {counters} {n} three c e w =
      (λ i. record { monitor = w i; answer = n.verdict })
      ∙ ap (λ (x : Noted). record { monitor = with_alerts m x.counters; answer = x.verdict })
      (e ∙ noted_pushed source number time counters a three ∙ ap (λ (x : AlertCounters). noted_of (alerts_pushed source number time x (alerts_of a))) c)
