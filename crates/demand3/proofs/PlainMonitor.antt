-- Inspections without publishers, reservations and enforcement: what they do to the streams and clocks, and answer from them.
use Prim.Native.Nat.{ℕ, ◌≤◌}
use mathlib.Core.Bool.{Bool, true, false, cond}
use mathlib.Core.List.{List, [], ◌∷◌, ◌++◌, foldl}
use mathlib.Core.Path.{◌≡◌, refl, sym, ap, ◌∙◌, subst}
use native.Mathlib.Omega.{arith}
use lib.Dec.{eqb, ltb}
use lib.ListN.{length, get_or}
use Rattle.std.specs.Prelude.{Err}
use Rattle.records.specs.declared.alert.AlertSeverity.TheVariants.{Medium}
use Rattle.records.specs.declared.alert.AlertCode.TheVariants.{PolicyViolation}
use Rattle.records.specs.declared.frame.GooseFrame.{GooseFrame}
use Rattle.records.specs.declared.frame.SvFrame.{SvFrame}
use Rattle.records.specs.declared.result.InspectResult.{InspectResult}
use Rattle.records.specs.Alert.{source_goose, source_sv}
use Rattle.records.specs.Search.{last_below}
use Rattle.records.proofs.Booleans.{and-false, cond_holds}
use Rattle.records.proofs.Distinguish.{outputs}
use Rattle.tables.specs.Named.{named}
use Rattle.tables.specs.Order.{no_entries, all_free}
use Rattle.tables.proofs.PlaceLaws.{none_found_lem}
use Rattle.tables.proofs.WordTables.{none_free}
use Rattle.checks.specs.declared.sv_publisher.PublisherMismatch.TheVariants.{NotRegistered}
use Rattle.checks.specs.GooseSeq.{GooseChecked, goose_checked}
use Rattle.checks.specs.Keys.{plain_key}
use Rattle.checks.specs.Reservation.{CbChecked, bound_by, cb_checked}
use Rattle.checks.specs.SvPublisher.{sv_publisher_count, sv_publisher}
use Rattle.checks.specs.SvSeq.{SvChecked, sv_checked}
use Rattle.checks.specs.TimeField.{TimeChecked, time_checked}
use Rattle.monitor.specs.Monitor.{Monitor, with_goose_seq, with_sv_seq, with_time_trackers, with_cb_reservations, with_totals}
use Rattle.monitor.specs.Parts.{After, after, sv_seq_on, goose_seq_on, time_field_on, cb_on}
use Rattle.monitor.specs.Settings.{retx_enforce, time_max_forward_jump, sv_max_smp_cnt_gap}
use Rattle.monitor.specs.Totals.{frame_counted, with_alerts, counted_goose, counted_sv}
use Rattle.inspection.specs.declared.inspect_goose.GooseNumbers.{GooseNumbers}
use Rattle.std.proofs.Common.{Ok}
use Rattle.inspection.specs.Address.{address_of}
use Rattle.inspection.specs.InspectGoose.{goose_read, goose_pair, stream_key, timed_numbers, stream_findings, retransmitted, goose_time_field}
use Rattle.inspection.specs.InspectGoose.{goose_reservation, goose_unknown, goose_allowed, blocked, goose_test, inspect_goose}
use Rattle.inspection.specs.InspectSv.{sv_read, svid_of, sv_pair, rate_findings, count_findings, sv_time_field, sv_reservation, sv_rule, sv_binding, inspect_sv}
use Rattle.inspection.specs.declared.report.Finding.{Finding}
use Rattle.inspection.specs.Report.{Checked, refusal, clock_findings, ended, reported}
use Rattle.inspection.proofs.CheckLaws.{goose_kept, sv_kept}
use Rattle.demand3.specs.Demand3.{Inspection, goose, sv, inspect, after_history, answers, Answer, answer_of, Premises}
use Rattle.demand3.proofs.AnswerLaws.{answer_from, reported_answer}
use Rattle.demand3.proofs.Remembering.{Remembering, remembering}

-- by the settings of a monitor, from tables
module _ (m : Monitor) (v : Remembering) where
  abbrev pub clock_of : List ℕ → ℕ × ℕ → TimeChecked
  clock_of mac pair = time_checked v.time_trackers (time_max_forward_jump m) (address_of mac) pair

  abbrev pub stream_of : GooseFrame → GooseChecked
  stream_of f = goose_checked v.goose_seq (stream_key (goose_read f).numbers) (timed_numbers (goose_read f).numbers)

  abbrev pub count_of : SvFrame → SvChecked
  count_of f = sv_checked v.sv_seq (plain_key (svid_of f)) f.smp_cnt

  -- a GOOSE frame that is not blocked
  abbrev pub unblocked : GooseFrame → Remembering
  unblocked f = record { sv_seq = v.sv_seq; goose_seq = (stream_of f).table; time_trackers = (clock_of f.src_mac (goose_pair f)).table }

  abbrev pub unblocked_findings : GooseFrame → List Finding
  unblocked_findings f = clock_findings (clock_of f.src_mac (goose_pair f)).alert ++ stream_findings (stream_of f).replay false

  abbrev pub next : Inspection → Remembering
  next (goose f) = cond (blocked m f.test) v (unblocked f)
  next (sv f) = record { sv_seq = (count_of f).table; goose_seq = v.goose_seq; time_trackers = (clock_of f.src_mac (sv_pair f)).table }

  abbrev pub findings : Inspection → List Finding
  findings (goose f) = cond (blocked m f.test) (refusal Medium PolicyViolation ∷ []) (unblocked_findings f)
  findings (sv f) = clock_findings (clock_of f.src_mac (sv_pair f)).alert ++ count_findings (sv_max_smp_cnt_gap m) [] (count_of f).outcome

-- ---- without reservations and publishers

not_bound : (t key : List ℕ) (address : ℕ) → t ≡ no_entries 210 → cb_checked t key address ≡ record { table = t; hijack = false }
unfolding cb_checked
not_bound t key address e =
    cond_holds (λ (c : CbChecked). c ≡ record { table = t; hijack = false }) (eqb (get_or key 1 0) 0) refl
    (ap (bound_by t address) (none_found_lem named t key (ap all_free e ∙ none_free 210 (omega arith))))

not_registered : (p : List ℕ) (address : ℕ) (svid : List ℕ) → sv_publisher_count p ≡ 0 → sv_publisher p address svid ≡ Err NotRegistered
unfolding sv_publisher last_below
not_registered p address svid e = rw e

no_rate : (frame_rate : ℕ) → rate_findings frame_rate 0 ≡ []
unfolding rate_findings
no_rate frame_rate = rw (and-false (ltb 0 frame_rate))

-- a monitor with the settings of another, without publishers, reservations and enforcement
pub record Plain (m n : Monitor) : Type 0 where
  pub settings : n.settings ≡ m.settings
  pub premises : Premises n
  pub free : n.cb_reservations ≡ no_entries 210

-- a monitor with these tables
abbrev with_tables : Monitor → Remembering → Monitor
with_tables n v = with_sv_seq (with_goose_seq (with_time_trackers n v.time_trackers) v.goose_seq) v.sv_seq

module _ {m n : Monitor} (q : Plain m n) where
  -- other totals and tables change none of these
  plain_with : (totals : List ℕ) (v : Remembering) → Plain m (with_totals (with_tables n v) totals)
  plain_with totals v = record {
    settings = q.settings;
    premises = record {
      no_goose_publisher = q.premises.no_goose_publisher;
      no_sv_publisher = q.premises.no_sv_publisher;
      not_enforced = q.premises.not_enforced;
      jump_limit = q.premises.jump_limit;
    };
    free = q.free;
  }

  counted_plain : (place : ℕ) → Plain m (frame_counted n place)
  unfolding frame_counted
  counted_plain place = plain_with _ (remembering n)

  no_hijack : (key : List ℕ) (address : ℕ) → cb_on n key address ≡ record { monitor = n; answer = false }
  unfolding cb_on
  no_hijack key address =
      ap (λ (c : CbChecked). after (with_cb_reservations n) (λ c. c.table) (λ c. c.hijack) c) (not_bound n.cb_reservations key address q.free)

  no_publisher : (address : ℕ) (svid : List ℕ) → sv_rule n address svid ≡ Ok 0
  unfolding sv_rule
  no_publisher address svid = let e = q.premises.no_sv_publisher in rw (not_registered n.sv_publishers address svid e, e, and-false)

not_asked : (m : Monitor) (n : GooseNumbers) → retx_enforce m ≡ false → retransmitted m n ≡ false
unfolding retransmitted
not_asked m n e = rw e

-- ---- one inspection

-- what the checks of a frame leave and find
abbrev checked : Monitor → Inspection → ℕ → Checked
checked n x place = ended (with_tables (frame_counted n place) (next n (remembering n) x)) (findings n (remembering n) x)

module _ {m n : Monitor} (q : Plain m n) where
  sv_checks : (f : SvFrame) → sv_binding (counted_sv n) (sv_read f) ≡ checked n (sv f) 2
  unfolding sv_binding sv_reservation sv_time_field time_field_on sv_seq_on frame_counted
  sv_checks f =
      let c = counted_plain q 2 in
      rw (no_publisher c (sv_read f).numbers.address (sv_read f).svid, no_hijack c (sv_read f).dataset (sv_read f).numbers.address, no_rate)

  goose_checks : (f : GooseFrame) → goose_test (counted_goose n) (goose_read f) ≡ checked n (goose f) 1
  unfolding goose_test goose_allowed goose_reservation goose_unknown goose_time_field time_field_on goose_seq_on frame_counted
  goose_checks f =
      rw (q.premises.no_goose_publisher, no_hijack (counted_plain q 1) (goose_read f).reservation (goose_read f).numbers.address) (go (blocked n f.test))
    where
      go : (b : Bool) → cond b (ended (counted_goose n) (refusal Medium PolicyViolation ∷ [])) (goose_time_field (goose_read f).numbers (counted_goose n))
          ≡ ended (with_tables (counted_goose n) (cond b (remembering n) (unblocked n (remembering n) f)))
          (cond b (refusal Medium PolicyViolation ∷ []) (unblocked_findings n (remembering n) f))
      go true = refl
      go false =
          let clocked = with_time_trackers (counted_goose n) (clock_of n (remembering n) f.src_mac (goose_pair f)).table in
          rw (not_asked clocked (goose_read f).numbers q.premises.not_enforced)

-- only the settings count
module _ {m n : Monitor} (q : Plain m n) (v : Remembering) where
  next_same : (x : Inspection) → next n v x ≡ next m v x
  next_same (goose f) = rw q.settings
  next_same (sv f) = rw q.settings

  findings_same : (x : Inspection) → findings n v x ≡ findings m v x
  findings_same (goose f) = rw q.settings
  findings_same (sv f) = rw q.settings

-- what an inspection leaves and answers
pub record Done (m n : Monitor) (x : Inspection) : Type 0 where
  pub plain : Plain m (inspect n x).monitor
  pub tables : remembering (inspect n x).monitor ≡ next m (remembering n) x
  pub answer : answer_of (inspect n x).answer ≡ answer_from true [] (findings m (remembering n) x)

module _ {m n : Monitor} (q : Plain m n) where
  done_by : (x : Inspection) (source source_number time place : ℕ) (c : Checked)
      → inspect n x ≡ reported source source_number time c → length c.answer ≤ 3 → c ≡ checked n x place → Done m n x
  unfolding reported with_alerts frame_counted
  done_by x source source_number time place c i few e =
      let r = i ∙ ap (reported source source_number time) e in
      record {
        plain = subst (λ (r : After InspectResult). Plain m r.monitor) (sym r) (plain_with q _ (next n (remembering n) x));
        tables = ap (λ (r : After InspectResult). remembering r.monitor) r ∙ next_same q (remembering n) x;
        answer =
            ap (λ (r : After InspectResult). answer_of r.answer) i
            ∙ reported_answer source source_number time c (omega arith)
            ∙ ap (λ (c : Checked). answer_from true [] c.answer) e
            ∙ ap (answer_from true []) (findings_same q (remembering n) x);
      }

  pub done : (x : Inspection) → Done m n x
  unfolding inspect_goose inspect_sv
  done (goose f) =
      done_by (goose f) source_goose f.st_num f.timestamp_us 1 (goose_test (counted_goose n) (goose_read f)) refl
      (goose_kept (counted_goose n) (goose_read f)).few (goose_checks q f)
  done (sv f) =
      done_by (sv f) source_sv f.smp_cnt f.timestamp_us 2 (sv_binding (counted_sv n) (sv_read f)) refl
      (sv_kept (counted_sv n) (sv_read f)).few (sv_checks q f)

-- ---- a list of inspections

abbrev pub next_all : Monitor → Remembering → List Inspection → Remembering
next_all m = foldl (next m)

abbrev pub answers_from : Monitor → Remembering → List Inspection → List Answer
answers_from m = outputs (λ v x. answer_from true [] (findings m v x)) (next m)

pub record Left (m n n' : Monitor) (h : List Inspection) : Type 0 where
  pub plain : Plain m n'
  pub tables : remembering n' ≡ next_all m (remembering n) h

-- the monitor that a history leaves
pub left : {m n : Monitor} → Plain m n → (h : List Inspection) → Left m n (after_history n h) h
left q [] = record { plain = q; tables = refl }
left {m = m} {n = n} q (x ∷ h) =
    let d = done q x in
    let r = left {m = m} {n = (inspect n x).monitor} d.plain h in
    record { plain = r.plain; tables = r.tables ∙ ap (λ (v : Remembering). next_all m v h) d.tables }

pub answers_from_lem : {m n : Monitor} → Plain m n → (further : List Inspection) → answers n further ≡ answers_from m (remembering n) further
answers_from_lem q [] = refl
answers_from_lem {m = m} {n = n} q (x ∷ further) =
    let d = done q x in rw (d.answer, answers_from_lem {m = m} {n = (inspect n x).monitor} d.plain further, d.tables)
