-- The streams and clocks of a monitor hold the lists that its history leaves remembered, and answer as these.
use Prim.Native.Nat.{ℕ}
use mathlib.Core.Bool.{Bool, true, false, cond}
use mathlib.Core.List.{List, [], ◌∷◌, ◌++◌, foldl, foldl-append}
use mathlib.Core.Option.{Option, none, some}
use mathlib.Core.Path.{◌≡◌, refl, sym, ap, ◌∙◌}
use native.Mathlib.Decide.{ℕ_discrete}
use native.Mathlib.Omega.{arith}
use Rattle.records.specs.declared.alert.AlertSeverity.TheVariants.{Medium}
use Rattle.records.specs.declared.alert.AlertCode.TheVariants.{PolicyViolation}
use Rattle.records.specs.declared.frame.SvFrame.{SvFrame}
use Rattle.records.specs.Decide.{decide_pair, decide_list}
use Rattle.records.specs.Legal.{LegalSv}
use Rattle.records.specs.Remembered.{lookup}
use Rattle.records.proofs.ByLastUse.{touch, by_last_use}
use Rattle.records.proofs.Distinguish.{outputs}
use Rattle.records.proofs.Projected.{parts, part_of, lookup_parts, touch_parts}
use Rattle.tables.specs.Order.{no_entries}
use Rattle.tables.specs.Table.{value_of, stepped}
use Rattle.tables.proofs.KeyedTables.{Holds, holds_none, holds_after, value_held}
use Rattle.tables.proofs.KeyLaws.{LegalKey, legal_name}
use Rattle.tables.proofs.KeyMaps.{by_name, by_two_numbers, by_number}
use Rattle.tables.proofs.WordTables.{one_laws, two_laws, three_laws, length_none, rank_none}
use Rattle.checks.specs.GooseSeq.{replays, goose_replay, kept_numbers, goose_checked}
use Rattle.checks.specs.Keys.{plain_key, goose_key}
use Rattle.checks.specs.SvSeq.{kept_count, sv_outcome, sv_checked}
use Rattle.checks.specs.TimeField.{clocks, has_clock, clock_alert, TimeChecked, time_checked}
use Rattle.monitor.specs.Monitor.{Monitor}
use Rattle.monitor.specs.Settings.{time_max_forward_jump, sv_max_smp_cnt_gap}
use Rattle.inspection.specs.Address.{address_of}
use Rattle.inspection.specs.InspectGoose.{goose_numbers, goose_pair, stream_findings, blocked}
use Rattle.inspection.specs.InspectSv.{svid_of, sv_pair, count_findings}
use Rattle.inspection.specs.declared.report.Finding.{Finding}
use Rattle.inspection.specs.Report.{refusal, clock_findings}
use Rattle.demand3.specs.Demand3.{Inspection, goose, sv, Legal, Answer, reaching, RememberedLists}
use Rattle.demand3.proofs.AnswerLaws.{answer_from}
use Rattle.demand3.proofs.LegalLaws.{LegalOne, legal_parts}
use Rattle.demand3.proofs.MonitorTerms.{sv_reaches, goose_stream_of, goose_reaches, if_clock, clock_reaches, count_after, numbers_after, monitor_lists}
use Rattle.demand3.proofs.PlainMonitor.{unblocked, next, findings, next_all, answers_from}
use Rattle.demand3.proofs.Remembering.{Remembering, new_remembering}

-- ---- the three lists, frame by frame

abbrev pub names≟ : Discrete (List ℕ)
names≟ = decide_list ℕ_discrete

abbrev pub pairs≟ : Discrete (ℕ × ℕ)
pairs≟ = decide_pair ℕ_discrete ℕ_discrete

abbrev pub touch_sv : List (List ℕ × ℕ) → List ℕ × ℕ → List (List ℕ × ℕ)
touch_sv = touch names≟ 16 (λ n. n) count_after

abbrev pub touch_goose : List ((ℕ × ℕ) × (ℕ × ℕ)) → (ℕ × ℕ) × (ℕ × ℕ) → List ((ℕ × ℕ) × (ℕ × ℕ))
touch_goose = touch pairs≟ 16 (λ n. n) numbers_after

abbrev pub touch_clock : List (ℕ × (ℕ × ℕ)) → ℕ × (ℕ × ℕ) → List (ℕ × (ℕ × ℕ))
touch_clock = touch ℕ_discrete 16 (λ p. p) (λ kept p. p)

abbrev pub no_lists : RememberedLists
no_lists = record { sv_streams = []; goose_streams = []; clocks = [] }

abbrev pub replayed : Option (ℕ × ℕ) → ℕ × ℕ → Bool
replayed none new = false
replayed (some last) new = replays last new

module _ (m : Monitor) where
  abbrev pub lists_after : RememberedLists → Inspection → RememberedLists
  lists_after l x = record {
    sv_streams = foldl touch_sv l.sv_streams (sv_reaches x);
    goose_streams = foldl touch_goose l.goose_streams (goose_reaches m x);
    clocks = foldl touch_clock l.clocks (clock_reaches m x);
  }

  abbrev pub clock_answer : List (ℕ × (ℕ × ℕ)) → ℕ → ℕ × ℕ → Bool
  clock_answer l address pair = cond (has_clock pair) (clock_alert (time_max_forward_jump m) (lookup ℕ_discrete address l) pair) false

  -- what the checks find, from the lists
  abbrev pub list_findings : RememberedLists → Inspection → List Finding
  list_findings l (goose f) =
      cond (blocked m f.test) (refusal Medium PolicyViolation ∷ [])
      (clock_findings (clock_answer l.clocks (address_of f.src_mac) (goose_pair f))
      ++ stream_findings (replayed (lookup pairs≟ (goose_stream_of f) l.goose_streams) (goose_numbers f)) false)
  list_findings l (sv f) =
      clock_findings (clock_answer l.clocks (address_of f.src_mac) (sv_pair f))
      ++ count_findings (sv_max_smp_cnt_gap m) [] (sv_outcome (lookup names≟ (svid_of f) l.sv_streams) f.smp_cnt)

module _ (m : Monitor) where
  abbrev pub list_answer : RememberedLists → Inspection → Answer
  list_answer l x = answer_from true [] (list_findings m l x)

module _ (m : Monitor) where
  abbrev pub list_answers : RememberedLists → List Inspection → List Answer
  list_answers = outputs (list_answer m) (lists_after m)

-- the lists that a history leaves are those that are read off it
pub moved : (m : Monitor) (l : RememberedLists) (h : List Inspection) → foldl (lists_after m) l h ≡ record {
  sv_streams = foldl touch_sv l.sv_streams (reaching sv_reaches h);
  goose_streams = foldl touch_goose l.goose_streams (reaching (goose_reaches m) h);
  clocks = foldl touch_clock l.clocks (reaching (clock_reaches m) h);
}
moved m l [] = refl
moved m l (x ∷ h) =
    moved m (lists_after m l x) h ∙ (λ i. record {
      sv_streams = sym (foldl-append touch_sv l.sv_streams (sv_reaches x) (reaching sv_reaches h)) i;
      goose_streams = sym (foldl-append touch_goose l.goose_streams (goose_reaches m x) (reaching (goose_reaches m) h)) i;
      clocks = sym (foldl-append touch_clock l.clocks (clock_reaches m x) (reaching (clock_reaches m) h)) i;
    })

pub remembered_lists_lem : (m : Monitor) (h : List Inspection) → foldl (lists_after m) no_lists h ≡ monitor_lists m h
remembered_lists_lem m h =
    moved m no_lists h ∙ (λ i. record {
      sv_streams = by_last_use names≟ 16 (λ n. n) count_after (reaching sv_reaches h) i;
      goose_streams = by_last_use pairs≟ 16 (λ n. n) numbers_after (reaching (goose_reaches m) h) i;
      clocks = by_last_use ℕ_discrete 16 (λ p. p) (λ kept p. p) (reaching (clock_reaches m) h) i;
    })

-- ---- SV streams

abbrev pub HoldsSv : List ℕ → List (List ℕ × ℕ) → Type 0
HoldsSv = Holds (by_name one_laws 0)

pub svid_legal : (f : SvFrame) → LegalSv f → LegalKey 0 (svid_of f)
svid_legal f g = legal_name 0 f.svid f.svid_len (omega arith) g.svid_octets

module _ {t : List ℕ} {l : List (List ℕ × ℕ)} (r : HoldsSv t l) (f : SvFrame) (g : LegalSv f) where
  sv_next : HoldsSv (sv_checked t (plain_key (svid_of f)) f.smp_cnt).table (touch_sv l (svid_of f, f.smp_cnt))
  unfolding sv_checked
  sv_next = holds_after (by_name one_laws 0) (λ n. n) kept_count r (svid_of f, f.smp_cnt) (svid_legal f g)

  sv_outcome_lem : (sv_checked t (plain_key (svid_of f)) f.smp_cnt).outcome ≡ sv_outcome (lookup names≟ (svid_of f) l) f.smp_cnt
  unfolding sv_checked
  sv_outcome_lem = ap (λ (o : Option ℕ). sv_outcome o f.smp_cnt) (value_held (by_name one_laws 0) r (svid_of f) (svid_legal f g))

-- ---- GOOSE streams: the table keeps times beside the numbers

abbrev numbers_of : (ℕ × ℕ) × ℕ → ℕ × ℕ
numbers_of w = w.0

pub record HoldsGoose (t : List ℕ) (l : List ((ℕ × ℕ) × (ℕ × ℕ))) : Type 0 where
  pub timed : List ((ℕ × ℕ) × ((ℕ × ℕ) × ℕ))
  pub holds : Holds (by_two_numbers three_laws) t timed
  pub numbers : parts numbers_of timed ≡ l

kept_numbers_lem : (w i : (ℕ × ℕ) × ℕ) → numbers_of (kept_numbers w i) ≡ numbers_after (numbers_of w) (numbers_of i)
kept_numbers_lem w i = go (replays w.0 i.0)
  where
    go : (r : Bool) → (cond r w i).0 ≡ cond r w.0 i.0
    go true = refl
    go false = refl

replay_numbers : (o : Option ((ℕ × ℕ) × ℕ)) (new : ℕ × ℕ) → goose_replay o new ≡ replayed (part_of numbers_of o) new
replay_numbers none new = refl
replay_numbers (some last) new = refl

module _ {t : List ℕ} {l : List ((ℕ × ℕ) × (ℕ × ℕ))} (r : HoldsGoose t l) (k : ℕ × ℕ) (new : (ℕ × ℕ) × ℕ) where
  goose_next : HoldsGoose (goose_checked t (goose_key k.0 k.1) new).table (touch_goose l (k, new.0))
  unfolding goose_checked
  goose_next = record {
    timed = touch pairs≟ 16 (λ n. n) kept_numbers r.timed (k, new);
    holds = holds_after (by_two_numbers three_laws) (λ n. n) kept_numbers r.holds (k, new) tt;
    numbers =
        sym (touch_parts numbers_of numbers_of pairs≟ 16 (λ n. n) kept_numbers (λ n. n) numbers_after (λ i. refl) kept_numbers_lem r.timed k new)
        ∙ ap (λ (z : List ((ℕ × ℕ) × (ℕ × ℕ))). touch_goose z (k, new.0)) r.numbers;
  }

  goose_replay_lem : (goose_checked t (goose_key k.0 k.1) new).replay ≡ replayed (lookup pairs≟ k l) new.0
  unfolding goose_checked
  goose_replay_lem =
      ap (λ (o : Option ((ℕ × ℕ) × ℕ)). goose_replay o new.0) (value_held (by_two_numbers three_laws) r.holds k tt)
      ∙ replay_numbers (lookup pairs≟ k r.timed) new.0
      ∙ ap (λ (o : Option (ℕ × ℕ)). replayed o new.0) (sym (lookup_parts numbers_of pairs≟ k r.timed))
      ∙ ap (λ (z : List ((ℕ × ℕ) × (ℕ × ℕ))). replayed (lookup pairs≟ k z) new.0) r.numbers

-- ---- clocks

abbrev pub HoldsClocks : List ℕ → List (ℕ × (ℕ × ℕ)) → Type 0
HoldsClocks = Holds (by_number two_laws)

module _ {t : List ℕ} {l : List (ℕ × (ℕ × ℕ))} (r : HoldsClocks t l) (limit address : ℕ) (pair : ℕ × ℕ) where
  -- a pair that is checked, or not
  abbrev clock_if : Bool → TimeChecked
  clock_if c =
      cond c (record { table = stepped clocks (λ i. i) (λ kept i. i) t address pair; alert = clock_alert limit (value_of clocks t address) pair })
      (record { table = t; alert = false })

  clock_next : HoldsClocks (time_checked t limit address pair).table (foldl touch_clock l (if_clock address pair))
  unfolding time_checked
  clock_next = go (has_clock pair)
    where
      go : (c : Bool) → HoldsClocks (clock_if c).table (foldl touch_clock l (cond c ((address, pair) ∷ []) []))
      go true = holds_after (by_number two_laws) (λ p. p) (λ kept p. p) r (address, pair) tt
      go false = r

  clock_alert_lem : (time_checked t limit address pair).alert ≡ cond (has_clock pair) (clock_alert limit (lookup ℕ_discrete address l) pair) false
  unfolding time_checked
  clock_alert_lem =
      go (has_clock pair)
      ∙ ap (λ (o : Option (ℕ × ℕ)). cond (has_clock pair) (clock_alert limit o pair) false) (value_held (by_number two_laws) r address tt)
    where
      go : (c : Bool) → (clock_if c).alert ≡ cond c (clock_alert limit (value_of clocks t address) pair) false
      go true = refl
      go false = refl

-- ---- the three together

pub record Remembers (v : Remembering) (l : RememberedLists) : Type 0 where
  pub sv_seq : HoldsSv v.sv_seq l.sv_streams
  pub goose_seq : HoldsGoose v.goose_seq l.goose_streams
  pub time_trackers : HoldsClocks v.time_trackers l.clocks

module _ (m : Monitor) {v : Remembering} {l : RememberedLists} (r : Remembers v l) where
  remembers_next : (x : Inspection) → LegalOne x → Remembers (next m v x) (lists_after m l x)
  unfolding LegalOne
  remembers_next (sv f) g = record {
    sv_seq = sv_next r.sv_seq f g;
    goose_seq = r.goose_seq;
    time_trackers = clock_next r.time_trackers (time_max_forward_jump m) (address_of f.src_mac) (sv_pair f);
  }
  remembers_next (goose f) g = go (blocked m f.test)
    where
      go : (b : Bool) → Remembers (cond b v (unblocked m v f)) (record {
        sv_streams = l.sv_streams;
        goose_streams = foldl touch_goose l.goose_streams (cond b [] ((goose_stream_of f, goose_numbers f) ∷ []));
        clocks = foldl touch_clock l.clocks (cond b [] (if_clock (address_of f.src_mac) (goose_pair f)));
      })
      go true = r
      go false = record {
        sv_seq = r.sv_seq;
        goose_seq = goose_next r.goose_seq (goose_stream_of f) (goose_numbers f, f.timestamp_us);
        time_trackers = clock_next r.time_trackers (time_max_forward_jump m) (address_of f.src_mac) (goose_pair f);
      }

  findings_lists : (x : Inspection) → LegalOne x → findings m v x ≡ list_findings m l x
  unfolding LegalOne
  findings_lists (sv f) g =
      rw (clock_alert_lem r.time_trackers (time_max_forward_jump m) (address_of f.src_mac) (sv_pair f), sv_outcome_lem r.sv_seq f g)
  findings_lists (goose f) g =
      rw (
        clock_alert_lem r.time_trackers (time_max_forward_jump m) (address_of f.src_mac) (goose_pair f),
        goose_replay_lem r.goose_seq (goose_stream_of f) (goose_numbers f, f.timestamp_us),
      )

module _ (m : Monitor) where
  pub remembers_history : {v : Remembering} {l : RememberedLists} → Remembers v l → (h : List Inspection) → Legal h
      → Remembers (next_all m v h) (foldl (lists_after m) l h)
  remembers_history r [] g = r
  remembers_history {v = v} {l = l} r (x ∷ h) g =
      let p = legal_parts x h g in remembers_history {v = next m v x} {l = lists_after m l x} (remembers_next m r x p.0) h p.1

  pub answers_lists : {v : Remembering} {l : RememberedLists} → Remembers v l → (further : List Inspection) → Legal further
      → answers_from m v further ≡ list_answers m l further
  answers_lists r [] g = refl
  answers_lists {v = v} {l = l} r (x ∷ further) g =
      let p = legal_parts x further g in
      rw (findings_lists m r x p.0, answers_lists {v = next m v x} {l = lists_after m l x} (remembers_next m r x p.0) further p.1)

-- nothing remembered
pub remembers_new : Remembers new_remembering no_lists
remembers_new = record {
  sv_seq = holds_none (by_name one_laws 0) (no_entries 178) (length_none 178) (rank_none 178 (omega arith));
  goose_seq = record {
    timed = [];
    holds = holds_none (by_two_numbers three_laws) (no_entries 210) (length_none 210) (rank_none 210 (omega arith));
    numbers = refl;
  };
  time_trackers = holds_none (by_number two_laws) (no_entries 50) (length_none 50) (rank_none 50 (omega arith));
}
