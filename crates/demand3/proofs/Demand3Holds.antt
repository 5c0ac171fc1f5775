-- Demand 3 holds: the tables answer as the remembered lists, and unequal lists are distinguished, streams first and then clocks.
use Prim.Native.Nat.{ℕ, suc, ◌≤◌, ◌<◌}
use mathlib.Core.Bool.{Bool, true, false, cond}
use mathlib.Core.List.{List, [], ◌∷◌, ◌++◌, foldl}
use mathlib.Core.Logic.{◌≢◌}
use mathlib.Core.Path.{◌≡◌, refl, sym, ap, ◌∙◌, subst}
use native.Mathlib.Decide.{ℕ_discrete}
use native.Mathlib.Omega.{arith}
use lib.ListN.{length, replicate, length-append}
use Rattle.records.specs.declared.frame.GooseFrame.{GooseFrame}
use Rattle.records.specs.declared.frame.SvFrame.{SvFrame}
use Rattle.records.specs.Decide.{decide_pair, decide_list}
use Rattle.records.specs.Legal.{OctetArray}
use Rattle.records.specs.Name.{padded}
use Rattle.records.specs.Remembered.{lookup}
use Rattle.records.proofs.Booleans.{and-false}
use Rattle.records.proofs.Distinguish.{outputs_last, answer, Legal as LegalFrame, Distinguished as ListsDistinguished, distinguish_histories}
use Rattle.records.proofs.KeyedLists.{All}
use Rattle.records.proofs.NameLaws.{name_padded}
use Rattle.records.proofs.OctetLaws.{array_zeros, array_padded}
use Rattle.tables.proofs.KeyLaws.{legal_name}
use Rattle.checks.specs.SvSeq.{sv_outcome}
use Rattle.checks.specs.TimeField.{has_clock, clock_alert}
use Rattle.monitor.specs.Monitor.{Monitor}
use Rattle.monitor.specs.Settings.{block_test_frames, time_max_forward_jump, sv_max_smp_cnt_gap}
use Rattle.inspection.specs.Address.{address_of}
use Rattle.inspection.specs.Calls.{Setting, configured_monitor}
use Rattle.inspection.specs.InspectGoose.{control_block, goose_numbers, goose_pair, blocked}
use Rattle.inspection.specs.InspectSv.{sv_pair, count_findings}
use Rattle.inspection.specs.declared.report.Finding.{Finding}
use Rattle.inspection.specs.Report.{clock_findings}
use Rattle.inspection.proofs.AddressLaws.{address_octets, address_octets_lem, address_back, address_fits}
use Rattle.demand3.specs.Demand3.{Inspection, goose, sv, Legal, after_history, answers, Answer, reaching, RememberedLists, remembered_lists}
use Rattle.demand3.specs.Demand3.{JumpLimit, Premises, Distinguished, SameAnswers, EqualLists, DemandFrom, Demand3, Demand3AfterReset}
use Rattle.demand3.proofs.Agreement.{lists_agree}
use Rattle.demand3.proofs.AnswerLaws.{answer_from, length_codes}
use Rattle.demand3.proofs.LegalLaws.{LegalOne, legal_cons}
use Rattle.demand3.proofs.MonitorTerms.{sv_reaches, goose_stream_of, goose_reaches, if_clock, clock_reaches, monitor_lists}
use Rattle.demand3.proofs.Observables.{Numbers, sv_answer, sv_observable, goose_answer, goose_observable, clock_observable}
use Rattle.demand3.proofs.PlainMonitor.{Plain, left as left_by, answers_from_lem}
use Rattle.demand3.proofs.RememberedLaws.{names≟, pairs≟, touch_sv, touch_goose, touch_clock, lists_after, moved, list_answer, list_answers}
use Rattle.demand3.proofs.RememberedLaws.{remembered_lists_lem, svid_legal, remembers_history, answers_lists, remembers_new}
use Rattle.demand3.proofs.Remembering.{configured_tables, configured_free}
use Rattle.demand3.proofs.ResetLaws.{set_calls, reset_set}

-- ---- inspections made of frames of keys

module _ {K I : Type 0} {P : K × I → Type 0} (make : (x : K × I) → P x → Inspection) where
  unfoldable pub made : (xs : List (K × I)) → All P xs → List Inspection
  made [] a = []
  made (x ∷ xs) a = make x a.0 ∷ made xs a.1

  -- frames, then one more
  abbrev pub with_last : (xs : List (K × I)) → All P xs → (x : K × I) → P x → List Inspection
  with_last xs a x p = made xs a ++ make x p ∷ []

module _ {K I : Type 0} {P : K × I → Type 0} (make : (x : K × I) → P x → Inspection) where
  pub length_made : (xs : List (K × I)) (a : All P xs) → length (made make xs a) ≡ length xs
  unfolding made
  length_made [] a = refl
  length_made (x ∷ xs) a = ap suc (length_made xs a.1)

  pub legal_made : ((x : K × I) (p : P x) → LegalOne (make x p)) → (xs : List (K × I)) (a : All P xs) (x : K × I) (p : P x) → Legal (with_last make xs a x p)
  unfolding made
  legal_made g [] a x p = legal_cons (make x p) [] (g x p) tt
  legal_made g (y ∷ xs) a x p = legal_cons (make y a.0) (with_last make xs a.1 x p) (g y a.0) (legal_made g xs a.1 x p)

  pub reaching_made : (reaches : Inspection → List (K × I)) → ((x : K × I) (p : P x) → reaches (make x p) ≡ x ∷ [])
      → (xs : List (K × I)) (a : All P xs) → reaching reaches (made make xs a) ≡ xs
  unfolding made
  reaching_made reaches e [] a = refl
  reaching_made reaches e (x ∷ xs) a = rw (e x a.0, reaching_made reaches e xs a.1)

-- ---- lists that further inspections tell apart

pub record Further (m : Monitor) (l l' : RememberedLists) : Type 0 where
  pub further : List Inspection
  pub legal : Legal further
  pub short : length further ≤ 16
  pub unequal : list_answers m l further ≢ list_answers m l' further

module _ {K I : Type 0} {P : K × I → Type 0} (m : Monitor) (l l' : RememberedLists) (make : (x : K × I) → P x → Inspection)
    (legal : (x : K × I) (p : P x) → LegalOne (make x p)) where
  -- fewer than sixteen inspections, and one that is answered differently after them
  unfoldable pub further_of : (xs : List (K × I)) (a : All P xs) (x : K × I) (p : P x) → length xs < 16
      → list_answer m (foldl (lists_after m) l (made make xs a)) (make x p) ≢ list_answer m (foldl (lists_after m) l' (made make xs a)) (make x p)
      → Further m l l'
  further_of xs a x p h d = record {
    further = with_last make xs a x p;
    legal = legal_made make legal xs a x p;
    short = rw (length-append (made make xs a) (make x p ∷ []), length_made make xs a) (omega arith);
    unequal = λ q. d (outputs_last (list_answer m) (lists_after m) l l' (made make xs a) (make x p) q);
  }

-- ---- SV streams: a frame without a clock

module _ (gap : ℕ) where
  unfoldable pub sv_frame_of : (x : List ℕ × ℕ) → LegalFrame (sv_observable gap) x → SvFrame
  sv_frame_of x p = record {
    src_mac = replicate 6 0;
    svid_len = length x.0;
    svid = padded x.0 (length x.0);
    smp_cnt = x.1;
    smp_rate = 0;
    dataset_ref_len = 0;
    dataset_ref = replicate 64 0;
    timestamp_us = 0;
    t_seconds_since_epoch = 0;
    t_fraction_of_second = 0;
  }

  unfoldable pub sv_inspection : (x : List ℕ × ℕ) → LegalFrame (sv_observable gap) x → Inspection
  sv_inspection x p = sv (sv_frame_of x p)

  pub sv_frame_legal : (x : List ℕ × ℕ) (p : LegalFrame (sv_observable gap) x) → LegalOne (sv_inspection x p)
  unfolding sv_frame_of sv_inspection LegalOne
  sv_frame_legal x p = record {
    source = array_zeros 6;
    svid_length = omega (arith, p.0.short);
    svid_octets = array_padded x.0 (length x.0) p.0.octets;
    count = p.1;
    rate = omega arith;
    dataset_length = omega arith;
    dataset_octets = array_zeros 64;
    time = omega arith;
    seconds = omega arith;
    fraction = omega arith;
  }

module _ (m : Monitor) where
  abbrev pub gap_of : ℕ
  gap_of = sv_max_smp_cnt_gap m

  pub sv_reaches_lem : (x : List ℕ × ℕ) (p : LegalFrame (sv_observable gap_of) x) → sv_reaches (sv_inspection gap_of x p) ≡ x ∷ []
  unfolding sv_frame_of sv_inspection
  sv_reaches_lem x p = rw (name_padded x.0 p.0.short)

  pub sv_answer_lem : (l : RememberedLists) (x : List ℕ × ℕ) (p : LegalFrame (sv_observable gap_of) x)
      → list_answer m l (sv_inspection gap_of x p) ≡ answer names≟ (sv_answer gap_of) l.sv_streams x
  unfolding sv_frame_of sv_inspection has_clock
  sv_answer_lem l x p = rw (name_padded x.0 p.0.short)

  unfoldable pub sv_further : (l l' : RememberedLists) → ListsDistinguished (sv_observable gap_of) 16 l.sv_streams l'.sv_streams → Further m l l'
  sv_further l l' d =
      further_of m l l' (sv_inspection gap_of) (sv_frame_legal gap_of) d.fillers d.legal d.last d.legal_last d.short
      (λ q. d.differ (sym (at l) ∙ q ∙ at l'))
    where
      fillers : List Inspection
      fillers = made (sv_inspection gap_of) d.fillers d.legal

      at : (z : RememberedLists) → list_answer m (foldl (lists_after m) z fillers) (sv_inspection gap_of d.last d.legal_last)
          ≡ answer names≟ (sv_answer gap_of) (foldl touch_sv z.sv_streams d.fillers) d.last
      at z =
          sv_answer_lem (foldl (lists_after m) z fillers) d.last d.legal_last
          ∙ ap (λ (y : List (List ℕ × ℕ)). answer names≟ (sv_answer gap_of) y d.last)
          (ap (λ (y : RememberedLists). y.sv_streams) (moved m z fillers)
          ∙ ap (λ (xs : List (List ℕ × ℕ)). foldl touch_sv z.sv_streams xs)
          (reaching_made (sv_inspection gap_of) sv_reaches sv_reaches_lem d.fillers d.legal))

-- ---- GOOSE streams: a frame without a clock, not a test

pub goose_frame_of : (x : (ℕ × ℕ) × (ℕ × ℕ)) → LegalFrame goose_observable x → GooseFrame
goose_frame_of x p = record {
  src_mac = address_octets x.0.0;
  go_cb_ref = padded p.0.1.name (length p.0.1.name);
  go_cb_ref_len = length p.0.1.name;
  st_num = x.1.0;
  sq_num = x.1.1;
  test = false;
  timestamp_us = 0;
  t_seconds_since_epoch = 0;
  t_fraction_of_second = 0;
}

pub goose_inspection : (x : (ℕ × ℕ) × (ℕ × ℕ)) → LegalFrame goose_observable x → Inspection
goose_inspection x p = goose (goose_frame_of x p)

pub goose_frame_legal : (x : (ℕ × ℕ) × (ℕ × ℕ)) (p : LegalFrame goose_observable x) → LegalOne (goose_inspection x p)
unfolding goose_frame_of goose_inspection LegalOne
goose_frame_legal x p = record {
  source = address_octets_lem x.0.0;
  control_block_octets = array_padded p.0.1.name (length p.0.1.name) p.0.1.named.octets;
  control_block_length = omega (arith, p.0.1.named.short);
  state_number = p.1.0;
  sequence_number = p.1.1;
  time = omega arith;
  seconds = omega arith;
  fraction = omega arith;
}

module _ (m : Monitor) where
  pub goose_reaches_lem : (x : (ℕ × ℕ) × (ℕ × ℕ)) (p : LegalFrame goose_observable x) → goose_reaches m (goose_inspection x p) ≡ x ∷ []
  unfolding goose_frame_of goose_inspection
  goose_reaches_lem x p =
      rw (and-false (block_test_frames m), address_back x.0.0 p.0.0, name_padded p.0.1.name p.0.1.named.short, p.0.1.hashes)

  pub goose_answer_lem : (l : RememberedLists) (x : (ℕ × ℕ) × (ℕ × ℕ)) (p : LegalFrame goose_observable x)
      → list_answer m l (goose_inspection x p) ≡ answer pairs≟ goose_answer l.goose_streams x
  unfolding goose_frame_of goose_inspection has_clock
  goose_answer_lem l x p =
      rw (and-false (block_test_frames m), address_back x.0.0 p.0.0, name_padded p.0.1.name p.0.1.named.short, p.0.1.hashes)

  pub goose_further : (l l' : RememberedLists) → ListsDistinguished goose_observable 16 l.goose_streams l'.goose_streams → Further m l l'
  goose_further l l' d =
      further_of m l l' goose_inspection goose_frame_legal d.fillers d.legal d.last d.legal_last d.short
      (λ q. d.differ (sym (at l) ∙ q ∙ at l'))
    where
      fillers : List Inspection
      fillers = made goose_inspection d.fillers d.legal

      at : (z : RememberedLists) → list_answer m (foldl (lists_after m) z fillers) (goose_inspection d.last d.legal_last)
          ≡ answer pairs≟ goose_answer (foldl touch_goose z.goose_streams d.fillers) d.last
      at z =
          goose_answer_lem (foldl (lists_after m) z fillers) d.last d.legal_last
          ∙ ap (λ (y : List ((ℕ × ℕ) × (ℕ × ℕ))). answer pairs≟ goose_answer y d.last)
          (ap (λ (y : RememberedLists). y.goose_streams) (moved m z fillers)
          ∙ ap (λ (xs : List ((ℕ × ℕ) × (ℕ × ℕ))). foldl touch_goose z.goose_streams xs)
          (reaching_made goose_inspection (goose_reaches m) goose_reaches_lem d.fillers d.legal))

-- ---- clocks: an SV frame of the empty name, whose stream is the same on both sides

pub one_more : (rest : List Finding) → answer_from true [] (clock_findings true ++ rest) ≢ answer_from true [] rest
one_more rest e =
    let n : suc (length rest) ≡ length rest =
    sym (length_codes false (31 ∷ []) rest ∙ omega arith) ∙ ap (λ (a : Answer). length a.1) e ∙ length_codes true [] rest ∙ omega arith in
    omega arith

-- an answer tells whether there was a clock alert, whatever else was found
pub clock_told : (b b' : Bool) (rest : List Finding) → answer_from true [] (clock_findings b ++ rest) ≡ answer_from true [] (clock_findings b' ++ rest) → b ≡ b'
clock_told true true rest e = refl
clock_told false false rest e = refl
clock_told true false rest e = absurd (one_more rest e)
clock_told false true rest e = absurd (one_more rest (sym e))

module _ (m : Monitor) (range : JumpLimit (time_max_forward_jump m)) where
  abbrev pub limit : ℕ
  limit = time_max_forward_jump m

  pub clock_frame_of : (x : ℕ × (ℕ × ℕ)) → LegalFrame (clock_observable limit range) x → SvFrame
  clock_frame_of x p = record {
    src_mac = address_octets x.0;
    svid_len = 0;
    svid = replicate 64 0;
    smp_cnt = 0;
    smp_rate = 0;
    dataset_ref_len = 0;
    dataset_ref = replicate 64 0;
    timestamp_us = 0;
    t_seconds_since_epoch = x.1.0;
    t_fraction_of_second = x.1.1;
  }

  pub clock_inspection : (x : ℕ × (ℕ × ℕ)) → LegalFrame (clock_observable limit range) x → Inspection
  clock_inspection x p = sv (clock_frame_of x p)

  pub clock_frame_legal : (x : ℕ × (ℕ × ℕ)) (p : LegalFrame (clock_observable limit range) x) → LegalOne (clock_inspection x p)
  unfolding clock_frame_of clock_inspection LegalOne
  clock_frame_legal x p = record {
    source = address_octets_lem x.0;
    svid_length = omega arith;
    svid_octets = array_zeros 64;
    count = omega arith;
    rate = omega arith;
    dataset_length = omega arith;
    dataset_octets = array_zeros 64;
    time = omega arith;
    seconds = p.1.0;
    fraction = p.1.1;
  }

  pub clock_reaches_lem : (x : ℕ × (ℕ × ℕ)) (p : LegalFrame (clock_observable limit range) x) → clock_reaches m (clock_inspection x p) ≡ x ∷ []
  unfolding clock_frame_of clock_inspection
  clock_reaches_lem x p = rw (p.1.2, address_back x.0 p.0)

  -- what is found of the stream of the empty name
  abbrev pub unnamed : List (List ℕ × ℕ) → List Finding
  unnamed l = count_findings (sv_max_smp_cnt_gap m) [] (sv_outcome (lookup names≟ [] l) 0)

  pub clock_answer_lem : (l : RememberedLists) (x : ℕ × (ℕ × ℕ)) (p : LegalFrame (clock_observable limit range) x)
      → list_answer m l (clock_inspection x p) ≡ answer_from true [] (clock_findings (answer ℕ_discrete (clock_alert limit) l.clocks x) ++ unnamed l.sv_streams)
  unfolding clock_frame_of clock_inspection
  clock_answer_lem l x p = rw (p.1.2, address_back x.0 p.0)

  pub clock_further : (l l' : RememberedLists) → l.sv_streams ≡ l'.sv_streams
      → ListsDistinguished (clock_observable limit range) 16 l.clocks l'.clocks → Further m l l'
  clock_further l l' e d =
      further_of m l l' clock_inspection clock_frame_legal d.fillers d.legal d.last d.legal_last d.short
      (λ q. d.differ (clock_told _ _ (unnamed (streams l')) (ap (found (alert l)) (sym same) ∙ sym (at l) ∙ q ∙ at l')))
    where
      fillers : List Inspection
      fillers = made clock_inspection d.fillers d.legal

      streams : RememberedLists → List (List ℕ × ℕ)
      streams z = foldl touch_sv z.sv_streams (reaching sv_reaches fillers)

      same : streams l ≡ streams l'
      same = ap (λ (y : List (List ℕ × ℕ)). foldl touch_sv y (reaching sv_reaches fillers)) e

      -- what is answered, by the clock's alert and the streams
      found : Bool → List (List ℕ × ℕ) → Answer
      found b y = answer_from true [] (clock_findings b ++ unnamed y)

      alert : RememberedLists → Bool
      alert z = answer ℕ_discrete (clock_alert limit) (foldl touch_clock z.clocks d.fillers) d.last

      at : (z : RememberedLists) → list_answer m (foldl (lists_after m) z fillers) (clock_inspection d.last d.legal_last)
          ≡ found (alert z) (streams z)
      at z =
          clock_answer_lem (foldl (lists_after m) z fillers) d.last d.legal_last
          ∙ ap (λ (y : RememberedLists). found (answer ℕ_discrete (clock_alert limit) y.clocks d.last) y.sv_streams) (moved m z fillers)
          ∙ ap (λ (xs : List (ℕ × (ℕ × ℕ))). found (answer ℕ_discrete (clock_alert limit) (foldl touch_clock z.clocks xs) d.last) (streams z))
          (reaching_made clock_inspection (clock_reaches m) clock_reaches_lem d.fillers d.legal)

-- ---- what legal histories leave

module _ (m : Monitor) where
  unfoldable pub sv_keys : (h : List Inspection) → Legal h → All (LegalFrame (sv_observable (sv_max_smp_cnt_gap m))) (reaching sv_reaches h)
  sv_keys [] g = tt
  sv_keys (goose f ∷ h) g = sv_keys h g.1
  sv_keys (sv f ∷ h) g = ((svid_legal f g.0, g.0.count), sv_keys h g.1)

  pub goose_keys : (h : List Inspection) → Legal h → All (LegalFrame goose_observable) (reaching (goose_reaches m) h)
  goose_keys [] g = tt
  goose_keys (sv f ∷ h) g = goose_keys h g.1
  goose_keys (goose f ∷ h) g = go (blocked m f.test) (goose_keys h g.1)
    where
      go : (b : Bool) → All (LegalFrame goose_observable) (reaching (goose_reaches m) h)
          → All (LegalFrame goose_observable) (cond b [] ((goose_stream_of f, goose_numbers f) ∷ []) ++ reaching (goose_reaches m) h)
      go true a = a
      go false a = (
        (
          (
            address_fits f.src_mac g.0.source,
            record {
              name = control_block f;
              named = legal_name 0 f.go_cb_ref f.go_cb_ref_len (omega arith) g.0.control_block_octets;
              hashes = refl;
            },
          ),
          (g.0.state_number, g.0.sequence_number),
        ),
        a,
      )

module _ (m : Monitor) (range : JumpLimit (time_max_forward_jump m)) where
  abbrev pub Clocks : List (ℕ × (ℕ × ℕ)) → Type 0
  Clocks = All (LegalFrame (clock_observable (time_max_forward_jump m) range))

  pub if_clock_lem : (mac : List ℕ) (pair : ℕ × ℕ) → OctetArray 6 mac → Numbers pair → (rest : List (ℕ × (ℕ × ℕ))) → Clocks rest
      → Clocks (if_clock (address_of mac) pair ++ rest)
  if_clock_lem mac pair g n rest a = go (has_clock pair) refl
    where
      go : (b : Bool) → has_clock pair ≡ b → Clocks (cond b ((address_of mac, pair) ∷ []) [] ++ rest)
      go true e = ((address_fits mac g, (n.0, n.1, e)), a)
      go false e = a

  pub clock_keys : (h : List Inspection) → Legal h → Clocks (reaching (clock_reaches m) h)
  clock_keys [] g = tt
  clock_keys (sv f ∷ h) g = if_clock_lem f.src_mac (sv_pair f) g.0.source (g.0.seconds, g.0.fraction) _ (clock_keys h g.1)
  clock_keys (goose f ∷ h) g = go (blocked m f.test) (clock_keys h g.1)
    where
      go : (b : Bool) → Clocks (reaching (clock_reaches m) h)
          → Clocks (cond b [] (if_clock (address_of f.src_mac) (goose_pair f)) ++ reaching (clock_reaches m) h)
      go true a = a
      go false a = if_clock_lem f.src_mac (goose_pair f) g.0.source (g.0.seconds, g.0.fraction) _ a

  -- unequal remembered lists: the first of the three that differ, SV streams, GOOSE streams, clocks
  unfoldable pub further_lists : (h h' : List Inspection) → Legal h → Legal h' → monitor_lists m h ≢ monitor_lists m h'
      → Further m (monitor_lists m h) (monitor_lists m h')
  further_lists h h' g g' n =
      go (decide_list (decide_pair names≟ ℕ_discrete) l.sv_streams l'.sv_streams)
      (decide_list (decide_pair pairs≟ pairs≟) l.goose_streams l'.goose_streams)
    where
      l : RememberedLists
      l = monitor_lists m h

      l' : RememberedLists
      l' = monitor_lists m h'

      go : Dec (l.sv_streams ≡ l'.sv_streams) → Dec (l.goose_streams ≡ l'.goose_streams) → Further m l l'
      go (no d) b =
          sv_further m l l'
          (distinguish_histories (sv_observable (sv_max_smp_cnt_gap m)) (reaching sv_reaches h) (reaching sv_reaches h') (sv_keys m h g) (sv_keys m h' g') d)
      go (yes e) (no d) =
          goose_further m l l'
          (distinguish_histories goose_observable (reaching (goose_reaches m) h) (reaching (goose_reaches m) h') (goose_keys m h g) (goose_keys m h' g') d)
      go (yes e) (yes e') =
          clock_further m range l l' e
          (distinguish_histories (clock_observable (time_max_forward_jump m) range) (reaching (clock_reaches m) h) (reaching (clock_reaches m) h')
          (clock_keys h g) (clock_keys h' g')
          (λ q. n (λ i. record { sv_streams = e i; goose_streams = e' i; clocks = q i })))

-- ---- the claim

pub lists≟ : Discrete RememberedLists
lists≟ l l' =
    go (decide_list (decide_pair names≟ ℕ_discrete) l.sv_streams l'.sv_streams)
    (decide_list (decide_pair pairs≟ pairs≟) l.goose_streams l'.goose_streams)
    (decide_list (decide_pair ℕ_discrete pairs≟) l.clocks l'.clocks)
  where
    go : Dec (l.sv_streams ≡ l'.sv_streams) → Dec (l.goose_streams ≡ l'.goose_streams) → Dec (l.clocks ≡ l'.clocks) → Dec (l ≡ l')
    go (yes a) (yes b) (yes c) = yes (λ i. record { sv_streams = a i; goose_streams = b i; clocks = c i })
    go (no n) b c = no (λ e. n (ap (λ (z : RememberedLists). z.sv_streams) e))
    go (yes a) (no n) c = no (λ e. n (ap (λ (z : RememberedLists). z.goose_streams) e))
    go (yes a) (yes b) (no n) = no (λ e. n (ap (λ (z : RememberedLists). z.clocks) e))

module _ (strict : Bool) (settings : List Setting) (p : Premises (configured_monitor strict settings)) where
  abbrev pub monitor : Monitor
  monitor = configured_monitor strict settings

  pub plain : Plain monitor monitor
  plain = record { settings = refl; premises = p; free = configured_free strict settings }

  -- the answers after a history are those of its remembered lists
  pub answers_remembered : (h further : List Inspection) → Legal h → Legal further
      → answers (after_history monitor h) further ≡ list_answers monitor (monitor_lists monitor h) further
  answers_remembered h further g k =
      let r = left_by plain h in
      answers_from_lem r.plain further
      ∙ rw (r.tables, configured_tables strict settings, ← remembered_lists_lem monitor h)
      (answers_lists monitor (remembers_history monitor remembers_new h g) further k)

  unfoldable pub distinguished : (h h' : List Inspection) → Legal h → Legal h' → ¬ EqualLists monitor h h' → Distinguished monitor h h'
  distinguished h h' g g' d =
      let n : monitor_lists monitor h ≢ monitor_lists monitor h' = λ e. d (lists_agree monitor h g ∙ e ∙ sym (lists_agree monitor h' g')) in
      let f = further_lists monitor p.jump_limit h h' g g' n in
      record {
        further = f.further;
        legal = f.legal;
        short = f.short;
        unequal = λ q. f.unequal (sym (answers_remembered h f.further g f.legal) ∙ q ∙ answers_remembered h' f.further g' f.legal);
      }

unfoldable pub demand_3 : Demand3
demand_3 strict settings p h h' g g' = record {
  equal_lists_exactly_when_same_answers = (same, only (lists≟ (remembered_lists (block_test_frames m) h) (remembered_lists (block_test_frames m) h')));
  unequal_lists_told_apart = distinguished strict settings p h h' g g';
}
  where
    m : Monitor
    m = configured_monitor strict settings

    same : EqualLists m h h' → SameAnswers m h h'
    same e further k =
        answers_remembered strict settings p h further g k
        ∙ ap (λ (l : RememberedLists). list_answers m l further) (sym (lists_agree m h g) ∙ e ∙ lists_agree m h' g')
        ∙ sym (answers_remembered strict settings p h' further g' k)

    only : Dec (EqualLists m h h') → SameAnswers m h h' → EqualLists m h h'
    only (yes e) a = e
    only (no d) a = let f = distinguished strict settings p h h' g g' d in absurd (f.unequal (a f.further f.legal))

-- a reset monitor with settings made is a new one with its set calls and these made
pub demand_3_after_reset : Demand3AfterReset
demand_3_after_reset strict calls settings = subst DemandFrom (sym (reset_set strict calls settings)) (demand_3 strict (set_calls calls ++ settings))
