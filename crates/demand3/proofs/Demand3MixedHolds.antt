-- Demand 3 holds for histories that mix raw and decoded frames.
use mathlib.Core.List.{List, [], ◌∷◌, ◌++◌, foldl-append, map}
use mathlib.Core.Path.{◌≡◌, refl, sym, ap, ◌∙◌}
use Rattle.records.specs.declared.frame.SvFrame.{SvFrame}
use Rattle.std.proofs.Common.{Result, Ok, Err}
use Rattle.records.specs.declared.error.VsError.{VsError}
use Rattle.sv_frame.specs.Sv.{sv_frame}
use Rattle.sv_frame.proofs.SvLegal.{IfLegal, sv_legal}
use Rattle.monitor.specs.Monitor.{Monitor}
use Rattle.inspection.specs.Calls.{configured_monitor}
use Rattle.inspection.specs.InspectSv.{parsed_inspected, inspect_raw_sv}
use Rattle.demand3.specs.Demand3.{Inspection, goose, sv, Legal, inspect, after_history, Answer, answer_of, answers, SameAnswers, Distinguished}
use Rattle.demand3.specs.Demand3Mixed.{Arrival, decoded, raw, LegalArrivals, parsed_inspections, inspections_of, inspections, after_arrival, after_arrivals}
use Rattle.demand3.specs.Demand3Mixed.{if_answered, answers_to, arrival_answers, SameArrivalAnswers, MixedDistinguished, Demand3Mixed}
use Rattle.demand3.proofs.Demand3Holds.{demand_3}
use Rattle.demand3.proofs.LegalLaws.{legal_append}

-- ---- one arrival

arrival_is : (m : Monitor) (x : Arrival) → after_arrival m x ≡ after_history m (inspections_of x)
unfolding inspect_raw_sv
arrival_is m (decoded x) = refl
arrival_is m (raw octets time) = go (sv_frame octets time)
  where
    go : (p : Result SvFrame VsError) → (parsed_inspected m p).monitor ≡ after_history m (parsed_inspections p)
    go (Ok f) = refl
    go (Err e) = refl

answers_is : (m : Monitor) (x : Arrival) → answers_to m x ≡ answers m (inspections_of x)
unfolding inspect_raw_sv
answers_is m (decoded x) = refl
answers_is m (raw octets time) = go (sv_frame octets time)
  where
    go :
        (p : Result SvFrame VsError)
        → if_answered (parsed_inspected m p).answer.answer (answer_of (parsed_inspected m p).answer.result) ≡ answers m (parsed_inspections p)
    go (Ok f) = refl
    go (Err e) = refl

-- ---- lists of them

answers_append : (m : Monitor) (h k : List Inspection) → answers m (h ++ k) ≡ answers m h ++ answers (after_history m h) k
answers_append m [] k = refl
answers_append m (x ∷ h) k = ap (λ (r : List Answer). answer_of (inspect m x).answer ∷ r) (answers_append (inspect m x).monitor h k)

pub after_arrivals_lem : (m : Monitor) (a : List Arrival) → after_arrivals m a ≡ after_history m (inspections a)
after_arrivals_lem m [] = refl
after_arrivals_lem m (x ∷ a) =
    after_arrivals_lem (after_arrival m x) a
    ∙ ap (λ (n : Monitor). after_history n (inspections a)) (arrival_is m x)
    ∙ sym (foldl-append (λ n x. (inspect n x).monitor) m (inspections_of x) (inspections a))

pub arrival_answers_lem : (m : Monitor) (a : List Arrival) → arrival_answers m a ≡ answers m (inspections a)
arrival_answers_lem m [] = refl
arrival_answers_lem m (x ∷ a) =
    (λ i. answers_is m x i ++ arrival_answers_lem (after_arrival m x) a i)
    ∙ ap (λ (n : Monitor). answers m (inspections_of x) ++ answers n (inspections a)) (arrival_is m x)
    ∙ sym (answers_append m (inspections_of x) (inspections a))

legal_inspections : (a : List Arrival) → LegalArrivals a → Legal (inspections a)
legal_inspections [] g = tt
legal_inspections (decoded x ∷ a) g = legal_append (x ∷ []) (inspections a) g.0 (legal_inspections a g.1)
legal_inspections (raw octets time ∷ a) g =
    legal_append (inspections_of (raw octets time)) (inspections a)
    (go (sv_frame octets time) (sv_legal octets time g.0.0 g.0.1)) (legal_inspections a g.1)
  where
    go : (p : Result SvFrame VsError) → IfLegal p → Legal (parsed_inspections p)
    go (Ok f) l = (l, tt)
    go (Err e) l = tt

-- decoded frames are arrivals too
arrivals : List Inspection → List Arrival
arrivals = map decoded

same_inspections : (h : List Inspection) → inspections (arrivals h) ≡ h
unfolding arrivals
same_inspections [] = refl
same_inspections (x ∷ h) = ap (λ (k : List Inspection). x ∷ k) (same_inspections h)

legal_arrivals : (h : List Inspection) → Legal h → LegalArrivals (arrivals h)
unfolding arrivals
legal_arrivals [] g = tt
legal_arrivals (goose f ∷ h) g = ((g.0, tt), legal_arrivals h g.1)
legal_arrivals (sv f ∷ h) g = ((g.0, tt), legal_arrivals h g.1)

-- what further inspections are answered after histories, further arrivals are after arrivals, and the other way round
module _ (m : Monitor) (a a' : List Arrival) where
  answers_after_lem : (b further : List Arrival) → arrival_answers (after_arrivals m b) further
      ≡ answers (after_history m (inspections b)) (inspections further)
  answers_after_lem b further = arrival_answers_lem (after_arrivals m b) further
      ∙ ap (λ (n : Monitor). answers n (inspections further)) (after_arrivals_lem m b)

  from_inspections : SameAnswers m (inspections a) (inspections a') → SameArrivalAnswers m a a'
  from_inspections e further g = answers_after_lem a further ∙ e (inspections further) (legal_inspections further g) ∙ sym (answers_after_lem a' further)

  to_inspections : SameArrivalAnswers m a a' → SameAnswers m (inspections a) (inspections a')
  to_inspections e further g =
      rw same_inspections at
      (sym (answers_after_lem a (arrivals further))
      ∙ e (arrivals further) (legal_arrivals further g)
      ∙ answers_after_lem a' (arrivals further))

  from_distinguished : Distinguished m (inspections a) (inspections a') → MixedDistinguished m a a'
  from_distinguished d = record {
    further = d.further;
    legal = d.legal;
    short = d.short;
    unequal = rw (← after_arrivals_lem m a, ← after_arrivals_lem m a') at d.unequal;
  }

pub demand_3_mixed : Demand3Mixed
demand_3_mixed strict settings p a a' g g' =
    let m = configured_monitor strict settings in
    let d = demand_3 strict settings p (inspections a) (inspections a') (legal_inspections a g) (legal_inspections a' g') in
    let e = d.equal_lists_exactly_when_same_answers in
    record {
      equal_lists_exactly_when_same_answers = (λ q. from_inspections m a a' (e.0 q), λ q. e.1 (to_inspections m a a' q));
      unequal_lists_told_apart = λ n. from_distinguished m a a' (d.unequal_lists_told_apart n);
    }
