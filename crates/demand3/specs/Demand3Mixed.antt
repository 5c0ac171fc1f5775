-- Demand 3 for histories that mix raw and decoded frames (01: a raw frame counts as the frame read from it, an unreadable one is no call).
use Rattle.std.specs.Prelude.{ℕ, ◌≤◌, ◌<◌, ◌^◌, Bool, ◌≢◌, ◌↔◌, ◌≡◌, length, Result, Ok, Err}
use mathlib.Core.List.{List, [], ◌∷◌, ◌++◌, foldl}
use Rattle.records.specs.declared.error.VsError.{VsError}
use Rattle.records.specs.declared.frame.SvFrame.{SvFrame}
use Rattle.records.specs.Legal.{Octets}
use Rattle.sv_frame.specs.Sv.{sv_frame}
use Rattle.monitor.specs.Monitor.{Monitor}
use Rattle.inspection.specs.Calls.{Setting, configured_monitor}
use Rattle.inspection.specs.InspectSv.{inspect_raw_sv}
use Rattle.demand3.specs.Demand3.{Inspection, sv, Legal, inspect, Answer, answer_of, answers, Premises, EqualLists}

-- a frame that the host decoded, or the octets and the time of an SV frame
pub data Arrival : Type 0 where
  decoded : Inspection → Arrival
  raw : List ℕ → ℕ → Arrival

-- arrivals within their types
abbrev pub LegalArrivals : List Arrival → Type 0
LegalArrivals [] = Unit {0}
LegalArrivals (decoded x ∷ a) = Legal (x ∷ []) × LegalArrivals a
LegalArrivals (raw octets time ∷ a) = (Octets octets × (time < 2 ^ 64)) × LegalArrivals a

-- the inspections that arrivals are: an unreadable frame is none
abbrev pub parsed_inspections : Result SvFrame VsError → List Inspection
parsed_inspections (Ok f) = sv f ∷ []
parsed_inspections (Err e) = []

abbrev pub inspections_of : Arrival → List Inspection
inspections_of (decoded x) = x ∷ []
inspections_of (raw octets time) = parsed_inspections (sv_frame octets time)

abbrev pub inspections : List Arrival → List Inspection
inspections [] = []
inspections (x ∷ a) = inspections_of x ++ inspections a

-- the monitor after arrivals
abbrev pub after_arrival : Monitor → Arrival → Monitor
after_arrival m (decoded x) = (inspect m x).monitor
after_arrival m (raw octets time) = (inspect_raw_sv m octets time).monitor

abbrev pub after_arrivals : Monitor → List Arrival → Monitor
after_arrivals m a = foldl after_arrival m a

-- the answers to arrivals: none to an unreadable frame
abbrev pub if_answered : Result Unit VsError → Answer → List Answer
if_answered (Ok x) answer = answer ∷ []
if_answered (Err e) answer = []

abbrev pub answers_to : Monitor → Arrival → List Answer
answers_to m (decoded x) = answer_of (inspect m x).answer ∷ []
answers_to m (raw octets time) = if_answered (inspect_raw_sv m octets time).answer.answer (answer_of (inspect_raw_sv m octets time).answer.result)

abbrev pub arrival_answers : Monitor → List Arrival → List Answer
arrival_answers m [] = []
arrival_answers m (x ∷ further) = answers_to m x ++ arrival_answers (after_arrival m x) further

module _ (m : Monitor) where
  module _ (a a' : List Arrival) where
    -- every further list of arrivals gets the same answers after both
    abbrev pub SameArrivalAnswers : Type 0
    SameArrivalAnswers =
        (further : List Arrival) → LegalArrivals further → arrival_answers (after_arrivals m a) further ≡ arrival_answers (after_arrivals m a') further

    -- some further list of at most 16 inspections gets unequal answers
    pub record MixedDistinguished : Type 0 where
      pub further : List Inspection
      pub legal : Legal further
      pub short : length further ≤ 16
      pub unequal : answers (after_arrivals m a) further ≢ answers (after_arrivals m a') further

    -- the two sentences of the demand, with the lists of the inspections that arrivals are
    pub record MixedSentences : Type 0 where
      pub equal_lists_exactly_when_same_answers : EqualLists m (inspections a) (inspections a') ↔ SameArrivalAnswers
      pub unequal_lists_told_apart : ¬ EqualLists m (inspections a) (inspections a') → MixedDistinguished

  -- for every two legal lists of arrivals from this monitor, of any length
  abbrev pub MixedDemandFrom : Type 0
  MixedDemandFrom = Premises m → (a a' : List Arrival) → LegalArrivals a → LegalArrivals a' → MixedSentences a a'

-- for a new monitor with its settings made, whatever settings keep the premises
abbrev pub Demand3Mixed : Type 0
Demand3Mixed = (strict : Bool) (settings : List Setting) → MixedDemandFrom (configured_monitor strict settings)
