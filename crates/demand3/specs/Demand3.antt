-- Demand 3 (01, "Remembered tables"): two histories leave equal remembered lists exactly when every further list of inspections gets equal answers.
-- A history has its earliest frame first. A remembered list has its latest frame first, and so has the past that `remembered` reads: `latest16` turns
-- the frames round. What is read of a frame is said here in 01's words; that the monitor reads the same is proved (proofs/Agreement.antt). Of the
-- monitor the claim uses its inspections, three settings and the numbers of publishers; of the port besides FNV-1a and the numbers of codes.
use Rattle.std.specs.Prelude.{ℕ, min, ◌+◌, ◌*◌, ◌-◌, ◌≤◌, Bool, false, ◌&&◌, ◌||◌, cond, ◌≢◌, ◌↔◌, ◌≡◌, eqb, ltb, leb, length, take}
use mathlib.Core.List.{List, [], ◌∷◌, ◌++◌, map, foldl, reverse}
use Rattle.std.proofs.Math.Decide.{ℕ_discrete}
use Rattle.records.specs.declared.alert.CodedAlert.{CodedAlert}
use Rattle.records.specs.declared.frame.GooseFrame.{GooseFrame}
use Rattle.records.specs.declared.frame.SvFrame.{SvFrame}
use Rattle.records.specs.declared.result.InspectResult.{InspectResult}
use Rattle.records.specs.Alert.{code_number}
use Rattle.records.specs.Decide.{decide_pair, decide_list}
use Rattle.records.specs.Hash.{fnv1a}
use Rattle.records.specs.Legal.{LegalGoose, LegalSv}
use Rattle.records.specs.Remembered.{remembered}
use Rattle.checks.specs.GoosePublisher.{goose_publisher_count}
use Rattle.checks.specs.SvPublisher.{sv_publisher_count}
use Rattle.monitor.specs.Monitor.{Monitor}
use Rattle.monitor.specs.Parts.{After}
use Rattle.monitor.specs.Reset.{new_monitor, reset_monitor}
use Rattle.monitor.specs.Settings.{block_test_frames, retx_enforce, time_max_forward_jump}
use Rattle.inspection.specs.Calls.{Call, Setting, setting_made, configured_monitor, after_calls}
use Rattle.inspection.specs.InspectGoose.{inspect_goose}
use Rattle.inspection.specs.InspectSv.{inspect_sv}

-- ---- histories and answers

-- a history is a list of these, refused ones included
pub data Inspection : Type 0 where
  goose : GooseFrame → Inspection
  sv : SvFrame → Inspection

-- frames within their types, and nothing more
abbrev pub Legal : List Inspection → Type 0
Legal [] = Unit {0}
Legal (goose f ∷ h) = LegalGoose f × Legal h
Legal (sv f ∷ h) = LegalSv f × Legal h

-- the inspection of a frame, decoded by the host
abbrev pub inspect : Monitor → Inspection → After InspectResult
inspect m (goose f) = inspect_goose m f
inspect m (sv f) = inspect_sv m f

-- each call gets the monitor that the one before it returned
abbrev pub after_history : Monitor → List Inspection → Monitor
after_history m h = foldl (λ n x. (inspect n x).monitor) m h

-- an answer: the allowed flag and the alert codes of slots 0 to count − 1, in order
abbrev pub Answer : Type 0
Answer = Bool × List ℕ

abbrev pub answer_of : InspectResult → Answer
answer_of r = (r.allowed, map (λ (a : CodedAlert). code_number a.code) (take r.alert_count r.alerts))

-- the answers to further frames, each from the monitor that the frame before it left
abbrev pub answers : Monitor → List Inspection → List Answer
answers m [] = []
answers m (x ∷ further) = answer_of (inspect m x).answer ∷ answers (inspect m x).monitor further

-- ---- what is read of a frame

-- a source address: its six octets as one number, the first the most significant, so that no two addresses have one number
abbrev pub Address : Type 0
Address = ℕ

abbrev pub address : List ℕ → Address
address octets = foldl (λ n octet. n * 256 + octet) 0 octets

-- a name: stated lengths above 64 count as 64
abbrev pub name : List ℕ → ℕ → List ℕ
name octets len = take (min len 64) octets

-- an SV stream is keyed by its svID
abbrev pub SvId : Type 0
SvId = List ℕ

abbrev pub sv_id : SvFrame → SvId
sv_id f = name f.svid f.svid_len

-- a GOOSE stream is keyed by its address and FNV-1a of its control block's name
abbrev pub GooseKey : Type 0
GooseKey = Address × ℕ

abbrev pub goose_key : GooseFrame → GooseKey
goose_key f = (address f.src_mac, fnv1a (name f.go_cb_ref f.go_cb_ref_len))

abbrev pub StNumSqNum : Type 0
StNumSqNum = ℕ × ℕ

abbrev pub st_num_sq_num : GooseFrame → StNumSqNum
st_num_sq_num f = (f.st_num, f.sq_num)

-- the pair of a clock: seconds and fraction
abbrev pub TimePair : Type 0
TimePair = ℕ × ℕ

abbrev pub goose_pair : GooseFrame → TimePair
goose_pair f = (f.t_seconds_since_epoch, f.t_fraction_of_second)

abbrev pub sv_pair : SvFrame → TimePair
sv_pair f = (f.t_seconds_since_epoch, f.t_fraction_of_second)

-- ---- which frames reach a check; [] where a frame does not

-- every SV frame reaches the check of its stream
abbrev pub sv_reaches : Inspection → List (SvId × ℕ)
sv_reaches (goose f) = []
sv_reaches (sv f) = (sv_id f, f.smp_cnt) ∷ []

-- a pair (0, 0) is neither checked nor kept
abbrev pub unless_absent : {X : Type 0} → TimePair → List X → List X
unless_absent pair reached = cond (eqb pair.0 0 && eqb pair.1 0) [] reached

module _ (blocking : Bool) where
  -- a GOOSE test frame while these are blocked reaches neither check
  abbrev pub unless_blocked : {X : Type 0} → GooseFrame → List X → List X
  unless_blocked f reached = cond (f.test && blocking) [] reached

  abbrev pub goose_reaches : Inspection → List (GooseKey × StNumSqNum)
  goose_reaches (goose f) = unless_blocked f ((goose_key f, st_num_sq_num f) ∷ [])
  goose_reaches (sv f) = []

  -- clocks are shared by GOOSE and SV
  abbrev pub clock_reaches : Inspection → List (Address × TimePair)
  clock_reaches (goose f) = unless_blocked f (unless_absent (goose_pair f) ((address f.src_mac, goose_pair f) ∷ []))
  clock_reaches (sv f) = unless_absent (sv_pair f) ((address f.src_mac, sv_pair f) ∷ [])

-- of the frames of a history, those that reach a check
abbrev pub reaching : {X : Type 0} → (Inspection → List X) → List Inspection → List X
reaching reaches [] = []
reaching reaches (x ∷ h) = reaches x ++ reaching reaches h

-- ---- the remembered lists

-- a count n is a replay of the last one c where it equals c, or is below c by 32766 or less
abbrev pub replays_count : ℕ → ℕ → Bool
replays_count c n = leb n c && leb (c - n) 32766

-- lower stNum, or equal stNum with sqNum not above the last
abbrev pub replays_numbers : StNumSqNum → StNumSqNum → Bool
replays_numbers last new = ltb new.0 last.0 || (eqb new.0 last.0 && leb new.1 last.1)

-- a replay leaves the stream's numbers, any other frame replaces them
abbrev pub count_after : ℕ → ℕ → ℕ
count_after last new = cond (replays_count last new) last new

abbrev pub numbers_after : StNumSqNum → StNumSqNum → StNumSqNum
numbers_after last new = cond (replays_numbers last new) last new

-- a clock is its last pair
abbrev pub pair_after : TimePair → TimePair → TimePair
pair_after last new = new

-- the latest 16 distinct keys by last frame. A key begins afresh, with that frame's numbers, at its first frame and whenever 16 or more distinct
-- other keys came since its last; otherwise `step` says what a frame leaves
abbrev pub latest16 : {K W : Type 0} → Discrete K → (W → W → W) → List (K × W) → List (K × W)
latest16 dec step frames = remembered dec 16 (λ new. new) step (reverse frames)

pub record RememberedLists : Type 0 where
  pub sv_streams : List (SvId × ℕ)
  pub goose_streams : List (GooseKey × StNumSqNum)
  pub clocks : List (Address × TimePair)

-- the lists that a history leaves, read off its frames and the setting that blocks test frames
abbrev pub remembered_lists : Bool → List Inspection → RememberedLists
remembered_lists blocking h =
    record {
      sv_streams = latest16 (decide_list ℕ_discrete) count_after (reaching sv_reaches h);
      goose_streams = latest16 (decide_pair ℕ_discrete ℕ_discrete) numbers_after (reaching (goose_reaches blocking) h);
      clocks = latest16 ℕ_discrete pair_after (reaching (clock_reaches blocking) h);
    }

-- ---- the claim

-- a forward-jump limit of 1 to 4,294,967,294
abbrev pub JumpLimit : ℕ → Type 0
JumpLimit limit = (1 ≤ limit) × (limit ≤ 4294967294)

-- no publisher registered; retransmission enforcement off; forward-jump limit in range
pub record Premises (m : Monitor) : Type 0 where
  pub no_goose_publisher : goose_publisher_count m.goose_publishers ≡ 0
  pub no_sv_publisher : sv_publisher_count m.sv_publishers ≡ 0
  pub not_enforced : retx_enforce m ≡ false
  pub jump_limit : JumpLimit (time_max_forward_jump m)

module _ (m : Monitor) where
  module _ (h h' : List Inspection) where
    -- both leave equal lists: keys, numbers or pairs, and order
    abbrev pub EqualLists : Type 0
    EqualLists = remembered_lists (block_test_frames m) h ≡ remembered_lists (block_test_frames m) h'

    -- every further list gets the same answers after both
    abbrev pub SameAnswers : Type 0
    SameAnswers = (further : List Inspection) → Legal further → answers (after_history m h) further ≡ answers (after_history m h') further

    -- some further list of at most 16 inspections gets unequal answers
    pub record Distinguished : Type 0 where
      pub further : List Inspection
      pub legal : Legal further
      pub short : length further ≤ 16
      pub unequal : answers (after_history m h) further ≢ answers (after_history m h') further

    -- the two sentences of the demand
    pub record Sentences : Type 0 where
      pub equal_lists_exactly_when_same_answers : EqualLists ↔ SameAnswers
      pub unequal_lists_told_apart : ¬ EqualLists → Distinguished

  -- for every two legal histories from this monitor, of any length
  abbrev pub DemandFrom : Type 0
  DemandFrom = Premises m → (h h' : List Inspection) → Legal h → Legal h' → Sentences h h'

-- for a new monitor with its settings made, whatever settings keep the premises
abbrev pub Demand3 : Type 0
Demand3 = (strict : Bool) (settings : List Setting) → DemandFrom (configured_monitor strict settings)

-- and for one that was reset and then set, whatever calls came before
abbrev pub Demand3AfterReset : Type 0
Demand3AfterReset =
    (strict : Bool) (calls : List Call) (settings : List Setting)
    → DemandFrom (foldl setting_made (reset_monitor (after_calls (new_monitor strict) calls)) settings)
