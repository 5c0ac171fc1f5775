-- Demand 3 at concrete settings and histories: histories with their lists and answers written out, and the theorem applied to some that differ.
use Prim.Native.Nat.{ℕ, zero, suc, ◌+◌, ◌*◌, ◌^◌, ◌<◌}
use mathlib.Core.Bool.{Bool, true, false}
use mathlib.Core.List.{List, [], ◌∷◌, ◌++◌, map}
use mathlib.Core.Path.{◌≡◌, refl, ap}
use native.Mathlib.Decide.{ℕ_discrete, dec_lt}
use native.Mathlib.Omega.{arith}
use lib.ListN.{length, get_or, replicate, length-replicate}
use Rattle.records.specs.declared.frame.GooseFrame.{GooseFrame}
use Rattle.records.specs.declared.frame.SvFrame.{SvFrame}
use Rattle.records.specs.Alert.{denies}
use Rattle.records.specs.Decide.{decide_pair, decide_list}
use Rattle.records.specs.Hash.{fnv1a, hash_from, hash_step}
use Rattle.records.specs.Legal.{LegalGoose, LegalSv, OctetArray}
use Rattle.records.specs.Name.{padded}
use Rattle.records.specs.Octets.{octet_at, tabulate}
use Rattle.tables.specs.Column.{zero_words}
use Rattle.checks.specs.GooseSeq.{replays}
use Rattle.checks.specs.SvSeq.{count_outcome, is_replay}
use Rattle.checks.specs.TimeField.{has_clock, earlier}
use Rattle.monitor.specs.Parts.{mms_added_on}
use Rattle.monitor.specs.Settings.{set_block_test_frames, set_sv_max_smp_cnt_gap, set_time_max_forward_jump}
use Rattle.inspection.specs.Address.{address_of}
use Rattle.inspection.specs.Calls.{Setting, block_test, max_smp_cnt_gap, max_forward_jump, new_mms_rule, configured_monitor}
use Rattle.inspection.specs.InspectSv.{count_findings}
use Rattle.demand3.specs.Demand3.{Inspection, goose, sv, Legal, answers}
use Rattle.demand3.specs.Demand3.{remembered_lists, RememberedLists, Premises, EqualLists, SameAnswers, Distinguished}
use Rattle.records.proofs.Distinguish.{distinguish_histories, distinguish, distinguished as distinguished_from}
use Rattle.records.proofs.KeyedLists.{difference, absent_key}
use Rattle.records.proofs.Lists.{get_d_constant}
use Rattle.records.proofs.OctetLaws.{array_zeros}
use Rattle.demand3.proofs.LegalLaws.{legal_append}
use Rattle.demand3.proofs.Observables.{sv_separating}
use Rattle.demand3.proofs.Demand3Holds.{answers_remembered, demand_3, distinguished, further_lists}
use Rattle.demand3.proofs.Demand3Holds.{sv_further, further_of, made, sv_inspection, sv_frame_of}

-- ---- frames and settings

-- an SV frame of an svID of one octet, the first octet of its address, its count and its time
frame : ℕ → ℕ → ℕ → ℕ → ℕ → SvFrame
frame svid octet count seconds fraction = record {
  src_mac = octet ∷ replicate 5 0;
  svid_len = 1;
  svid = svid ∷ replicate 63 0;
  smp_cnt = count;
  smp_rate = 0;
  dataset_ref_len = 0;
  dataset_ref = replicate 64 0;
  timestamp_us = 0;
  t_seconds_since_epoch = seconds;
  t_fraction_of_second = fraction;
}

-- a GOOSE frame of control block G: the first octet of its address, its numbers, test flag and seconds
message : ℕ → ℕ → ℕ → Bool → ℕ → GooseFrame
message octet state sequence test seconds = record {
  src_mac = octet ∷ replicate 5 0;
  go_cb_ref = 71 ∷ replicate 63 0;
  go_cb_ref_len = 1;
  st_num = state;
  sq_num = sequence;
  test = test;
  timestamp_us = 0;
  t_seconds_since_epoch = seconds;
  t_fraction_of_second = 0;
}

-- an octet and zeros
octet_array : (j : ℕ) → j < 256 → (n : ℕ) → OctetArray (suc n) (j ∷ replicate n 0)
octet_array j h n = record { size = ap suc (length-replicate n 0); octets = below }
  where
    below : (k : ℕ) → octet_at (j ∷ replicate n 0) k < 256
    below zero = h
    below (suc k) = rw (get_d_constant {E = ℕ} n k 0) (omega arith)

legal_frame :
    (svid octet count seconds fraction : ℕ) → svid < 256 → octet < 256 → count < 65536 → seconds < 4294967296 → fraction < 4294967296
    → LegalSv (frame svid octet count seconds fraction)
unfolding frame
legal_frame svid octet count seconds fraction a b c d e = record {
  source = octet_array octet b 5;
  svid_length = omega arith;
  svid_octets = octet_array svid a 63;
  count = omega arith;
  rate = omega arith;
  dataset_length = omega arith;
  dataset_octets = array_zeros 64;
  time = omega arith;
  seconds = omega arith;
  fraction = omega arith;
}

legal_message :
    (octet state sequence : ℕ) (test : Bool) (seconds : ℕ) → octet < 256 → state < 4294967296 → sequence < 4294967296 → seconds < 4294967296
    → LegalGoose (message octet state sequence test seconds)
unfolding message
legal_message octet state sequence test seconds a b c d = record {
  source = octet_array octet a 5;
  control_block_octets = octet_array 71 (omega arith) 63;
  control_block_length = omega arith;
  state_number = omega arith;
  sequence_number = omega arith;
  time = omega arith;
  seconds = omega arith;
  fraction = omega arith;
}

-- a rule, test frames blocked, a gap of 10 counts and a jump of 3600 seconds at most; the monitor is strict where it is made with `true`
settings : List Setting
settings = new_mms_rule 0xFFFF true 5 ∷ block_test true ∷ max_smp_cnt_gap 10 ∷ max_forward_jump 3600 ∷ []

premises : Premises (configured_monitor true settings)
unfolding settings set_block_test_frames set_sv_max_smp_cnt_gap set_time_max_forward_jump mms_added_on zero_words tabulate
premises = record { no_goose_publisher = refl; no_sv_publisher = refl; not_enforced = refl; jump_limit = (omega arith, omega arith) }

-- ---- 500, another stream, then 400: a replay, which leaves 500 and is its stream's last frame

replay_history : List Inspection
replay_history = sv (frame 65 1 500 0 0) ∷ sv (frame 66 1 7 0 0) ∷ sv (frame 65 1 400 9 0) ∷ []

replay_lists : (blocking : Bool) → remembered_lists blocking replay_history ≡ record {
  sv_streams = (65 ∷ [], 500) ∷ (66 ∷ [], 7) ∷ [];
  goose_streams = [];
  clocks = (1 * 2 ^ 40, (9, 0)) ∷ [];
}
unfolding replay_history frame ℕ_discrete decide_list decide_pair
replay_lists blocking = refl

-- a history that leaves the same, without the replay
same_history : List Inspection
same_history = sv (frame 66 1 7 0 0) ∷ sv (frame 65 1 500 9 0) ∷ []

same_lists : (blocking : Bool) → remembered_lists blocking replay_history ≡ remembered_lists blocking same_history
unfolding replay_history same_history frame ℕ_discrete decide_list decide_pair
same_lists blocking = refl

-- so every further list gets the same answers after both
replay_legal : Legal replay_history
unfolding replay_history
replay_legal =
    let first = legal_frame 65 1 500 0 0 (omega arith) (omega arith) (omega arith) (omega arith) (omega arith) in
    let other = legal_frame 66 1 7 0 0 (omega arith) (omega arith) (omega arith) (omega arith) (omega arith) in
    let replay = legal_frame 65 1 400 9 0 (omega arith) (omega arith) (omega arith) (omega arith) (omega arith) in
    (first, (other, (replay, tt)))

same_legal : Legal same_history
unfolding same_history
same_legal =
    let other = legal_frame 66 1 7 0 0 (omega arith) (omega arith) (omega arith) (omega arith) (omega arith) in
    let first = legal_frame 65 1 500 9 0 (omega arith) (omega arith) (omega arith) (omega arith) (omega arith) in
    (other, (first, tt))

same_answers : SameAnswers (configured_monitor true settings) replay_history same_history
same_answers =
    (demand_3 true settings premises replay_history same_history replay_legal same_legal).equal_lists_exactly_when_same_answers.0 (same_lists _)

-- ---- a GOOSE replay, a blocked test frame, a clock that GOOSE and SV share, and the limits of counts and clocks

station_history : List Inspection
station_history =
    goose (message 1 5 2 false 100)  -- stored
    ∷ goose (message 1 5 2 false 0)  -- a replay, without a clock
    ∷ goose (message 1 9 0 true 500)  -- a test frame, which is blocked
    ∷ sv (frame 65 1 500 90 0)  -- its clock is behind that of the first
    ∷ sv (frame 65 1 500 90 0)  -- a replay
    ∷ sv (frame 65 1 511 3691 0)  -- 11 counts and 3601 seconds ahead
    ∷ sv (frame 65 1 40000 3691 0)  -- far ahead
    ∷ sv (frame 65 1 7233 3691 0)  -- suspicious
    ∷ []

station_lists : remembered_lists true station_history ≡ record {
  sv_streams = (65 ∷ [], 7233) ∷ [];
  goose_streams = ((1 * 2 ^ 40, 0xC20BF3A6), (5, 2)) ∷ [];
  clocks = (1 * 2 ^ 40, (3691, 0)) ∷ [];
}
unfolding station_history message frame ℕ_discrete decide_list decide_pair fnv1a hash_from hash_step
station_lists = refl

station_legal : Legal station_history
unfolding station_history
station_legal =
    let stored = legal_message 1 5 2 false 100 (omega arith) (omega arith) (omega arith) (omega arith) in
    let replay = legal_message 1 5 2 false 0 (omega arith) (omega arith) (omega arith) (omega arith) in
    let test = legal_message 1 9 0 true 500 (omega arith) (omega arith) (omega arith) (omega arith) in
    let behind = legal_frame 65 1 500 90 0 (omega arith) (omega arith) (omega arith) (omega arith) (omega arith) in
    let ahead = legal_frame 65 1 511 3691 0 (omega arith) (omega arith) (omega arith) (omega arith) (omega arith) in
    let far = legal_frame 65 1 40000 3691 0 (omega arith) (omega arith) (omega arith) (omega arith) (omega arith) in
    let suspicious = legal_frame 65 1 7233 3691 0 (omega arith) (omega arith) (omega arith) (omega arith) (omega arith) in
    (stored, (replay, (test, (behind, (behind, (ahead, (far, (suspicious, tt))))))))

-- a suspicious count alone does not refuse
station_answers : answers (configured_monitor true settings) station_history
    ≡ (true, []) ∷ (false, 3 ∷ []) ∷ (false, 6 ∷ []) ∷ (false, 31 ∷ []) ∷ (false, 26 ∷ []) ∷ (false, 31 ∷ 27 ∷ []) ∷ (false, 27 ∷ []) ∷ (true, 27 ∷ []) ∷ []
unfolding station_history message frame settings set_block_test_frames set_sv_max_smp_cnt_gap set_time_max_forward_jump mms_added_on
    ℕ_discrete decide_list decide_pair fnv1a hash_from hash_step replays count_outcome is_replay count_findings has_clock earlier address_of denies
station_answers = answers_remembered true settings premises [] station_history tt station_legal

-- ---- seventeen streams, of which the first is forgotten; it comes again, with a lower count, afresh, and the second is forgotten

streams : ℕ → List Inspection
streams zero = []
streams (suc n) = streams n ++ sv (frame n 1 500 0 0) ∷ []

entries : ℕ → ℕ → List (List ℕ × ℕ)
entries first zero = []
entries first (suc n) = ((first + n) ∷ [], 500) ∷ entries first n

eviction_lists : (blocking : Bool) → remembered_lists blocking (streams 17 ++ sv (frame 0 1 400 0 0) ∷ []) ≡ record {
  sv_streams = (0 ∷ [], 400) ∷ entries 2 15;
  goose_streams = [];
  clocks = [];
}
unfolding streams entries frame ℕ_discrete decide_list decide_pair
eviction_lists blocking = refl

-- ---- eleven streams, of which the first to come differs in its count

-- a stream of this count, then n others
counted : ℕ → ℕ → List Inspection
counted count n = sv (frame 99 1 count 0 0) ∷ streams n

legal_streams : (n : ℕ) → n < 256 → Legal (streams n)
unfolding streams
legal_streams zero h = tt
legal_streams (suc n) h =
    legal_append (streams n) (sv (frame n 1 500 0 0) ∷ []) (legal_streams n (omega arith))
    (legal_frame n 1 500 0 0 (omega arith) (omega arith) (omega arith) (omega arith) (omega arith), tt)

legal_counted : (count n : ℕ) → count < 65536 → n < 256 → Legal (counted count n)
unfolding counted
legal_counted count n h l = (legal_frame 99 1 count 0 0 (omega arith) (omega arith) h (omega arith) (omega arith), legal_streams n l)

last_count : RememberedLists → ℕ
last_count l = get_or (map (λ (e : List ℕ × ℕ). e.1) l.sv_streams) 10 0

different : ¬ EqualLists (configured_monitor true settings) (counted 500 10) (counted 501 10)
unfolding counted streams frame last_count ℕ_discrete decide_list decide_pair
different e = let z : ◌≡◌ {A = ℕ} 500 501 = ap last_count e in omega arith

-- all premises discharged, the theorem applied
instance : Distinguished (configured_monitor true settings) (counted 500 10) (counted 501 10)
instance =
    (demand_3 true settings premises (counted 500 10) (counted 501 10) (legal_counted 500 10 (omega arith) (omega arith))
    (legal_counted 501 10 (omega arith) (omega arith))).unequal_lists_told_apart different

-- five streams that neither history has, then the one that differs, with the larger count: the theorem's list, not the shortest
instance_further : instance.further
    ≡ sv (frame 32 0 0 0 0) ∷ sv (frame 31 0 0 0 0) ∷ sv (frame 30 0 0 0 0) ∷ sv (frame 29 0 0 0 0) ∷ sv (frame 28 0 0 0 0) ∷ sv (frame 99 0 501 0 0) ∷ []
unfolding instance demand_3 distinguished further_lists sv_further further_of made sv_inspection sv_frame_of sv_separating padded tabulate
    distinguish_histories distinguish distinguished_from difference absent_key legal_counted legal_frame counted streams frame decide_list decide_pair
    ℕ_discrete dec_lt count_outcome is_replay
instance_further = refl

-- ---- the other two lists: a GOOSE stream against none; and a clock of (0, 1) against none, which only the jump limit tells apart

goose_instance : Distinguished (configured_monitor true settings) (goose (message 0 1 0 false 0) ∷ []) []
unfolding message settings set_time_max_forward_jump set_sv_max_smp_cnt_gap set_block_test_frames mms_added_on
goose_instance =
    (demand_3 true settings premises (goose (message 0 1 0 false 0) ∷ []) []
    (legal_message 0 1 0 false 0 (omega arith) (omega arith) (omega arith) (omega arith), tt) tt).unequal_lists_told_apart
    (λ e. let z : ◌≡◌ {A = ℕ} 1 0 = ap (λ (l : RememberedLists). length l.goose_streams) e in omega arith)

clock_instance : Distinguished (configured_monitor true settings) (sv (frame 65 0 0 0 1) ∷ []) (sv (frame 65 0 0 0 0) ∷ [])
unfolding frame
clock_instance =
    (demand_3 true settings premises (sv (frame 65 0 0 0 1) ∷ []) (sv (frame 65 0 0 0 0) ∷ [])
    (legal_frame 65 0 0 0 1 (omega arith) (omega arith) (omega arith) (omega arith) (omega arith), tt)
    (legal_frame 65 0 0 0 0 (omega arith) (omega arith) (omega arith) (omega arith) (omega arith), tt)).unequal_lists_told_apart
    (λ e. let z : ◌≡◌ {A = ℕ} 1 0 = ap (λ (l : RememberedLists). length l.clocks) e in omega arith)
