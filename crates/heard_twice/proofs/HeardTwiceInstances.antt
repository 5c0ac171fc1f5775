-- Frames heard twice, computed: the answers to both copies, after some calls on a new monitor.
use Prim.Native.Nat.{ℕ}
use mathlib.Core.Bool.{Bool, true, false}
use mathlib.Core.List.{List, [], ◌∷◌, map}
use mathlib.Core.Path.{◌≡◌, refl}
use lib.ListN.{set, replicate}
use Rattle.records.specs.declared.frame.MmsFrame.{MmsFrame}
use Rattle.records.specs.declared.frame.GooseFrame.{GooseFrame}
use Rattle.records.specs.declared.frame.SvFrame.{SvFrame}
use Rattle.records.specs.declared.service.MmsServiceType.TheVariants.{SelectControl}
use Rattle.records.specs.Alert.{denies, alert_of, no_alert}
use Rattle.records.specs.Hash.{fnv1a, hash_from, hash_step}
use Rattle.records.specs.Octets.{tabulate, agree, overwritten}
use Rattle.records.specs.Result.{clean_result, allowed_with, counted, with_alert, pushed}
use Rattle.records.specs.Schedule.{default_schedule, expected_interval, within_tolerance}
use Rattle.records.specs.Search.{first_from, last_below}
use Rattle.wire.specs.Element.{element, elements_of, first_content, head_of, length_of, opened, within}
use Rattle.wire.specs.Header.{apdu_of, appid_at, header, source_of}
use Rattle.wire.specs.Number.{big_endian_from}
use Rattle.sv_frame.specs.Field.{field_fits, overlaid, with_field}
use Rattle.sv_frame.specs.Sv.{fields_from, apdu_frame, sv_frame}
use Rattle.tables.specs.Column.{word_of, word_set, zero_words}
use Rattle.tables.specs.Key.{name_word, summed, key_of}
use Rattle.tables.specs.Named.{has_key, key_stored}
use Rattle.tables.specs.Order.{free_slot, new_slot, rank_of, reranked, rank_set, used_slot, no_entries}
use Rattle.tables.specs.Packed.{packed}
use Rattle.tables.specs.Place.{found}
use Rattle.checks.specs.GoosePublisher.{goose_fits_at, goose_publisher, with_goose_publisher, goose_added}
use Rattle.checks.specs.GooseSeq.{replays, goose_checked, outside_tolerance, retx_checked}
use Rattle.checks.specs.MmsRule.{first_rule}
use Rattle.checks.specs.Reservation.{taken_at, place_for, reserved, bound_at, cb_checked}
use Rattle.checks.specs.Rules.{add_answer}
use Rattle.checks.specs.SvPublisher.{sv_publisher, with_sv_publisher, sv_added}
use Rattle.checks.specs.SvSeq.{count_outcome, is_replay, sv_checked}
use Rattle.checks.specs.TimeField.{has_clock, earlier, time_checked}
use Rattle.monitor.specs.Parts.{sv_seq_on, goose_seq_on, time_field_on, cb_on, reserved_on, goose_added_on, sv_added_on}
use Rattle.monitor.specs.Reset.{new_monitor, new_totals}
use Rattle.monitor.specs.Settings.{set_block_test_frames, set_sv_max_smp_cnt_gap, set_retx_schedule}
use Rattle.monitor.specs.Totals.{frame_counted, with_alerts}
use Rattle.inspection.specs.Address.{address_of}
use Rattle.inspection.specs.Calls.{Call, setting, new_goose_publisher, new_sv_publisher, block_test, max_smp_cnt_gap, schedule, after_calls}
use Rattle.inspection.specs.Calls as call
use Rattle.inspection.specs.InspectMms.{over_rate, mms_control, mms_rate, masked, mms_rule, mms_checks, inspect_mms}
use Rattle.inspection.specs.InspectGoose.{retransmitted, goose_time_field, goose_reservation, goose_unknown, goose_allowed, goose_test, inspect_goose}
use Rattle.inspection.specs.InspectSv.{rate_findings, count_findings, sv_time_field, sv_reservation, sv_rule, sv_binding, inspect_sv, inspect_raw_sv}
use Rattle.inspection.specs.Report.{alerts_pushed, reported}
use Rattle.demand3.specs.Demand3.{Answer}
use Rattle.heard_twice.specs.HeardTwice.{Delivered, goose, sv, raw_sv, first_answer, second_answer, replay_code, refused_again}

-- an address by its last octet
mac : ℕ → List ℕ
mac octet = 0 ∷ 0 ∷ 0 ∷ 0 ∷ 0 ∷ octet ∷ []

-- an SV frame: the octet of its svID, the last octet of its address, its count, rate and seconds
sample : ℕ → ℕ → ℕ → ℕ → ℕ → SvFrame
sample svid octet count rate seconds = record {
  src_mac = mac octet;
  svid_len = 1;
  svid = svid ∷ replicate 63 0;
  smp_cnt = count;
  smp_rate = rate;
  dataset_ref_len = 0;
  dataset_ref = replicate 64 0;
  timestamp_us = 0;
  t_seconds_since_epoch = seconds;
  t_fraction_of_second = 0;
}

-- an SV frame of data set G
in_set : ℕ → SvFrame
in_set octet = record {
  src_mac = mac octet;
  svid_len = 0;
  svid = replicate 64 0;
  smp_cnt = octet;
  smp_rate = 0;
  dataset_ref_len = 1;
  dataset_ref = 71 ∷ replicate 63 0;
  timestamp_us = 0;
  t_seconds_since_epoch = 0;
  t_fraction_of_second = 0;
}

-- a GOOSE frame of control block G, stNum 1: the last octet of its address, sqNum, test flag and seconds
message : ℕ → ℕ → Bool → ℕ → GooseFrame
message octet sequence test seconds = record {
  src_mac = mac octet;
  go_cb_ref = 71 ∷ replicate 63 0;
  go_cb_ref_len = 1;
  st_num = 1;
  sq_num = sequence;
  test = test;
  timestamp_us = 0;
  t_seconds_since_epoch = seconds;
  t_fraction_of_second = 0;
}

-- a SelectControl of the name G, that of a GOOSE control block or of a data set
select : Bool → MmsFrame
select is_goose = record {
  service_type = SelectControl;
  raw_service_type = 11;
  domain = 71 ∷ replicate 63 0;
  domain_len = 1;
  invoke_id = 0;
  timestamp_us = 0;
  client_id = 7;
  control_block_is_goose = is_goose;
}

-- 01's frame of 39 octets: svID M1, count 500
octets39 : List ℕ
octets39 =
    0x01 ∷ 0x0C ∷ 0xCD ∷ 0x04 ∷ 0x00 ∷ 0x01 ∷ 0x00 ∷ 0x0A ∷ 0x0B ∷ 0x0C ∷ 0x0D ∷ 0x0E ∷ 0x88 ∷ 0xBA ∷ 0x40 ∷ 0x00 ∷ 0x00 ∷ 0x19 ∷ 0x00 ∷ 0x00
    ∷ 0x00 ∷ 0x00 ∷ 0x60 ∷ 0x0F ∷ 0x80 ∷ 0x01 ∷ 0x01 ∷ 0xA2 ∷ 0x0A ∷ 0x30 ∷ 0x08 ∷ 0x80 ∷ 0x02 ∷ 0x4D ∷ 0x31 ∷ 0x82 ∷ 0x02 ∷ 0x01 ∷ 0xF4 ∷ []

-- svID A registered with address 1 and rate 80
registered : Call
registered = setting (new_sv_publisher (mac 1) (65 ∷ []) 80)

-- the answers to both copies of a frame, heard at 1000 µs and at 1009, after some calls on a new monitor, strict or not, and what the claim says of the
-- second
both : Bool → List Call → Delivered → List Answer
both strict calls x =
    let m = after_calls (new_monitor strict) calls in
    first_answer m x 1000 ∷ second_answer m x 1000 1009 ∷ refused_again (replay_code x) (first_answer m x 1000) ∷ []

expected : Answer → Answer → List Answer
expected first second = first ∷ second ∷ second ∷ []

-- the answers, and what they must be
rows : List (List Answer × List Answer)
rows =
    -- a clock that goes back, and a gap of 20 counts where 10 are allowed
    (
      both false (setting (max_smp_cnt_gap 10) ∷ call.sv (sample 65 1 500 0 100) ∷ []) (sv (sample 65 1 520 0 90)),
      expected (false, 31 ∷ 27 ∷ []) (false, 26 ∷ []),
    )
    -- and a rate that is not the publisher's: three alerts
    ∷ (
      both false (setting (max_smp_cnt_gap 10) ∷ registered ∷ call.sv (sample 65 1 500 80 100) ∷ []) (sv (sample 65 1 520 81 90)),
      expected (false, 31 ∷ 27 ∷ 27 ∷ []) (false, 26 ∷ []),
    )
    -- a clock that goes back, and a retransmission too early
    ∷ (
      both false (setting (schedule default_schedule true) ∷ call.goose (message 1 0 false 100) ∷ []) (goose (message 1 1 false 90)),
      expected (false, 31 ∷ 30 ∷ []) (false, 3 ∷ []),
    )
    -- a replay, the first time too
    ∷ (both false (call.sv (sample 65 1 500 0 0) ∷ []) (sv (sample 65 1 499 0 0)), expected (false, 26 ∷ []) (false, 26 ∷ []))
    -- 01's frame, and the same with a length that it does not have
    ∷ (both false [] (raw_sv octets39), expected (true, []) (false, 26 ∷ []))
    ∷ (both false [] (raw_sv (set octets39 17 0x1A)), expected (false, []) (false, []))
    -- a test frame while these are blocked
    ∷ (both false (setting (block_test true) ∷ []) (goose (message 1 0 true 0)), expected (false, 6 ∷ []) (false, 6 ∷ []))
    -- a GOOSE frame of address 2, where address 1 is registered
    ∷ (both false (setting (new_goose_publisher (mac 1) []) ∷ []) (goose (message 2 0 false 0)), expected (false, 6 ∷ []) (false, 6 ∷ []))
    -- A from address 2, and B in strict mode
    ∷ (both false (registered ∷ []) (sv (sample 65 2 500 0 0)), expected (false, 28 ∷ []) (false, 28 ∷ []))
    ∷ (both true (registered ∷ []) (sv (sample 66 1 500 0 0)), expected (false, 6 ∷ []) (false, 6 ∷ []))
    -- a control block, and a data set, that is bound to address 1, from address 2
    ∷ (both false (call.mms (select true) ∷ call.goose (message 1 0 false 0) ∷ []) (goose (message 2 0 false 0)), expected (false, 29 ∷ []) (false, 29 ∷ []))
    ∷ (both false (call.mms (select false) ∷ call.sv (in_set 1) ∷ []) (sv (in_set 2)), expected (false, 29 ∷ []) (false, 29 ∷ []))
    ∷ []

instances : map (λ (r : List Answer × List Answer). r.0) rows ≡ map (λ (r : List Answer × List Answer). r.1) rows
unfolding rows both expected mac sample in_set message select registered octets39 denies alert_of no_alert fnv1a hash_from hash_step tabulate agree
    overwritten clean_result allowed_with counted with_alert pushed expected_interval within_tolerance first_from last_below element elements_of first_content
    head_of length_of opened within apdu_of appid_at header source_of big_endian_from field_fits overlaid with_field fields_from apdu_frame sv_frame
    word_of word_set zero_words name_word summed key_of has_key key_stored free_slot new_slot rank_of reranked rank_set used_slot no_entries packed found
    goose_fits_at goose_publisher with_goose_publisher goose_added replays goose_checked outside_tolerance retx_checked first_rule taken_at place_for reserved
    bound_at cb_checked add_answer sv_publisher with_sv_publisher sv_added count_outcome is_replay sv_checked has_clock earlier time_checked
    sv_seq_on goose_seq_on
    time_field_on cb_on reserved_on goose_added_on sv_added_on new_totals set_block_test_frames set_sv_max_smp_cnt_gap set_retx_schedule
    frame_counted with_alerts
    address_of over_rate mms_control mms_rate masked mms_rule mms_checks inspect_mms retransmitted goose_time_field goose_reservation goose_unknown
    goose_allowed
    goose_test inspect_goose rate_findings count_findings sv_time_field sv_reservation sv_rule sv_binding inspect_sv inspect_raw_sv alerts_pushed reported
instances = refl
