-- The fields of an ASDU (01, "SV frame"; IEC 61850-9-2, 8.5.2).
use Rattle.std.specs.Prelude.{ℕ, Bool, true, cond, List, eqb, leb, length, take, drop, is_some, unwrap_or}
use Rattle.records.specs.declared.frame.SvFrame.{SvFrame}
use Rattle.records.specs.Name.{valid_len}
use Rattle.records.specs.Octets.{octet_at, overwritten}
use Rattle.wire.specs.Number.{big_endian, pair_at, unsigned_int}

-- tags: the PDU, its sequence of ASDUs, an ASDU; svID, data set, smpCnt, time, rate
abbrev pub sav_pdu_tag : ℕ
sav_pdu_tag = 0x60

abbrev pub seq_asdu_tag : ℕ
seq_asdu_tag = 0xA2

abbrev pub asdu_tag : ℕ
asdu_tag = 0x30

abbrev pub svid_tag : ℕ
svid_tag = 0x80

abbrev pub dat_set_tag : ℕ
dat_set_tag = 0x81

abbrev pub smp_cnt_tag : ℕ
smp_cnt_tag = 0x82

abbrev pub refr_tm_tag : ℕ
refr_tm_tag = 0x84

abbrev pub smp_rate_tag : ℕ
smp_rate_tag = 0x86

-- svID and data set have 0 to 64 octets, smpCnt has 2, the rate is an unsigned integer of 1 to 4 octets and at most 65535; a time, and
-- other tags, have any length
unfoldable pub field_fits : ℕ → List ℕ → Bool
field_fits tag content =
    cond (eqb tag svid_tag) (leb (length content) 64)
    (cond (eqb tag dat_set_tag) (leb (length content) 64)
    (cond (eqb tag smp_cnt_tag) (eqb (length content) 2)
    (cond (eqb tag smp_rate_tag) (is_some (unsigned_int content)) true)))

-- a shorter name leaves the earlier octets behind its end
unfoldable pub overlaid : List ℕ → List ℕ → List ℕ
overlaid old content = overwritten old 0 (octet_at content) (valid_len (length content))

-- the seconds of a time of 4 octets or more, the fraction of one of 7 or more, or those before
abbrev pub seconds_or : ℕ → List ℕ → ℕ
seconds_or old content = cond (leb 4 (length content)) (big_endian (take 4 content)) old

abbrev pub fraction_or : ℕ → List ℕ → ℕ
fraction_or old content = cond (leb 7 (length content)) (big_endian (take 3 (drop 4 content))) old

-- a field replaces what it gives; other tags are skipped
unfoldable pub with_field : SvFrame → ℕ → List ℕ → SvFrame
with_field f tag content =
    record {
      src_mac = f.src_mac;
      svid_len = cond (eqb tag svid_tag) (valid_len (length content)) f.svid_len;
      svid = cond (eqb tag svid_tag) (overlaid f.svid content) f.svid;
      smp_cnt = cond (eqb tag smp_cnt_tag) (pair_at content 0) f.smp_cnt;
      smp_rate = cond (eqb tag smp_rate_tag) (unwrap_or (unsigned_int content) f.smp_rate) f.smp_rate;
      dataset_ref_len = cond (eqb tag dat_set_tag) (valid_len (length content)) f.dataset_ref_len;
      dataset_ref = cond (eqb tag dat_set_tag) (overlaid f.dataset_ref content) f.dataset_ref;
      timestamp_us = f.timestamp_us;
      t_seconds_since_epoch = cond (eqb tag refr_tm_tag) (seconds_or f.t_seconds_since_epoch content) f.t_seconds_since_epoch;
      t_fraction_of_second = cond (eqb tag refr_tm_tag) (fraction_or f.t_fraction_of_second content) f.t_fraction_of_second;
    }
