-- The sampled-values frame (01, "SV frame"). Each refusal is InvalidInput, and is marked `refused`.
use Rattle.std.specs.Prelude.{ℕ, ◌+◌, ◌-◌, Bool, false, ◌||◌, cond, List, [], ◌∷◌, eqb, take, drop}
use Rattle.std.specs.Prelude.{Option, Some, None, Result, Ok, Err}
use Rattle.records.specs.declared.error.VsError.{VsError}
use Rattle.records.specs.declared.error.VsError.TheVariants.{InvalidInput}
use Rattle.records.specs.declared.frame.SvFrame.{SvFrame}
use Rattle.records.specs.Frame.{default_sv}
use Rattle.wire.specs.declared.element.Part.{Part}
use Rattle.wire.specs.declared.header.Header.{Header}
use Rattle.wire.specs.Element.{Elements, ended, failed, next, elements, Sought, first_content, opened}
use Rattle.wire.specs.Element.{opened_place, first_place}
use Rattle.sv_frame.specs.Field.{sav_pdu_tag, seq_asdu_tag, asdu_tag, smp_cnt_tag, field_fits, with_field}
use Rattle.wire.specs.Header.{ethertype_sv, header}

-- the fields of an ASDU in their order, from a frame on: of a repeated tag the last wins
unfoldable pub fields_from : SvFrame → Bool → Elements → Result SvFrame VsError
-- all is read; refused: no 82
fields_from f counted ended = cond counted (Ok f) (Err InvalidInput)
-- refused: an unreadable element
fields_from f counted (failed e) = Err e
-- a field that fits is taken; refused: one of a wrong length, or a rate above 65535
fields_from f counted (next tag head content rest) =
    cond (field_fits tag content) (fields_from (with_field f tag content) (counted || eqb tag smp_cnt_tag) rest) (Err InvalidInput)

-- by what an initial 30 inside the A2 gives
abbrev pub asdu_frame : SvFrame → Sought → Result SvFrame VsError
asdu_frame f (Ok (Some asdu)) = fields_from f false (elements asdu)
-- refused: an empty A2
asdu_frame f (Ok None) = Err InvalidInput
-- refused: an unreadable 30
asdu_frame f (Err e) = Err e

-- by what the search for the first A2 gives, after which nothing is read
abbrev pub seq_asdu_frame : SvFrame → Sought → Result SvFrame VsError
seq_asdu_frame f (Ok (Some asdus)) = asdu_frame f (opened asdu_tag asdus)
-- refused: a missing A2
seq_asdu_frame f (Ok None) = Err InvalidInput
-- refused: an unreadable element before it
seq_asdu_frame f (Err e) = Err e

-- by what an outer 60 gives
abbrev pub sav_pdu_frame : SvFrame → Sought → Result SvFrame VsError
sav_pdu_frame f (Ok (Some pdu)) = seq_asdu_frame f (first_content seq_asdu_tag (elements pdu))
-- refused: an empty APDU
sav_pdu_frame f (Ok None) = Err InvalidInput
-- refused: an unreadable 60
sav_pdu_frame f (Err e) = Err e

-- the default frame, with its source and its time
abbrev pub empty_frame : List ℕ → ℕ → SvFrame
empty_frame source time =
    record {
      src_mac = source;
      svid_len = default_sv.svid_len;
      svid = default_sv.svid;
      smp_cnt = default_sv.smp_cnt;
      smp_rate = default_sv.smp_rate;
      dataset_ref_len = default_sv.dataset_ref_len;
      dataset_ref = default_sv.dataset_ref;
      timestamp_us = time;
      t_seconds_since_epoch = default_sv.t_seconds_since_epoch;
      t_fraction_of_second = default_sv.t_fraction_of_second;
    }

-- the frame of an APDU
unfoldable pub apdu_frame : List ℕ → List ℕ → ℕ → Result SvFrame VsError
apdu_frame apdu source time = sav_pdu_frame (empty_frame source time) (opened sav_pdu_tag apdu)

-- the frame of the APDU behind a header, from its source
abbrev pub header_frame : List ℕ → ℕ → Option Header → Result SvFrame VsError
header_frame octets time (Some h) = apdu_frame (take (h.apdu.end - h.apdu.start) (drop h.apdu.start octets)) h.src_mac time
-- refused: its header
header_frame octets time None = Err InvalidInput

-- the SV frame that some octets hold, EtherType 88 BA, taken at a time; or InvalidInput
unfoldable pub sv_frame : List ℕ → ℕ → Result SvFrame VsError
sv_frame octets time = header_frame octets time (header ethertype_sv octets)

-- ---- for the code

-- a part that is there; what is missing is InvalidInput
abbrev pub present : Result (Option Part) VsError → Result Part VsError
present (Ok (Some p)) = Ok p
present (Ok None) = Err InvalidInput
present (Err e) = Err e

-- a place inside another, and what is sought at a place
abbrev pub shifted : ℕ → Result Part VsError → Result Part VsError
shifted by (Ok p) = Ok (record { start = by + p.start; len = p.len })
shifted by (Err e) = Err e

abbrev pub inside_at : List ℕ → Result Part VsError → (List ℕ → Result Part VsError) → Result Part VsError
inside_at octets (Ok p) seek = shifted p.start (seek (take p.len (drop p.start octets)))
inside_at octets (Err e) seek = Err e

-- where the first ASDU of an APDU is
unfoldable pub asdu_place : List ℕ → Result Part VsError
asdu_place apdu =
    inside_at apdu (present (opened_place sav_pdu_tag apdu)) (λ pdu.
    inside_at pdu (present (first_place seq_asdu_tag 0 (elements pdu))) (λ asdus. present (opened_place asdu_tag asdus)))
