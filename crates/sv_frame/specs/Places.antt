-- A sampled-values frame read by places. For the code: what the checks read of a frame, and of an ASDU where it stands.
use Rattle.std.specs.Prelude.{ℕ, ◌+◌, Bool, false, ◌||◌, cond, List, eqb, length, take, drop, unwrap_or, Result, Ok, Err}
use Rattle.records.specs.declared.error.VsError.{VsError}
use Rattle.records.specs.declared.error.VsError.TheVariants.{InvalidInput}
use Rattle.records.specs.declared.frame.SvFrame.{SvFrame}
use Rattle.records.specs.Name.{name_of}
use Rattle.wire.specs.declared.element.Part.{Part}
use Rattle.sv_frame.specs.declared.places.SvPlaces.{SvPlaces}
use Rattle.sv_frame.specs.Field.{svid_tag, dat_set_tag, smp_cnt_tag, refr_tm_tag, smp_rate_tag, field_fits, seconds_or, fraction_or}
use Rattle.wire.specs.Element.{Elements, ended, failed, next, elements}
use Rattle.wire.specs.Number.{pair_at, unsigned_int}

-- what the checks read of a frame: its source, its names and its numbers
pub record SvReading : Type 0 where
  pub source : List ℕ
  pub svid : List ℕ
  pub dataset : List ℕ
  pub smp_cnt : ℕ
  pub smp_rate : ℕ
  pub seconds : ℕ
  pub fraction : ℕ

-- of a frame
abbrev pub reading_of : SvFrame → SvReading
reading_of f =
    record {
      source = f.src_mac;
      svid = name_of f.svid f.svid_len;
      dataset = name_of f.dataset_ref f.dataset_ref_len;
      smp_cnt = f.smp_cnt;
      smp_rate = f.smp_rate;
      seconds = f.t_seconds_since_epoch;
      fraction = f.t_fraction_of_second;
    }

-- of an ASDU from a source, with the names at their places, 64 octets at most
abbrev pub reading_at : List ℕ → List ℕ → SvPlaces → SvReading
reading_at source asdu p =
    record {
      source = source;
      svid = take 64 (take p.svid.len (drop p.svid.start asdu));
      dataset = take 64 (take p.dataset.len (drop p.dataset.start asdu));
      smp_cnt = p.smp_cnt;
      smp_rate = p.smp_rate;
      seconds = p.seconds;
      fraction = p.fraction;
    }

-- no field is read yet
abbrev pub no_places : SvPlaces
no_places =
    record {
      svid = record { start = 0; len = 0 };
      dataset = record { start = 0; len = 0 };
      smp_cnt = 0;
      smp_rate = 0;
      seconds = 0;
      fraction = 0;
    }

-- the places with one more field, which stands at a place
unfoldable pub with_place : SvPlaces → ℕ → Part → List ℕ → SvPlaces
with_place p tag place content =
    record {
      svid = cond (eqb tag svid_tag) place p.svid;
      dataset = cond (eqb tag dat_set_tag) place p.dataset;
      smp_cnt = cond (eqb tag smp_cnt_tag) (pair_at content 0) p.smp_cnt;
      smp_rate = cond (eqb tag smp_rate_tag) (unwrap_or (unsigned_int content) p.smp_rate) p.smp_rate;
      seconds = cond (eqb tag refr_tm_tag) (seconds_or p.seconds content) p.seconds;
      fraction = cond (eqb tag refr_tm_tag) (fraction_or p.fraction content) p.fraction;
    }

-- the places of the fields in their order, of elements that begin at a place; without a count it is InvalidInput
unfoldable pub places_from : SvPlaces → Bool → ℕ → Elements → Result SvPlaces VsError
places_from p counted at ended = cond counted (Ok p) (Err InvalidInput)
places_from p counted at (failed e) = Err e
places_from p counted at (next tag head content rest) =
    cond (field_fits tag content)
    (places_from (with_place p tag (record { start = at + head; len = length content }) content) (counted || eqb tag smp_cnt_tag)
    (at + head + length content) rest)
    (Err InvalidInput)

-- of an ASDU
abbrev pub places_of : List ℕ → Result SvPlaces VsError
places_of asdu = places_from no_places false 0 (elements asdu)

-- one more field, as a frame takes it: nothing of an earlier name is read
unfoldable pub with_read : SvReading → ℕ → List ℕ → SvReading
with_read q tag content =
    record {
      source = q.source;
      svid = cond (eqb tag svid_tag) (take 64 content) q.svid;
      dataset = cond (eqb tag dat_set_tag) (take 64 content) q.dataset;
      smp_cnt = cond (eqb tag smp_cnt_tag) (pair_at content 0) q.smp_cnt;
      smp_rate = cond (eqb tag smp_rate_tag) (unwrap_or (unsigned_int content) q.smp_rate) q.smp_rate;
      seconds = cond (eqb tag refr_tm_tag) (seconds_or q.seconds content) q.seconds;
      fraction = cond (eqb tag refr_tm_tag) (fraction_or q.fraction content) q.fraction;
    }

-- a frame as it is read, by its places or of the frame that is built, or the error
abbrev pub placed_reading : List ℕ → List ℕ → Result SvPlaces VsError → Result SvReading VsError
placed_reading source asdu (Ok p) = Ok (reading_at source asdu p)
placed_reading source asdu (Err e) = Err e

abbrev pub parsed_reading : Result SvFrame VsError → Result SvReading VsError
parsed_reading (Ok f) = Ok (reading_of f)
parsed_reading (Err e) = Err e
