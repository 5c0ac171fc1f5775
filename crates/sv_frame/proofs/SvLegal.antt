-- The frame that octets hold is legal; the default frame, which a caller in C gets where none is read, is too.
use mathlib.Core.Path.{◌≡◌, refl}
use mathlib.Core.Bool.{Bool, true, false, ◌&&◌, ◌||◌, cond}
use mathlib.Core.List.{List}
use Prim.Native.Nat.{ℕ, ◌+◌, ◌-◌, ◌^◌, ◌≤◌, ◌<◌}
use native.Mathlib.Omega.{arith}
use borrow.Author.Tests.{leb-true}
use lib.Dec.{eqb, leb}
use lib.ListN.{length, take, drop, length-take}
use Rattle.records.proofs.Booleans.{cond_holds}
use Rattle.records.proofs.OctetLaws.{octets_drop, array_tabulate, array_overwritten, array_zeros}
use Rattle.records.specs.declared.error.VsError.{VsError}
use Rattle.records.specs.declared.frame.SvFrame.{SvFrame}
use Rattle.records.specs.Frame.{default_sv}
use Rattle.records.specs.Legal.{Octets, OctetArray, LegalSv}
use Rattle.records.specs.Octets.{octet_at}
use Rattle.std.proofs.Common.{Option, Some, None, Result, Ok, Err}
use Rattle.std.specs.Prelude.{unwrap_or}
use Rattle.wire.specs.declared.header.Apdu.{Apdu}
use Rattle.wire.specs.Element.{Elements, ended, failed, next, Sought, elements, first_content, opened}
use Rattle.sv_frame.specs.Field.{sav_pdu_tag, seq_asdu_tag, asdu_tag, svid_tag, dat_set_tag, smp_cnt_tag, refr_tm_tag, smp_rate_tag}
use Rattle.sv_frame.specs.Field.{overlaid, with_field, field_fits}
use Rattle.wire.specs.Header.{apdu_of, source_of, with_source, header}
use Rattle.wire.specs.Number.{big_endian, unsigned_int}
use Rattle.sv_frame.specs.Sv.{fields_from, asdu_frame, seq_asdu_frame, sav_pdu_frame, empty_frame, apdu_frame, header_frame, sv_frame}
use Rattle.wire.proofs.ElementLaws.{Contents, FoundOr, all_elements, first_has, opened_has}
use Rattle.wire.proofs.NumberLaws.{number_below}
use Rattle.wire.proofs.PartLaws.{part_octets}

empty_legal : {source : List ℕ} {time : ℕ} → OctetArray 6 source → time < 2 ^ 64 → LegalSv (empty_frame source time)
empty_legal a t =
    record {
      source = a;
      svid_length = omega arith;
      svid_octets = array_zeros 64;
      count = omega arith;
      rate = omega arith;
      dataset_length = omega arith;
      dataset_octets = array_zeros 64;
      time = t;
      seconds = omega arith;
      fraction = omega arith;
    }

-- a frame that is read is legal
abbrev pub IfLegal : Result SvFrame VsError → Type 0
IfLegal (Ok f) = LegalSv f
IfLegal (Err e) = Unit

pub default_legal : LegalSv default_sv
default_legal = empty_legal (array_zeros 6) (omega arith)

-- a field's content, whatever its length
module _ (content : List ℕ) (o : Octets content) where
  overlaid_array : {old : List ℕ} → OctetArray 64 old → OctetArray 64 (overlaid old content)
  unfolding overlaid
  overlaid_array a = array_overwritten (octet_at content) o 0 _ a

  -- a value is 65535 at most
  value_below : (old : ℕ) → old < 2 ^ 16 → unwrap_or (unsigned_int content) old < 2 ^ 16
  unfolding unsigned_int
  value_below old h = go (leb 1 (length content)) (leb (length content) 4) (leb (big_endian content) 65535) refl
    where
      go : (a b c : Bool) → leb (big_endian content) 65535 ≡ c
          → unwrap_or (cond (a && b && c) (Some (big_endian content)) None) old < 2 ^ 16
      go true true true e = omega (arith, leb-true (big_endian content) 65535 e)
      go true true false e = h
      go true false c e = h
      go false b c e = h

  part_below : (start n : ℕ) → n ≤ 4 → big_endian (take n (drop start content)) < 2 ^ 32
  part_below start n h = omega (arith, number_below (take n (drop start content)) (part_octets content o start n) 4 (simp length-take (omega arith)))

  -- a part of a time that is long enough, or what was there before
  timed_below : (tag n : ℕ) {part old : ℕ} → part < 2 ^ 32 → old < 2 ^ 32 → cond (eqb tag refr_tm_tag) (cond (leb n (length content)) part old) old < 2 ^ 32
  timed_below tag n p o = cond_holds (λ (n : ℕ). n < 2 ^ 32) (eqb tag refr_tm_tag) (cond_holds (λ (n : ℕ). n < 2 ^ 32) (leb n (length content)) p o) o

  field_legal : (f : SvFrame) (tag : ℕ) → LegalSv f → LegalSv (with_field f tag content)
  unfolding with_field
  field_legal f tag l =
      record {
        source = l.source;
        svid_length = cond_holds (λ (n : ℕ). n < 256) (eqb tag svid_tag) (omega arith) l.svid_length;
        svid_octets = cond_holds (OctetArray 64) (eqb tag svid_tag) (overlaid_array l.svid_octets) l.svid_octets;
        count = cond_holds (λ (n : ℕ). n < 2 ^ 16) (eqb tag smp_cnt_tag) (omega (arith, o 0, o 1)) l.count;
        rate = cond_holds (λ (n : ℕ). n < 2 ^ 16) (eqb tag smp_rate_tag) (value_below f.smp_rate l.rate) l.rate;
        dataset_length = cond_holds (λ (n : ℕ). n < 256) (eqb tag dat_set_tag) (omega arith) l.dataset_length;
        dataset_octets = cond_holds (OctetArray 64) (eqb tag dat_set_tag) (overlaid_array l.dataset_octets) l.dataset_octets;
        time = l.time;
        seconds = timed_below tag 4 (part_below 0 4 (omega arith)) l.seconds;
        fraction = timed_below tag 7 (part_below 4 3 (omega arith)) l.fraction;
      }

fields_legal : (f : SvFrame) (counted : Bool) (e : Elements) → LegalSv f → Contents Octets e → IfLegal (fields_from f counted e)
unfolding fields_from
fields_legal f true ended l c = l
fields_legal f false ended l c = tt
fields_legal f counted (failed e) l c = tt
fields_legal f counted (next tag head content rest) l c =
    cond_holds IfLegal (field_fits tag content)
    (fields_legal (with_field f tag content) (counted || eqb tag smp_cnt_tag) rest (field_legal content c.0 f tag l) c.1)
    tt

-- what is sought in octets is octets
module _ (f : SvFrame) (l : LegalSv f) where
  asdu_legal : (s : Sought) → FoundOr Octets s → IfLegal (asdu_frame f s)
  asdu_legal (Ok (Some asdu)) o = fields_legal f false (elements asdu) l (all_elements Octets part_octets octets_drop asdu o)
  asdu_legal (Ok None) o = tt
  asdu_legal (Err e) o = tt

  seq_legal : (s : Sought) → FoundOr Octets s → IfLegal (seq_asdu_frame f s)
  seq_legal (Ok (Some asdus)) o = asdu_legal (opened asdu_tag asdus) (opened_has Octets part_octets octets_drop asdu_tag asdus o)
  seq_legal (Ok None) o = tt
  seq_legal (Err e) o = tt

  pdu_legal : (s : Sought) → FoundOr Octets s → IfLegal (sav_pdu_frame f s)
  pdu_legal (Ok (Some pdu)) o = seq_legal (first_content seq_asdu_tag (elements pdu)) (first_has Octets part_octets octets_drop seq_asdu_tag pdu o)
  pdu_legal (Ok None) o = tt
  pdu_legal (Err e) o = tt

apdu_legal :
    (apdu : List ℕ) {source : List ℕ} {time : ℕ} → Octets apdu → OctetArray 6 source → time < 2 ^ 64 → IfLegal (apdu_frame apdu source time)
unfolding apdu_frame
apdu_legal apdu {source} {time} o a t =
    pdu_legal (empty_frame source time) (empty_legal a t) (opened sav_pdu_tag apdu) (opened_has Octets part_octets octets_drop sav_pdu_tag apdu o)

pub sv_legal : (octets : List ℕ) (time : ℕ) → Octets octets → time < 2 ^ 64 → IfLegal (sv_frame octets time)
unfolding sv_frame header source_of
sv_legal octets time o t = go (apdu_of 0x88BA octets)
  where
    go : (a : Option Apdu) → IfLegal (header_frame octets time (with_source octets a))
    go (Some a) =
        apdu_legal (take (a.end - a.start) (drop a.start octets)) (part_octets octets o a.start (a.end - a.start))
        (array_tabulate (λ k. octet_at octets (6 + k)) (λ k. o (6 + k)) 6) t
    go None = tt

-- the frame that is read, or the default frame where none is
abbrev pub frame_or_default : Result SvFrame VsError → SvFrame
frame_or_default (Ok f) = f
frame_or_default (Err e) = default_sv

pub sv_legal_or_default : (octets : List ℕ) (time : ℕ) → Octets octets → time < 2 ^ 64 → LegalSv (frame_or_default (sv_frame octets time))
sv_legal_or_default octets time o t = go (sv_frame octets time) (sv_legal octets time o t)
  where
    go : (r : Result SvFrame VsError) → IfLegal r → LegalSv (frame_or_default r)
    go (Ok f) l = l
    go (Err e) l = default_legal
