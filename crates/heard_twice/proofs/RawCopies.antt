-- The octets of an SV frame, read at two times: both readings are refused alike, or give frames that are equal but for the time.
use Prim.Native.Nat.{ℕ, ◌-◌}
use mathlib.Core.Bool.{Bool, true, false, ◌||◌, cond}
use mathlib.Core.List.{List}
use lib.Dec.{eqb}
use lib.ListN.{take, drop}
use Rattle.records.specs.declared.error.VsError.{VsError}
use Rattle.records.specs.declared.error.VsError.TheVariants.{InvalidInput}
use Rattle.records.specs.declared.frame.SvFrame.{SvFrame}
use Rattle.std.proofs.Common.{Option, Some, None, Result, Ok, Err}
use Rattle.wire.specs.declared.header.Header.{Header}
use Rattle.wire.specs.Element.{Elements, ended, failed, next, elements, Sought, first_content, opened}
use Rattle.wire.specs.Header.{ethertype_sv, header}
use Rattle.sv_frame.specs.Field.{sav_pdu_tag, seq_asdu_tag, asdu_tag, smp_cnt_tag, field_fits, with_field}
use Rattle.sv_frame.specs.Sv.{fields_from, asdu_frame, seq_asdu_frame, sav_pdu_frame, empty_frame, apdu_frame, header_frame, sv_frame}
use Rattle.heard_twice.specs.HeardTwice.{sv_at}

module _ (time : ℕ) where
  -- a reading, and the same one at this time
  pub data Reread : Result SvFrame VsError → Result SvFrame VsError → Type 0 where
    frame : (f : SvFrame) → Reread (Ok f) (Ok (sv_at f time))
    refused : (e : VsError) → Reread (Err e) (Err e)

  fields_reread : (f : SvFrame) (counted : Bool) (fields : Elements) → Reread (fields_from f counted fields) (fields_from (sv_at f time) counted fields)
  unfolding fields_from with_field
  fields_reread f true ended = frame f
  fields_reread f false ended = refused InvalidInput
  fields_reread f counted (failed e) = refused e
  fields_reread f counted (next tag head content rest) =
      go (field_fits tag content) (fields_reread (with_field f tag content) (counted || eqb tag smp_cnt_tag) rest)
    where
      go :
          (fits : Bool) {p q : Result SvFrame VsError} → Reread p q → Reread (cond fits p (Err InvalidInput)) (cond fits q (Err InvalidInput))
      go true r = r
      go false r = refused InvalidInput

  asdu_reread : (f : SvFrame) (s : Sought) → Reread (asdu_frame f s) (asdu_frame (sv_at f time) s)
  asdu_reread f (Ok (Some asdu)) = fields_reread f false (elements asdu)
  asdu_reread f (Ok None) = refused InvalidInput
  asdu_reread f (Err e) = refused e

  asdus_reread : (f : SvFrame) (s : Sought) → Reread (seq_asdu_frame f s) (seq_asdu_frame (sv_at f time) s)
  asdus_reread f (Ok (Some asdus)) = asdu_reread f (opened asdu_tag asdus)
  asdus_reread f (Ok None) = refused InvalidInput
  asdus_reread f (Err e) = refused e

  pdu_reread : (f : SvFrame) (s : Sought) → Reread (sav_pdu_frame f s) (sav_pdu_frame (sv_at f time) s)
  pdu_reread f (Ok (Some pdu)) = asdus_reread f (first_content seq_asdu_tag (elements pdu))
  pdu_reread f (Ok None) = refused InvalidInput
  pdu_reread f (Err e) = refused e

  header_reread :
      (octets : List ℕ) (before : ℕ) (h : Option Header) → Reread (header_frame octets before h) (header_frame octets time h)
  unfolding apdu_frame
  header_reread octets before (Some h) =
      pdu_reread (empty_frame h.src_mac before) (opened sav_pdu_tag (take (h.apdu.end - h.apdu.start) (drop h.apdu.start octets)))
  header_reread octets before None = refused InvalidInput

  -- the octets at an earlier time, and at this one
  pub reread : (octets : List ℕ) (before : ℕ) → Reread (sv_frame octets before) (sv_frame octets time)
  unfolding sv_frame
  reread octets before = header_reread octets before (header ethertype_sv octets)
