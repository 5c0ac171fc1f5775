-- A frame that is not read is error 9, for all octets.
use Prim.Native.Nat.{ℕ}
use mathlib.Core.Bool.{Bool, true, false, ◌||◌}
use mathlib.Core.List.{List}
use mathlib.Core.Logic.{inl, inr, ⊎_elim}
use mathlib.Core.Path.{◌≡◌, refl, ap}
use lib.Dec.{eqb}
use lib.ListN.{get_or}
use Rattle.records.proofs.Booleans.{cond_holds}
use Rattle.records.specs.declared.error.VsError.{VsError}
use Rattle.records.specs.declared.error.VsError.TheVariants.{InvalidInput}
use Rattle.records.specs.declared.frame.SvFrame.{SvFrame}
use Rattle.records.specs.Row.{ValuesOr}
use Rattle.std.proofs.Common.{Option, Some, None, Result, Ok, Err}
use Rattle.wire.specs.declared.header.Header.{Header}
use Rattle.wire.specs.Element.{Elements, ended, failed, next, elements, Sought, first_content, opened}
use Rattle.sv_frame.specs.Field.{sav_pdu_tag, seq_asdu_tag, asdu_tag, smp_cnt_tag, field_fits, with_field}
use Rattle.wire.specs.Header.{header}
use Rattle.sv_frame.specs.Refusals.{FrameOr9, SvRefusals}
use Rattle.records.specs.Row.{answer_row}
use Rattle.sv_frame.specs.Sv.{fields_from, asdu_frame, seq_asdu_frame, sav_pdu_frame, apdu_frame, header_frame, sv_frame}
use Rattle.wire.proofs.ElementLaws.{Contents, FoundOr, Any, any_elements, any_opened, any_first}

refused : {e : VsError} → e ≡ InvalidInput → FrameOr9 (Err e)
refused q = rw q (inr refl)

fields_read : (f : SvFrame) (counted : Bool) (e : Elements) → Contents Any e → FrameOr9 (fields_from f counted e)
unfolding fields_from
fields_read f true ended c = inl refl
fields_read f false ended c = refused refl
fields_read f counted (failed e) c = refused c
fields_read f counted (next tag head content rest) c =
    cond_holds FrameOr9 (field_fits tag content) (fields_read (with_field f tag content) (counted || eqb tag smp_cnt_tag) rest c.1) (refused refl)

module _ (f : SvFrame) where
  asdu_read : (s : Sought) → FoundOr Any s → FrameOr9 (asdu_frame f s)
  asdu_read (Ok (Some asdu)) o = fields_read f false (elements asdu) (any_elements asdu)
  asdu_read (Ok None) o = refused refl
  asdu_read (Err e) o = refused o

  seq_read : (s : Sought) → FoundOr Any s → FrameOr9 (seq_asdu_frame f s)
  seq_read (Ok (Some asdus)) o = asdu_read (opened asdu_tag asdus) (any_opened asdu_tag asdus)
  seq_read (Ok None) o = refused refl
  seq_read (Err e) o = refused o

  pdu_read : (s : Sought) → FoundOr Any s → FrameOr9 (sav_pdu_frame f s)
  pdu_read (Ok (Some pdu)) o = seq_read (first_content seq_asdu_tag (elements pdu)) (any_first seq_asdu_tag pdu)
  pdu_read (Ok None) o = refused refl
  pdu_read (Err e) o = refused o

apdu_read : (octets source : List ℕ) (time : ℕ) → FrameOr9 (apdu_frame octets source time)
unfolding apdu_frame
apdu_read octets source time = pdu_read _ (opened sav_pdu_tag octets) (any_opened sav_pdu_tag octets)

pub sv_refusals : SvRefusals
unfolding sv_frame
sv_refusals octets time = go (header 0x88BA octets)
  where
    go : (h : Option Header) → FrameOr9 (header_frame octets time h)
    go (Some h) = apdu_read _ _ time
    go None = refused refl

-- of what was read
pub by_frame : (octets : List ℕ) (time : ℕ) {r : Result SvFrame VsError} → r ≡ sv_frame octets time → (r ≡ sv_frame octets time) × FrameOr9 r
by_frame octets time e = (e, rw e (sv_refusals octets time))

-- the answer alone
pub sv_answers : (octets : List ℕ) (time : ℕ) → ValuesOr 9 (answer_row (sv_frame octets time))
sv_answers octets time = ⊎_elim (λ e. inl (ap (λ (row : List ℕ). get_or row 0 0) e)) (λ e. inr e) (sv_refusals octets time)
