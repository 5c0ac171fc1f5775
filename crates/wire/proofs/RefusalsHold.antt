-- What is not read is error 9, for all octets.
use mathlib.Core.Logic.{inl, inr}
use mathlib.Core.Path.{refl}
use Rattle.records.specs.Row.{ValuesOr}
use Prim.Native.Nat.{ℕ}
use mathlib.Core.List.{List}
use Rattle.std.proofs.Common.{Option, Some, None}
use Rattle.std.specs.Prelude.{option_map}
use Rattle.wire.specs.declared.header.Header.{Header}
use Rattle.wire.specs.Element.{length_row, head_row, element_row, length_of, head_of, element}
use Rattle.wire.specs.Header.{apdu_row, header}
use Rattle.wire.specs.Number.{unsigned_row, unsigned_int}
use Rattle.wire.specs.Refusals.{LengthRefusals, HeadRefusals, ElementRefusals, UnsignedRefusals, ApduRefusals}

-- an answer that is a value has a row of values, and one that is none has the row of error 9
row_or_9 :
    {T : Type 0} (row : Option T → List ℕ) (o : Option T) → ((x : T) → ValuesOr 9 (row (Some x))) → ValuesOr 9 (row None)
    → ValuesOr 9 (row o)
row_or_9 row (Some x) v e = v x
row_or_9 row None v e = e

pub length_refusals : LengthRefusals
length_refusals octets = row_or_9 length_row (length_of octets) (λ l. inl refl) (inr refl)

pub head_refusals : HeadRefusals
head_refusals octets = row_or_9 head_row (head_of octets) (λ h. inl refl) (inr refl)

pub element_refusals : ElementRefusals
element_refusals octets = row_or_9 element_row (element octets) (λ e. inl refl) (inr refl)

pub unsigned_refusals : UnsignedRefusals
unsigned_refusals octets = row_or_9 unsigned_row (unsigned_int octets) (λ v. inl refl) (inr refl)

pub apdu_refusals : ApduRefusals
apdu_refusals type octets =
    row_or_9 (λ h. apdu_row (option_map (λ (h : Header). h.apdu) h)) (header type octets) (λ h. inl refl) (inr refl)
