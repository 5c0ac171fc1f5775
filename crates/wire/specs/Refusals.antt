-- Refusals by their numbers (01, "Element", "SV frame"): whatever the octets, what is not read is error 9, InvalidInput, and no other.
use Rattle.std.specs.Prelude.{ℕ, List, option_map}
use Rattle.records.specs.Row.{ValuesOr}
use Rattle.wire.specs.declared.header.Header.{Header}
use Rattle.wire.specs.Element.{length_row, head_row, element_row, length_of, head_of, element}
use Rattle.wire.specs.Header.{apdu_row, header}
use Rattle.wire.specs.Number.{unsigned_row, unsigned_int}

-- length octets, the head of an element, an element, an unsigned integer, and the APDU of a frame of an EtherType
abbrev pub LengthRefusals : Type 0
LengthRefusals = (octets : List ℕ) → ValuesOr 9 (length_row (length_of octets))

abbrev pub HeadRefusals : Type 0
HeadRefusals = (octets : List ℕ) → ValuesOr 9 (head_row (head_of octets))

abbrev pub ElementRefusals : Type 0
ElementRefusals = (octets : List ℕ) → ValuesOr 9 (element_row (element octets))

abbrev pub UnsignedRefusals : Type 0
UnsignedRefusals = (octets : List ℕ) → ValuesOr 9 (unsigned_row (unsigned_int octets))

abbrev pub ApduRefusals : Type 0
ApduRefusals = (type : ℕ) (octets : List ℕ) → ValuesOr 9 (apdu_row (option_map (λ (h : Header). h.apdu) (header type octets)))
