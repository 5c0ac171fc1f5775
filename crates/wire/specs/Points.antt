-- The starred reference points of 01 of this crate, as rows of the form of the crate below.
use Rattle.std.specs.Prelude.{List, [], ◌∷◌, ◌++◌, ℕ, Some, None, Ok, Err}
use Rattle.records.specs.Points.{Point}
use Rattle.wire.specs.Element.{element_row, element, Sought, content_of}

-- the octets of a part that was found
abbrev pub found_octets : Sought → List ℕ
found_octets (Ok (Some octets)) = octets
found_octets (Ok None) = []
found_octets (Err e) = []

-- an element as a row, and its content
abbrev pub element_point : List ℕ → List ℕ → Point
element_point octets expected =
    record { computed = element_row (element octets) ++ found_octets (content_of octets (element octets)); expected = expected }

-- the starred points of this crate
abbrev pub wire_points : List Point
wire_points =
    element_point (0x82 ∷ 0x84 ∷ 0x00 ∷ 0x00 ∷ 0x00 ∷ 0x02 ∷ 0x01 ∷ 0xF4 ∷ []) (1 ∷ 0x82 ∷ 6 ∷ 2 ∷ 8 ∷ 0x01 ∷ 0xF4 ∷ [])
    ∷ element_point (0x80 ∷ 0x80 ∷ []) (0 ∷ 9 ∷ [])
    ∷ element_point (0x82 ∷ 0x83 ∷ 0x01 ∷ 0x00 ∷ 0x00 ∷ []) (0 ∷ 9 ∷ [])
    ∷ []
