-- Request 5. The first length octet by cases (X.690 8.1.3): exactly one case fits each of the 256, and it reads or refuses as `length_of` does.
use Rattle.std.specs.Prelude.{ℕ, ◌+◌, ◌-◌, ◌<◌, ◌≡◌, Bool, true, ◌&&◌, cond, List, ◌∷◌, leb, length, take, Option, Some, None}
use Rattle.wire.specs.declared.element.Length.{Length}
use Rattle.wire.specs.Element.{limited, length_of}
use Rattle.wire.specs.Number.{big_endian}

-- the cases, in the request's order: the short form (8.1.3.4), the indefinite form (8.1.3.6), the long form of one to four further octets (8.1.3.5),
-- and the remainder: the long form of five or more, and FF, which by 8.1.3.5 c is not used
pub data LengthCase : Type 0 where
  short : LengthCase
  indefinite : LengthCase
  long : LengthCase
  remainder : LengthCase

-- the first octets of a case, the least and the greatest
abbrev pub first_octets : LengthCase → ℕ × ℕ
first_octets short = (0x00, 0x7F)
first_octets indefinite = (0x80, 0x80)
first_octets long = (0x81, 0x84)
first_octets remainder = (0x85, 0xFF)

-- a case fits a first octet
abbrev pub fits : LengthCase → ℕ → Bool
fits c first = leb (first_octets c).0 first && leb first (first_octets c).1

-- 8.1.3.5: n further octets hold the length; missing ones are refused. This is `long_form` without its limits of n, which the case sets
unfoldable pub further_octets : ℕ → List ℕ → Option Length
further_octets n further = cond (leb n (length further)) (limited (n + 1) (big_endian (take n further))) None

-- length octets as a case reads or refuses them, by the first octet and those after it
abbrev pub read_as : LengthCase → ℕ → List ℕ → Option Length
read_as short first further = Some (record { octets = 1; value = first })
read_as indefinite first further = None
read_as long first further = further_octets (first - 0x80) further
read_as remainder first further = None

-- of a first octet: one case fits, no other does, and with any octets after it that case reads or refuses as `length_of` does
abbrev pub OneCase : ℕ → Type 0
OneCase first =
    (c : LengthCase)
    × (fits c first ≡ true)
    × ((other : LengthCase) → fits other first ≡ true → other ≡ c)
    × ((further : List ℕ) → read_as c first further ≡ length_of (first ∷ further))

-- of all 256
abbrev pub LengthByCases : Type 0
LengthByCases = (first : ℕ) → first < 256 → OneCase first
