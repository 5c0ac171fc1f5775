-- Elements (01, "Element"; X.690 8.1.2 and 8.1.3): tag, length, content, on a list of octets.
use Rattle.std.specs.Prelude.{ℕ, zero, suc, ◌+◌, ◌-◌, ◌%◌, ◌≤◌, ◌&&◌, cond, List, [], ◌∷◌, eqb, ltb, leb, length, take, drop}
use Rattle.std.specs.Prelude.{Option, Some, None, Result, Ok, Err}
use Rattle.records.specs.declared.error.VsError.{VsError}
use Rattle.records.specs.declared.error.VsError.TheVariants.{InvalidInput}
use Rattle.records.specs.Octets.{octet_at}
use Rattle.records.specs.Row.{error_row}
use Rattle.wire.specs.declared.element.Length.{Length}
use Rattle.wire.specs.declared.element.Head.{Head}
use Rattle.wire.specs.declared.element.Element.{Element}
use Rattle.wire.specs.declared.element.Part.{Part}
use Rattle.wire.specs.Number.{big_endian}

-- length octets as a row: 1, how many they are and the length that they state, or error 9
abbrev pub length_row : Option Length → List ℕ
length_row (Some l) = 1 ∷ l.octets ∷ l.value ∷ []
length_row None = error_row InvalidInput

-- a head as a row: 1, the tag, where the content starts and its length, or error 9
abbrev pub head_row : Option Head → List ℕ
head_row (Some h) = 1 ∷ h.tag ∷ h.start ∷ h.len ∷ []
head_row None = error_row InvalidInput

-- an element as a row: 1, its tag, where its content starts, its length and where it ends, or error 9
abbrev pub element_row : Option Element → List ℕ
element_row (Some e) = 1 ∷ e.tag ∷ e.start ∷ e.len ∷ e.end ∷ []
element_row None = error_row InvalidInput

-- a part that was sought as a row: 1, where it starts and its length; 2 where it is missing; or 0 and the error
abbrev pub part_row : Result (Option Part) VsError → List ℕ
part_row (Ok (Some p)) = 1 ∷ p.start ∷ p.len ∷ []
part_row (Ok None) = 2 ∷ []
part_row (Err e) = error_row e

-- a length above 65535 is refused
abbrev pub limited : ℕ → ℕ → Option Length
limited octets value = cond (leb value 65535) (Some (record { octets = octets; value = value })) None

-- 8.1.3.5, the long form: n further octets, 1 to 4 of them; missing ones are refused
unfoldable pub long_form : ℕ → List ℕ → Option Length
long_form n further =
    cond (leb 1 n && leb n 4 && leb n (length further)) (limited (n + 1) (big_endian (take n further))) None

-- 8.1.3: the short form below 80; 80 (the indefinite form) and 85 to FF are refused
unfoldable pub length_of : List ℕ → Option Length
length_of [] = None
length_of (first ∷ further) = cond (ltb first 0x80) (Some (record { octets = 1; value = first })) (long_form (first - 0x80) further)

-- the head that a tag and length octets give
abbrev pub head_with : ℕ → Option Length → Option Head
head_with tag (Some l) = Some (record { tag = tag; start = l.octets + 1; len = l.value })
head_with tag None = None

-- the head at the front: fewer than 2 octets are refused, and a tag of which the five low bits are all ones (8.1.2.4)
unfoldable pub head_of : List ℕ → Option Head
head_of octets =
    cond (ltb (length octets) 2) None
    (cond (eqb (octet_at octets 0 % 32) 31) None
    (head_with (octet_at octets 0) (length_of (drop 1 octets))))

-- content past the end is refused
unfoldable pub within : ℕ → ℕ → ℕ → ℕ → Option Element
within tag start len total =
    cond (leb (start + len) total) (Some (record { tag = tag; start = start; len = len; end = start + len })) None

-- the element of a head, in so many octets
abbrev pub headed : ℕ → Option Head → Option Element
headed total (Some h) = within h.tag h.start h.len total
headed total None = None

-- the element at the front
unfoldable pub element : List ℕ → Option Element
element octets = headed (length octets) (head_of octets)

-- the elements of a part, each its tag, how many octets its head has, and its content, up to the part's end or to the error that ended the
-- reading
pub data Elements : Type 0 where
  ended : Elements
  failed : VsError → Elements
  next : ℕ → ℕ → List ℕ → Elements → Elements

-- an element and what follows it; an unreadable one is InvalidInput
abbrev pub element_then : (List ℕ → Elements) → List ℕ → Option Element → Elements
element_then follow octets None = failed InvalidInput
element_then follow octets (Some e) = next e.tag e.start (take e.len (drop e.start octets)) (follow (drop e.end octets))

-- nothing, or an element and what follows it
abbrev pub elements_then : (List ℕ → Elements) → List ℕ → Elements
elements_then follow [] = ended
elements_then follow (octet ∷ more) = element_then follow (octet ∷ more) (element (octet ∷ more))

-- n elements at most
unfoldable pub elements_of : ℕ → List ℕ → Elements
elements_of zero octets = ended
elements_of (suc n) octets = elements_then (elements_of n) octets

-- all: there are no more elements than octets
abbrev pub elements : List ℕ → Elements
elements octets = elements_of (length octets) octets

-- what is sought in octets: the octets of it, that it is missing, or the error that ended the reading
abbrev pub Sought : Type 0
Sought = Result (Option (List ℕ)) VsError

-- the content of the first element with this tag, nothing after it being read
unfoldable pub first_content : ℕ → Elements → Sought
first_content tag ended = Ok None
first_content tag (failed e) = Err e
first_content tag (next other head content rest) = cond (eqb other tag) (Ok (Some content)) (first_content tag rest)

-- the content of an element; of an unreadable one, the error
abbrev pub content_of : List ℕ → Option Element → Sought
content_of octets (Some e) = Ok (Some (take e.len (drop e.start octets)))
content_of octets None = Err InvalidInput

-- an element with this tag at the front is opened: its content; other octets are left as they are; of none it is missing
unfoldable pub opened : ℕ → List ℕ → Sought
opened tag [] = Ok None
opened tag (first ∷ more) = cond (eqb first tag) (content_of (first ∷ more) (element (first ∷ more))) (Ok (Some (first ∷ more)))

-- ---- for the code

-- where the content of an element is
abbrev pub content_place : Option Element → Result (Option Part) VsError
content_place (Some e) = Ok (Some (record { start = e.start; len = e.len }))
content_place None = Err InvalidInput

-- where what is opened is
unfoldable pub opened_place : ℕ → List ℕ → Result (Option Part) VsError
opened_place tag [] = Ok None
opened_place tag (first ∷ more) =
    cond (eqb first tag) (content_place (element (first ∷ more))) (Ok (Some (record { start = 0; len = length (first ∷ more) })))

-- where the content of the first element with this tag is, of elements that begin at a place
unfoldable pub first_place : ℕ → ℕ → Elements → Result (Option Part) VsError
first_place tag at ended = Ok None
first_place tag at (failed e) = Err e
first_place tag at (next other head content rest) =
    cond (eqb other tag) (Ok (Some (record { start = at + head; len = length content }))) (first_place tag (at + head + length content) rest)

-- what stands in octets at a place
abbrev pub part_of : List ℕ → Result (Option Part) VsError → Sought
part_of octets (Ok (Some p)) = Ok (Some (take p.len (drop p.start octets)))
part_of octets (Ok None) = Ok None
part_of octets (Err e) = Err e

-- a place is within so many octets
abbrev pub PartWithin : ℕ → Result (Option Part) VsError → Type 0
PartWithin total (Ok (Some p)) = p.start + p.len ≤ total
PartWithin total (Ok None) = Unit
PartWithin total (Err e) = Unit
