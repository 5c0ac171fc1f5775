-- For the code: a reader of elements (01, "an element walk holds the part still unread").
use Rattle.std.specs.Prelude.{ℕ, List, [], drop, Option, Some, None}
use Rattle.wire.specs.declared.element.Element.{Element}

-- what follows an element; nothing where it is unreadable
abbrev pub after_element : List ℕ → Option Element → List ℕ
after_element octets (Some e) = drop e.end octets
after_element octets None = []
