-- Legal frames and lists of them.
use mathlib.Core.List.{List, [], ◌∷◌, ◌++◌}
use Rattle.records.specs.Legal.{LegalGoose, LegalSv}
use Rattle.demand3.specs.Demand3.{Inspection, goose, sv, Legal}

unfoldable pub LegalOne : Inspection → Type 0
LegalOne (goose f) = LegalGoose f
LegalOne (sv f) = LegalSv f

pub legal_parts : (x : Inspection) (h : List Inspection) → Legal (x ∷ h) → LegalOne x × Legal h
unfolding LegalOne
legal_parts (goose f) h g = g
legal_parts (sv f) h g = g

pub legal_cons : (x : Inspection) (h : List Inspection) → LegalOne x → Legal h → Legal (x ∷ h)
unfolding LegalOne
legal_cons (goose f) h g a = (g, a)
legal_cons (sv f) h g a = (g, a)

pub legal_append : (a b : List Inspection) → Legal a → Legal b → Legal (a ++ b)
legal_append [] b g h = h
legal_append (goose f ∷ a) b g h = (g.0, legal_append a b g.1 h)
legal_append (sv f ∷ a) b g h = (g.0, legal_append a b g.1 h)
