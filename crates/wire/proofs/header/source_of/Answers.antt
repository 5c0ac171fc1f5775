-- `source_of` meets its contract.
use mathlib.Core.List.{[], ◌∷◌}
use Rattle.records.specs.Octets.{tabulate}
use Rattle.wire.specs.Header.{source_of}
use Rattle.wire.proofs.header.source_of.Goals as goal

pub returns : goal.returns
unfolding source_of tabulate
returns c = λ i.
    c.octet_at.ensures i
    ∷ c.octet_at-2.ensures i
    ∷ c.octet_at-3.ensures i
    ∷ c.octet_at-4.ensures i
    ∷ c.octet_at-5.ensures i
    ∷ c.octet_at-6.ensures i
    ∷ []
