-- `publisher_key` meets its contract.
use mathlib.Core.Path.{ap, ◌∙◌}
use Rattle.records.proofs.NameLaws.{name_padded}
use Rattle.checks.specs.Keys.{plain_key}
use Rattle.checks.proofs.keys.publisher_key.Goals as goal

pub returns : goal.returns
returns c = c.plain_key.ensures ∙ ap plain_key (rw c.padded_octets-octets.ensures (name_padded _ c.requires))
