-- `u32_at` meets its contract.
use mathlib.Core.Path.{◌∙◌}
use Rattle.lent.proofs.OctetLaws.{number32_is}
use Rattle.lent.proofs.octets.u32_at.Goals as goal

pub returns : goal.returns
returns c = c.from_le_bytes.ensures ∙ number32_is c.args.octets.now c.args.at c.octets_at.ensures
