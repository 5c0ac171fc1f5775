-- `parse_tlv` meets its contract.
use mathlib.Core.Path.{sym, ◌∙◌}
use Rattle.wire.proofs.ElementLaws.{element_by}
use Rattle.wire.proofs.element.parse_tlv.Goals as goal

pub returns-in_err-read_head : goal.returns-in_err-read_head
returns-in_err-read_head c = c.from_residual.ensures ∙ sym (element_by _ c.read_head.ensures c.in_err-read_head.was)

pub returns : goal.returns
returns c = c.within.ensures ∙ sym (element_by _ c.read_head.ensures c.in_ok-read_head.was)
