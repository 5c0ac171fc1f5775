-- `ethernet_header` meets its contract.
use mathlib.Core.Path.{sym, ◌∙◌}
use Rattle.wire.specs.Header.{header}
use Rattle.wire.proofs.header.ethernet_header.Goals as goal

pub returns-in_err-apdu : goal.returns-in_err-apdu
unfolding header
returns-in_err-apdu c = c.from_residual.ensures ∙ rw (sym c.apdu_of.ensures ∙ c.in_err-apdu.was)

pub returns : goal.returns
unfolding header
returns c = rw (sym c.apdu_of.ensures ∙ c.in_ok-apdu.was, c.source_of.ensures)
