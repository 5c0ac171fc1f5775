-- `masked` meets its contract.
use mathlib.Core.Bool.{not}
use mathlib.Core.Path.{ap}
use Rattle.inspection.specs.InspectMms.{masked}
use Rattle.inspection.proofs.StageLaws.{nonzero}
use Rattle.inspection.proofs.inspect_mms.masked.Goals as goal

pub returns-then-mask-eq0 : goal.returns-then-mask-eq0
unfolding masked
returns-then-mask-eq0 c = rw c.if-mask-eq0.true

pub returns : goal.returns
unfolding masked
returns c = rw (nonzero _ c.if-mask-eq0.false) (ap not c.has_bit.ensures)
