-- `overlay` meets its contract.
use mathlib.Core.Path.{◌∙◌, ap}
use native.Mathlib.Omega.{arith}
use Rattle.records.specs.Octets.{overwritten}
use Rattle.sv_frame.specs.Field.{overlaid}
use Rattle.sv_frame.proofs.field.overlay.Goals as goal

pub put_first-requires : goal.put_first-requires
put_first-requires c = let n = c.name_len.ensures in (omega (arith, n), omega (arith, n))

pub returns : goal.returns
unfolding overlaid
returns c = c.put_first.ensures ∙ ap (overwritten _ 0 _) c.name_len.ensures
