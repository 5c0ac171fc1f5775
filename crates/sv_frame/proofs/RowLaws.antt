-- The row of the answer to a frame's octets tells the answer: that a frame is read, or the error.
use mathlib.Core.Path.{◌≡◌}
use Rattle.records.proofs.RowLaws.{outcome, answer_row_tells}
use Rattle.records.specs.declared.error.VsError.{VsError}
use Rattle.records.specs.declared.frame.SvFrame.{SvFrame}
use Rattle.records.specs.Row.{answer_row}
use Rattle.std.proofs.Common.{Result}

pub parsed_row_injective : (a b : Result SvFrame VsError) → answer_row a ≡ answer_row b → outcome a ≡ outcome b
parsed_row_injective a b e = answer_row_tells a b e
