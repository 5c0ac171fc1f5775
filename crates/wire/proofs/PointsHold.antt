-- The rows of this crate hold.
use mathlib.Core.Path.{refl}
use Rattle.records.specs.Points.{Hold}
use Rattle.wire.specs.Number.{big_endian_from}
use Rattle.wire.specs.Element.{long_form, length_of, head_of, within, element}
use Rattle.wire.specs.Points.{wire_points}

pub wire_points_hold : Hold wire_points
unfolding big_endian_from long_form length_of head_of within element
wire_points_hold = (refl, (refl, (refl, tt)))
