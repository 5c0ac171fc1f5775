-- The rows of this crate hold, and with those of the crates below all starred points.
use mathlib.Core.List.{List, [], ◌∷◌, ◌++◌}
use mathlib.Core.Path.{refl}
use Rattle.records.specs.Points.{Point, Hold, records_points}
use Rattle.records.proofs.PointsHold.{records_points_hold}
use Rattle.wire.specs.Points.{wire_points}
use Rattle.wire.proofs.PointsHold.{wire_points_hold}
use Rattle.checks.specs.SvSeq.{count_outcome}
use Rattle.inspection.specs.Points.{count_points, starred_points}

pub count_points_hold : Hold count_points
unfolding count_outcome
count_points_hold = (refl, (refl, (refl, (refl, tt))))

hold_both : (a b : List Point) → Hold a → Hold b → Hold (a ++ b)
hold_both [] b h k = k
hold_both (p ∷ a) b h k = (h.0, hold_both a b h.1 k)

pub starred_points_hold : Hold starred_points
starred_points_hold =
    hold_both records_points (wire_points ++ count_points) records_points_hold
    (hold_both wire_points count_points wire_points_hold count_points_hold)
