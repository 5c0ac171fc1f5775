-- The rows of this crate hold.
use Rattle.std.proofs.Common.{refl}
use Rattle.records.specs.Hash.{hash_step, hash_from, fnv1a}
use Rattle.records.specs.Schedule.{expected_interval}
use Rattle.records.specs.Bucket.{refill, refilled_by, refilled, next_call}
use Rattle.records.specs.Points.{Hold, records_points}

pub records_points_hold : Hold records_points
unfolding hash_step hash_from fnv1a expected_interval refill refilled_by refilled next_call
records_points_hold = (refl, (refl, (refl, (refl, (refl, (refl, (refl, tt)))))))
