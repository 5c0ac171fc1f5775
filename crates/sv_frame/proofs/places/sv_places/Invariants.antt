-- `sv_places` meets its contract. The invariant: the places so far, with those of what follows, are those of all.
use mathlib.Core.Path.{◌≡◌}
use Prim.Native.Nat.{◌-◌, ◌≤◌}
use lib.ListN.{length, drop}
use Rattle.wire.specs.Element.{elements}
use Rattle.sv_frame.specs.Places.{places_from, places_of}
use Rattle.sv_frame.proofs.places.sv_places.Given as goal

abbrev pub invariant-loop-at : goal.invariant-loop-at
invariant-loop-at l = (l.at ≤ length l.asdu) × (places_of l.asdu ≡ places_from l.out l.counted l.at (elements (drop l.at l.asdu)))

abbrev pub decreases-loop-at : goal.decreases-loop-at
decreases-loop-at l = length l.asdu - l.at
