-- `first_content` meets its contract. The invariant: what is sought from a place on is what is sought in all.
use mathlib.Core.Path.{◌≡◌}
use Prim.Native.Nat.{◌-◌, ◌≤◌}
use lib.ListN.{length, drop}
use Rattle.wire.specs.Element.{elements, first_place}
use Rattle.wire.proofs.element.first_content.Given as goal

abbrev pub invariant-loop-at : goal.invariant-loop-at
invariant-loop-at l = (l.at ≤ length l.bytes) × (first_place l.tag 0 (elements l.bytes) ≡ first_place l.tag l.at (elements (drop l.at l.bytes)))

abbrev pub decreases-loop-at : goal.decreases-loop-at
decreases-loop-at l = length l.bytes - l.at
