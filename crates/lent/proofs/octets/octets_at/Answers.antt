-- `octets_at` meets its contract.
use mathlib.Core.Path.{◌≡◌, ◌∙◌}
use Prim.Native.Nat.{◌+◌, ◌-◌}
use native.Mathlib.Omega.{arith}
use Rattle.lent.proofs.OctetLaws.{part_octets}
use Rattle.lent.proofs.octets.octets_at.Goals as goal

pub returns : goal.returns
returns g c = let a = c.args in
    let n : a.at + g.row.N - a.at ≡ g.row.N = omega arith in
    c.copy_from_slice.ensures.after ∙ rw n (part_octets a.octets.now a.at g.row.N c.requires)
