-- `address_of` meets its contract.
use Rattle.std.proofs.Common.{arith}
use Rattle.inspection.specs.Address.{address_of}
use Rattle.inspection.proofs.address.address_of.Goals as goal

pub returns : goal.returns
unfolding address_of
returns c = let high = c.from_be_bytes-high.ensures in
    let low = c.from_be_bytes-low.ensures in
    omega (arith, high, low)
