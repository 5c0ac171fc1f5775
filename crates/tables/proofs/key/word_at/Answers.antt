-- `word_at` meets its contract.
use Rattle.std.proofs.Common.{◌≡◌, ◌+◌, arith}
use Rattle.tables.specs.Packed.{packed}
use Rattle.tables.proofs.key.word_at.Goals as goal

pub returns : goal.returns
unfolding packed
returns c = let a = c.args in
    let z : a.start + 0 ≡ a.start = omega arith in
    rw z (omega arith)
