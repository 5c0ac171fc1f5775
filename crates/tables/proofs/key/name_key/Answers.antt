-- `name_key` meets its contract. The invariant: the words passed are written.
use Rattle.std.proofs.Common.{◌≡◌, length, refl, arith, rules}
use Rattle.records.proofs.NameLaws.{overwritten_more}
use Rattle.records.specs.Octets.{overwritten}
use Rattle.tables.proofs.KeyLaws.{key_of_frame, empty_key}
use Rattle.tables.proofs.key.name_key.Goals as goal

pub loop-k-init : goal.loop-k-init
unfolding overwritten
loop-k-init c = (omega arith, refl)

pub loop-k-preserved : goal.loop-k-preserved
loop-k-preserved c = let l = c.loop-k in
    (omega arith, overwritten_more _ _ 2 l.k l.invariant.1 (omega arith) c.word_at.ensures)

pub returns-then-len-eq0 : goal.returns-then-len-eq0
returns-then-len-eq0 c = empty_key _ _ (omega arith) c.if-len-eq0.true

pub returns : goal.returns
returns c = let l = c.loop-k in
    let e : l.k ≡ 8 = omega arith in
    let size : length c.args.octets.now ≡ 64 = search rules in
    rw c.from.ensures (key_of_frame _ _ size _ c.valid_len-valid.ensures c.padded-name.ensures (rw e at l.invariant.1) c.sum_of.ensures)
