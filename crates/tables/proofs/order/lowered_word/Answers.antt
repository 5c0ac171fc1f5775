-- `lowered_word` meets its contract. The invariant: the octets from k on are packed.
use Rattle.std.proofs.Common.{ap, ◌∙◌, arith}
use Rattle.tables.proofs.OrderLaws.{lowered_most}
use Rattle.tables.proofs.PackedLaws.{packed_last, packed_next, packed_fits}
use Rattle.tables.specs.Order.{lowered, rank_in}
use Rattle.tables.proofs.order.lowered_word.Goals as goal

pub overflow_add-out : goal.overflow_add-out
overflow_add-out c = let a = c.args in
    let e = c.lowered.ensures ∙ ap (lowered a.old) c.rank_in.ensures in
    let f = packed_fits _ c.loop-k.invariant (omega arith) e (λ j m. omega (arith, lowered_most a.old (rank_in a.word j))) in
    omega arith

pub loop-k-preserved : goal.loop-k-preserved
loop-k-preserved c = packed_next _ c.loop-k.invariant (omega arith) (c.lowered.ensures ∙ ap (lowered c.args.old) c.rank_in.ensures)

pub loop-k-init : goal.loop-k-init
loop-k-init c = packed_last _

pub overflow_mul-out : goal.overflow_mul-out
overflow_mul-out c = let a = c.args in
    let e = c.lowered.ensures ∙ ap (lowered a.old) c.rank_in.ensures in
    let f = packed_fits _ c.loop-k.invariant (omega arith) e (λ j m. omega (arith, lowered_most a.old (rank_in a.word j))) in
    omega arith
