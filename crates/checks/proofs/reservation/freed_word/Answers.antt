-- `freed_word` meets its contract. The invariant: the octets from k on are packed.
use Prim.Native.Nat.{◌+◌}
use native.Mathlib.Omega.{arith}
use Rattle.tables.proofs.PackedLaws.{packed_last, packed_next, packed_fits}
use Rattle.checks.proofs.ReservationLaws.{freed_octet}
use Rattle.checks.proofs.reservation.freed_word.Goals as goal

pub overflow_add-out : goal.overflow_add-out
overflow_add-out c = let a = c.args in
    let f = packed_fits _ c.loop-k.invariant (omega arith) c.freed_rank.ensures (λ j m. freed_octet a.t.now a.client (a.start + j)) in
    omega arith

pub loop-k-preserved : goal.loop-k-preserved
loop-k-preserved c = packed_next _ c.loop-k.invariant (omega arith) c.freed_rank.ensures

pub loop-k-init : goal.loop-k-init
loop-k-init c = packed_last _

pub overflow_mul-out : goal.overflow_mul-out
overflow_mul-out c = let a = c.args in
    let f = packed_fits _ c.loop-k.invariant (omega arith) c.freed_rank.ensures (λ j m. freed_octet a.t.now a.client (a.start + j)) in
    omega arith
