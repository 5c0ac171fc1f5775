-- `padded` meets its contract. The invariant: the places passed are written.
use Rattle.std.proofs.Common.{◌≡◌, cond, ltb, replicate}
use Rattle.records.specs.Octets.{octet_at, overwritten}
use Rattle.records.proofs.name.padded.Given as goal

abbrev pub invariant-loop-i : goal.invariant-loop-i
invariant-loop-i l = l.out ≡ overwritten (replicate 64 0) 0 (λ k. cond (ltb k l.len) (octet_at l.octets k) 0) l.i
