-- `answers::result::put_alerts` puts into one buffer. The loop's invariant: it has kept its length. Assumes nothing.
use Rattle.std.proofs.Common.{◌≡◌, length}
use Rattle.answers.proofs.result.put_alerts.Given as goal

abbrev pub invariant-loop-slot : goal.invariant-loop-slot
invariant-loop-slot l = length l.out.octets.now ≡ length l.initial.out.octets.now
