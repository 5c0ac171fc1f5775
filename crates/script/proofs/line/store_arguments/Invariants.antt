-- `script::line::store_arguments` stays within the line. The loop's invariant: the place to go on at is one of the line, and the buffer has kept its
-- length. Assumes nothing.
use Rattle.std.proofs.Common.{◌≡◌, ◌≤◌, length}
use Rattle.script.proofs.line.store_arguments.Given as goal

abbrev pub invariant-loop-k : goal.invariant-loop-k
invariant-loop-k l = (l.from ≤ length l.line) × (length l.arguments.octets.now ≡ length l.initial.arguments.octets.now)
