-- `inspect_sv_batch` meets its contract. The invariant: the monitor is the one after the frames passed, and their verdicts are written.
use mathlib.Core.Path.{◌≡◌}
use Rattle.monitor.specs.Monitor.{monitor_of}
use Rattle.batch.specs.Batch.{sv_after, sv_verdicts}
use Rattle.batch.proofs.inspect_sv_batch.Given as goal

abbrev pub invariant-loop-i : goal.invariant-loop-i
invariant-loop-i l =
    (monitor_of l.m ≡ sv_after (monitor_of l.initial.m) l.frames l.i)
    × (l.verdicts ≡ sv_verdicts (monitor_of l.initial.m) l.frames l.initial.verdicts l.i)
