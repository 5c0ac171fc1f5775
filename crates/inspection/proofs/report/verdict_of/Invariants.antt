-- The alerts of the answers so far are noted.
use Rattle.std.proofs.Common.{◌≡◌, take}
use mathlib.Core.List.{foldl}
use Rattle.inspection.specs.Report.{alerts_of, alert_noted}
use Rattle.inspection.proofs.report.verdict_of.Given as goal

abbrev pub invariant-loop-found : goal.invariant-loop-found
invariant-loop-found l = l.out ≡ foldl alert_noted l.initial.out (alerts_of (take l.found-index l.found-items))
