-- The alerts of the answers so far are pushed.
use Rattle.std.proofs.Common.{◌≡◌, take}
use mathlib.Core.List.{foldl}
use Rattle.inspection.specs.Report.{alerts_of, reported_next}
use Rattle.inspection.proofs.report.push_alerts.Given as goal

abbrev pub invariant-loop-found : goal.invariant-loop-found
invariant-loop-found l = l.out
    ≡ foldl (reported_next l.source.source_type l.source.source_id l.source.timestamp_us) l.initial.out (alerts_of (take l.found-index l.found-items))
