-- `push_alerts` meets its contract.
use Rattle.std.proofs.Common.{Option, rules, take_all}
use mathlib.Core.List.{foldl}
use mathlib.Core.Path.{sym, ap, ◌∙◌}
use Rattle.inspection.specs.declared.report.CheckAlert.{CheckAlert}
use Rattle.inspection.specs.Report.{findings_in, alerts_of, alerts_pushed, reported_next}
use Rattle.inspection.proofs.AlertLaws.{one_answer_more}
use Rattle.inspection.proofs.report.push_alerts.Goals as goal
use Rattle.inspection.proofs.report.push_alerts.Goals.{in-Some, in_default}

pub loop-found-preserved : goal.loop-found-preserved
loop-found-preserved c = let a = c.args in
    let step = reported_next a.source.source_type a.source.source_id a.source.timestamp_us in
    let with_answer = λ (o : Option CheckAlert). foldl step c.loop-found.out (findings_in o) in
    let more = one_answer_more step _ a.alerts c.loop-found.found-index (search rules) c.loop-found.invariant in
    elim c.match-found.branch [
      | in-Some w ↦ w.out-is ∙ w.push_alert-out.ensures ∙ ap with_answer (sym w.in-Some.is) ∙ more
      | in_default w ↦ w.out-is ∙ ap with_answer (sym w.in_default.is) ∙ more
    ]

pub returns : goal.returns
unfolding alerts_pushed
returns c = let a = c.args in
    let step = reported_next a.source.source_type a.source.source_id a.source.timestamp_us in
    let every = take_all c.loop-found.found-index a.alerts (search rules) in
    c.loop-found.invariant ∙ λ i. foldl step (record { result = c.clean.ensures i; counters = a.counters }) (alerts_of (every i))
