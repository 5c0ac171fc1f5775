-- `check_time_field_in` meets its contract.
use Rattle.std.proofs.Common.{option_map, sym, ap, ◌∙◌}
use Rattle.std.proofs.lemmas.Bool.{not-true, not-false}
use Rattle.tables.proofs.PlaceLaws.{known_map}
use Rattle.tables.proofs.WordTables.{word_at, word_set_lem}
use Rattle.tables.specs.Place.{known_of}
use Rattle.checks.specs.TimeField.{pair_of, clock_alert}
use Rattle.checks.proofs.TimeFieldLaws.{time_skipped, time_checked_lem}
use Rattle.checks.proofs.time_field.check_time_field_in.Goals as goal

pub returns-then-not-has_clock : goal.returns-then-not-has_clock
returns-then-not-has_clock c = time_skipped _ _ _ _ (sym c.has_clock.ensures ∙ not-true _ c.if-not-has_clock.true-raw)

pub returns : goal.returns
returns c =
    let e = c.enter-place.ensures in
    let h = e.below in
    let s = sym (word_at _ _ h 18) in
    let f = sym (word_at _ _ h 34) in
    let pair = pair_of c.args.pair in
    let kept = ap (λ x. known_of (option_map pair_of x)) c.then_some.ensures ∙ known_map pair_of _ _ in
    time_checked_lem _ _ _ pair (sym c.has_clock.ensures ∙ not-false _ c.if-not-has_clock.false-raw) e.entered
    (λ i. (s i, f i)) (sym (word_set_lem _ _ h 18 _)) (sym (word_set_lem _ _ h 34 _))
    (c.clock_alerts.ensures ∙ ap (λ x. clock_alert c.args.limit x pair) kept)
