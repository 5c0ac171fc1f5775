-- `rate_check_in` meets its contract.
use Rattle.std.proofs.Common.{ℕ, sym, ap, ◌∙◌}
use Rattle.tables.proofs.WordTables.{word_set_lem}
use Rattle.tables.specs.Place.{known_of}
use Rattle.checks.specs.Rate.{bucket_call}
use Rattle.checks.proofs.RateLaws.{rate_checked_lem}
use Rattle.checks.proofs.rate.rate_check_in.Goals as goal

pub returns : goal.returns
returns c =
    let e = c.enter-place.ensures in
    let h = e.below in
    let request : ℕ × ℕ = (c.args.max_rate, c.args.now_us) in
    rate_checked_lem _ _ _ _ e.entered c.bucket_at-kept.ensures
    (c.bucket_call-call.ensures ∙ ap (λ x. bucket_call (known_of x) request) c.then_some.ensures)
    (sym (word_set_lem _ _ h 18 _)) (sym (word_set_lem _ _ h 34 _)) (sym (word_set_lem _ _ h 50 _))
