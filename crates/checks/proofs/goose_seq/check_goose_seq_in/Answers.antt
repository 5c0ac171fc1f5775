-- `check_goose_seq_in` meets its contract.
use Rattle.std.proofs.Common.{option_map, sym, ap, ◌∙◌}
use Rattle.tables.proofs.PlaceLaws.{known_map}
use Rattle.tables.proofs.WordTables.{word_set_lem}
use Rattle.tables.specs.Place.{known_of}
use Rattle.checks.specs.GooseSeq.{numbers_of, goose_replay}
use Rattle.checks.proofs.GooseSeqLaws.{numbers_checked}
use Rattle.checks.proofs.goose_seq.check_goose_seq_in.Goals as goal

pub returns : goal.returns
returns c =
    let e = c.enter-place.ensures in
    let h = e.below in
    let new = numbers_of c.args.new in
    let last = ap (λ x. known_of (option_map numbers_of x)) c.then_some.ensures ∙ known_map numbers_of _ _ in
    numbers_checked _ _ new e.entered c.numbers_at-last.ensures (c.goose_replay-replay.ensures ∙ ap (λ x. goose_replay x new.0) last)
    c.numbers_or-kept.ensures (sym (word_set_lem _ _ h 162 _)) (sym (word_set_lem _ _ h 178 _)) (sym (word_set_lem _ _ h 194 _))
