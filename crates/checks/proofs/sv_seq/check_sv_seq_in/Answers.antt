-- `check_sv_seq_in` meets its contract.
use Rattle.std.proofs.Common.{sym, ap, ◌∙◌}
use Rattle.tables.proofs.WordTables.{word_at, word_set_lem}
use Rattle.tables.specs.Place.{known_of}
use Rattle.checks.specs.SvSeq.{sv_outcome}
use Rattle.checks.proofs.SvSeqLaws.{count_checked}
use Rattle.checks.proofs.sv_seq.check_sv_seq_in.Goals as goal

pub returns : goal.returns
returns c =
    let e = c.enter-place.ensures in
    count_checked _ _ _ e.entered (sym (word_at _ _ e.below 162))
    (c.sv_outcome-outcome.ensures ∙ ap (λ x. sv_outcome (known_of x) c.args.smp_cnt) c.then_some.ensures)
    c.is_replay.ensures c.count_or.ensures (sym (word_set_lem _ _ e.below 162 _))
