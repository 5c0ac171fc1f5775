-- `zero_words` meets its contract.
use Rattle.std.proofs.Common.{ℕ, length, sym, ◌∙◌, ext_get_or}
use Rattle.std.proofs.lemmas.List.{length-replicate, get_or-replicate}
use Rattle.records.proofs.NameLaws.{length_tabulate, tabulate_at}
use Rattle.tables.specs.Column.{zero_words}
use Rattle.tables.proofs.column.zero_words.Goals as goal

pub returns : goal.returns
unfolding zero_words
returns c = let n = length c.args.t.now in
    let z = length-replicate {A = ℕ} n 0 in
    c.fill.ensures.after (λ y e. e)
    ∙ ext_get_or 0 _ _ (z ∙ sym (length_tabulate (λ k. 0) n))
    (λ k h. get_or-replicate n k 0 0 (rw z at h) ∙ sym (tabulate_at (λ k. 0) n k 0 (rw z at h)))
