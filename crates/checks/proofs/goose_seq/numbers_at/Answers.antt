-- `numbers_at` meets its contract.
use Rattle.std.proofs.Common.{sym}
use Rattle.tables.proofs.WordTables.{word_at}
use Rattle.checks.proofs.goose_seq.numbers_at.Goals as goal

pub returns : goal.returns
returns c = let h = c.requires.1 in
    let s = sym (word_at _ _ h 162) in
    let q = sym (word_at _ _ h 178) in
    let t = sym (word_at _ _ h 194) in
    λ i. ((s i, q i), t i)
