-- `raised_word` meets its contract.
use Rattle.std.proofs.Common.{arith}
use Rattle.tables.proofs.RankWordLaws.{ranks_most, raised_word_lem}
use Rattle.tables.proofs.order.raised_word.Goals as goal

pub overflow_add-not_below : goal.overflow_add-not_below
overflow_add-not_below c = omega (arith, ranks_most c.args.word)

pub overflow_add-result : goal.overflow_add-result
overflow_add-result c = omega (arith, ranks_most c.args.word)

pub returns : goal.returns
returns c = raised_word_lem _ (omega arith) (omega arith) _ c.ranks-low.ensures
