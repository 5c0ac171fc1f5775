-- `ranks` meets its contract.
use Rattle.std.proofs.Common.{arith}
use Rattle.tables.proofs.RankWordLaws.{low_ranks}
use Rattle.tables.proofs.order.ranks.Goals as goal

pub returns : goal.returns
returns c = low_ranks _ (omega arith)
