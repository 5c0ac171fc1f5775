-- `rank_in` meets its contract.
use Rattle.tables.proofs.RankWordLaws.{rank_shifted}
use Rattle.tables.proofs.order.rank_in.Goals as goal

pub returns : goal.returns
returns c = rank_shifted _ _
