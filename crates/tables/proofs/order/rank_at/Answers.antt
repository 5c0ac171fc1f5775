-- `rank_at` meets its contract.
use Rattle.tables.specs.Order.{rank_of}
use Rattle.tables.proofs.order.rank_at.Goals as goal

pub returns : goal.returns
unfolding rank_of
returns c = c.rank_in.ensures
