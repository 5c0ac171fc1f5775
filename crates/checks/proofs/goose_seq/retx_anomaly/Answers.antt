-- `retx_anomaly` meets its contract.
use Rattle.tables.proofs.PlaceLaws.{found_key}
use Rattle.tables.specs.Named.{named}
use Rattle.checks.proofs.GooseSeqLaws.{retx_new, retx_known}
use Rattle.checks.proofs.goose_seq.retx_anomaly.Goals as goal

pub numbers_at-requires : goal.numbers_at-requires
numbers_at-requires c = (c.requires, (found_key named _ _ c.find.ensures c.in-Some.is).0)

pub returns-in-Some : goal.returns-in-Some
returns-in-Some c = retx_known _ _ _ _ c.find.ensures c.in-Some.is c.numbers_at.ensures c.outside_tolerance.ensures

pub returns-in-None : goal.returns-in-None
returns-in-None c = retx_new _ _ _ _ c.find.ensures c.in-None.is
