-- `hijacked` meets its contract.
use Rattle.records.proofs.Booleans.{answered}
use Rattle.records.specs.Name.{stated_name}
use Rattle.checks.specs.Keys.{reservation_key}
use Rattle.monitor.specs.Monitor.{monitor_of}
use Rattle.inspection.proofs.HijackLaws.{unreserved_passed}
use Rattle.inspection.proofs.hijack.hijacked.Goals as goal

pub returns-then-no_reservations_on : goal.returns-then-no_reservations_on
returns-then-no_reservations_on c = let a = c.args in
    unreserved_passed (monitor_of a.m.now) (reservation_key a.is_goose (stated_name a.name)) a.address
    (answered c.no_reservations_on.ensures c.if-no_reservations_on.true)
