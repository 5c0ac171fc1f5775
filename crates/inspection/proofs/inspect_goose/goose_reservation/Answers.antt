-- `goose_reservation` meets its contract.
use Rattle.inspection.proofs.StageLaws.{hijack_ends, hijack_passed}
use Rattle.inspection.specs.InspectGoose.{goose_time_field, goose_reservation}
use Rattle.inspection.proofs.inspect_goose.goose_reservation.Goals as goal

pub returns-then-hijacked : goal.returns-then-hijacked
unfolding goose_reservation
returns-then-hijacked c = let a = c.args in
    hijack_ends (goose_time_field a.n) c.hijacked.ensures c.if-hijacked.true c.one_alert.ensures

pub returns : goal.returns
unfolding goose_reservation
returns c = let a = c.args in
    hijack_passed (goose_time_field a.n) c.hijacked.ensures c.if-hijacked.false c.goose_time_field.ensures
