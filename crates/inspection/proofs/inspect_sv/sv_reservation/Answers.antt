-- `sv_reservation` meets its contract.
use Rattle.inspection.proofs.StageLaws.{hijack_ends, hijack_passed}
use Rattle.inspection.specs.InspectSv.{sv_time_field, sv_reservation}
use Rattle.inspection.proofs.inspect_sv.sv_reservation.Goals as goal

pub returns-then-dataset_hijacked : goal.returns-then-dataset_hijacked
unfolding sv_reservation
returns-then-dataset_hijacked c = let a = c.args in
    hijack_ends (sv_time_field a.svid.now a.n a.rate) c.dataset_hijacked.ensures c.if-dataset_hijacked.true c.one_alert.ensures

pub returns : goal.returns
unfolding sv_reservation
returns c = let a = c.args in
    hijack_passed (sv_time_field a.svid.now a.n a.rate) c.dataset_hijacked.ensures c.if-dataset_hijacked.false c.sv_time_field.ensures
