-- `check_goose_lent` meets its contract.
use mathlib.Core.Path.{◌∙◌}
use Rattle.records.specs.Name.{name_of}
use Rattle.records.specs.Octets.{octet_at}
use Rattle.monitor.specs.Monitor.{monitor_of}
use Rattle.inspection.proofs.StageLaws.{counted_checked}
use Rattle.inspection.specs.InspectGoose.{goose_read_by, goose_read, goose_test}
use Rattle.lent.specs.Goose.{goose_frame_of}
use Rattle.lent.proofs.goose.check_goose_lent.Goals as goal

pub returns : goal.returns
unfolding goose_frame_of
returns c = let o = c.args.o.now in
    counted_checked (λ m. goose_test m (goose_read (goose_frame_of o))) c.count_frame_on.ensures
    (c.goose_checks_on.ensures
    ∙ λ i. goose_test (monitor_of c.count_frame_on.new.m)
    (goose_read_by (name_of (c.octets_at.ensures i) (octet_at o 70)) (c.goose_numbers-n.ensures i)))
