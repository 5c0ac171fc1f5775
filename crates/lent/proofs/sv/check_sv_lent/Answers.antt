-- `check_sv_lent` meets its contract.
use mathlib.Core.Path.{◌∙◌}
use Rattle.records.specs.Name.{name_of}
use Rattle.records.specs.Octets.{octet_at}
use Rattle.checks.specs.Keys.{plain_key}
use Rattle.monitor.specs.Monitor.{monitor_of}
use Rattle.inspection.proofs.StageLaws.{counted_checked}
use Rattle.inspection.specs.InspectSv.{sv_read_by, sv_read, sv_binding}
use Rattle.lent.specs.Sv.{sv_frame_of}
use Rattle.lent.proofs.sv.check_sv_lent.Goals as goal

pub returns : goal.returns
unfolding sv_frame_of
returns c = let o = c.args.o.now in
    let x = c.plain_key.ensures ∙ λ i. plain_key (name_of (c.octets_at.ensures i) (octet_at o 6)) in
    counted_checked (λ m. sv_binding m (sv_read (sv_frame_of o))) c.count_frame_on.ensures
    (c.sv_checks_on.ensures
    ∙ λ i. sv_binding (monitor_of c.count_frame_on.new.m)
    (sv_read_by (x i) (name_of (c.octets_at-2.ensures i) (octet_at o 76)) (c.sv_numbers-n.ensures i)))
