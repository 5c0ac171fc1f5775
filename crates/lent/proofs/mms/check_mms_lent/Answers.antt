-- `check_mms_lent` meets its contract.
use mathlib.Core.Path.{◌∙◌}
use Rattle.monitor.specs.Monitor.{monitor_of}
use Rattle.inspection.proofs.StageLaws.{counted_checked}
use Rattle.lent.specs.Mms.{mms_frame_of}
use Rattle.inspection.specs.InspectMms.{mms_read, mms_checks}
use Rattle.lent.proofs.mms.check_mms_lent.Goals as goal

pub returns : goal.returns
unfolding mms_frame_of
returns c = let o = c.args.o.now in
    counted_checked (λ m. mms_checks m (mms_read (mms_frame_of o))) c.count_frame_on.ensures
    (c.mms_checks_on.ensures
    ∙ λ i. mms_checks (monitor_of c.count_frame_on.new.m) (record { domain = c.octets_at-domain.ensures i; numbers = c.mms_numbers-n.ensures i }))
