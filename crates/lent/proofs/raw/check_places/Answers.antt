-- `check_places` meets its contract.
use mathlib.Core.Path.{ap, ◌∙◌}
use Rattle.sv_frame.specs.Places.{reading_at}
use Rattle.checks.specs.Keys.{plain_key}
use Rattle.monitor.specs.Monitor.{monitor_of}
use Rattle.lent.proofs.RawLaws.{name_read, checked_reading_lem}
use Rattle.lent.proofs.raw.check_places.Goals as goal

pub returns : goal.returns
returns c source = let a = c.args in
    checked_reading_lem (monitor_of a.m.now) a.address (reading_at source a.asdu.now a.p)
    (c.plain_key.ensures ∙ ap plain_key (name_read c.content-svid.ensures c.name_octets.ensures c.name_len.ensures))
    (name_read c.content-dataset.ensures c.overlay.ensures c.name_len-2.ensures)
    c.count_frame_on.ensures c.sv_checks_on.ensures
