-- `note_alert` meets its contract.
use mathlib.Core.Path.{ap, ◌∙◌}
use Rattle.inspection.specs.Report.{alert_noted}
use Rattle.inspection.proofs.AlertLaws.{alert_put, alert_left}
use Rattle.inspection.proofs.report.Noted.note_alert.Goals as goal

pub returns-then-count-ge3 : goal.returns-then-count-ge3
returns-then-count-ge3 c = alert_left _ _ c.if-count-ge3.true

pub returns : goal.returns
returns c = let a = c.args in
    alert_put a.self.now c.finding-found.result c.if-count-ge3.false c.allowed_octet.ensures
    c.code.ensures c.number.ensures
    c.wrapping_increment-self.ensures c.saturating_increment-self.ensures
    ∙ ap (alert_noted a.self.now) c.finding-found.ensures
