-- `sv_rule` meets its contract.
use mathlib.Core.Path.{sym, ap, ◌∙◌}
use Rattle.records.proofs.Booleans.{cond_yes, cond_no}
use Rattle.checks.specs.declared.sv_publisher.PublisherMismatch.TheVariants.{WrongAddress}
use Rattle.std.specs.Prelude.{Ok, Err}
use Rattle.monitor.specs.Monitor.{monitor_of}
use Rattle.inspection.proofs.StageLaws.{no_publishers, rule_matched, not_registered}
use Rattle.inspection.proofs.inspect_sv.sv_rule.Goals as goal

pub returns-then-count-eq0 : goal.returns-then-count-eq0
returns-then-count-eq0 c = let a = c.args in
    no_publishers (monitor_of a.m.now) a.address a.svid.now c.sv_publisher_count_on-count.ensures c.if-count-eq0.true

pub returns-then-flag_on : goal.returns-then-flag_on
returns-then-flag_on c = let a = c.args in
    sym (cond_yes _ _ c.if-flag_on.true)
    ∙ not_registered (monitor_of a.m.now) a.address a.svid.now c.sv_publisher_on.ensures (c.in-Err-NotRegistered.is ∙ ap Err c.in-Err-NotRegistered.field-0-is)
    c.sv_publisher_count_on-count.ensures c.if-count-eq0.false c.flag_on.ensures

pub returns-in-Err-WrongAddress : goal.returns-in-Err-WrongAddress
returns-in-Err-WrongAddress c = let a = c.args in
    rule_matched (monitor_of a.m.now) a.address a.svid.now (Err WrongAddress) c.sv_publisher_on.ensures
    (c.in-Err-WrongAddress.is ∙ ap Err c.in-Err-WrongAddress.field-0-is)

pub returns-else-flag_on : goal.returns-else-flag_on
returns-else-flag_on c = let a = c.args in
    sym (cond_no _ _ c.if-flag_on.false)
    ∙ not_registered (monitor_of a.m.now) a.address a.svid.now c.sv_publisher_on.ensures (c.in-Err-NotRegistered.is ∙ ap Err c.in-Err-NotRegistered.field-0-is)
    c.sv_publisher_count_on-count.ensures c.if-count-eq0.false c.flag_on.ensures

pub returns-in-Ok : goal.returns-in-Ok
returns-in-Ok c = let a = c.args in
    ap Ok c.publisher_rate_on.ensures
    ∙ rule_matched (monitor_of a.m.now) a.address a.svid.now (Ok _) c.sv_publisher_on.ensures c.in-Ok.is
