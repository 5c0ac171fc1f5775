-- `mms_rule` meets its contract.
use Prim.Native.Nat.{ℕ}
use mathlib.Core.Path.{sym, ap, ◌∙◌}
use Rattle.records.proofs.Booleans.{answered, cond_yes, cond_no, and_yes, and_no}
use Rattle.std.specs.Prelude.{Option}
use Rattle.monitor.specs.Settings.{strict_mode}
use Rattle.monitor.specs.Monitor.{monitor_of}
use Rattle.inspection.specs.InspectMms.{mms_applying, masked, mms_rule}
use Rattle.inspection.proofs.inspect_mms.mms_rule.Goals as goal
use Rattle.inspection.proofs.inspect_mms.mms_rule.Goals.{else-flag_on-via-then-flag_on+else-write, else-flag_on-via-else-flag_on}

pub returns-then-masked : goal.returns-then-masked
unfolding mms_rule
returns-then-masked c = let a = c.args in
    sym (cond_yes _ _ (answered (c.masked.ensures ∙ ap (λ (x : ℕ). masked x a.raw) c.setting_on.ensures) c.if-masked.true))

pub returns-then-write : goal.returns-then-write
unfolding mms_rule
returns-then-write c = let a = c.args in
    sym
    (cond_no _ _ (answered (c.masked.ensures ∙ ap (λ (x : ℕ). masked x a.raw) c.setting_on.ensures) c.if-masked.false)
    ∙ cond_yes _ _ (and_yes (answered c.flag_on.ensures c.if-flag_on.true) c.if-write.true))

pub returns : goal.returns
unfolding mms_rule
returns c = let a = c.args in
    let m = monitor_of a.m.now in
    let q = c.flag_on.ensures in
    c.mms_applying.ensures
    ∙ ap (λ (x : Option ℕ). mms_applying (strict_mode m) m.mms_rules a.write x) c.first_rule_on-found.ensures
    ∙ sym
    (cond_no _ _ (answered (c.masked.ensures ∙ ap (λ (x : ℕ). masked x a.raw) c.setting_on.ensures) c.if-masked.false)
    ∙ cond_no _ _ (elim c.else-flag_on.branch [
      | else-flag_on-via-then-flag_on+else-write w ↦ and_yes (answered q w.if-flag_on.true) w.if-write.false
      | else-flag_on-via-else-flag_on w ↦ and_no _ (answered q w.if-flag_on.false)
    ]))
