-- `mms_control` meets its contract.
use mathlib.Core.Path.{refl}
use Rattle.std.proofs.Common.{arith, inl, inr}
use borrow.Author.Tests.{ne_eqb}
use Rattle.records.proofs.NumberLaws.{is_service, other_service}
use Rattle.records.specs.declared.service.MmsServiceType.TheVariants.{SelectControl, CancelControl, Conclude}
use Rattle.monitor.specs.Monitor.{monitor_of}
use Rattle.inspection.proofs.StageLaws.{control_selects, control_releases, no_control}
use Rattle.inspection.specs.InspectMms.{MmsRead}
use Rattle.inspection.proofs.inspect_mms.mms_control.Goals as goal

pub returns-in-SelectControl : goal.returns-in-SelectControl
returns-in-SelectControl c = let a = c.args in
    let f : MmsRead = record { domain = a.domain.now; numbers = a.n } in
    control_selects f (monitor_of a.m.now) c.control_key-key.ensures (is_service _ c.from_u8.ensures c.in-SelectControl.is (omega arith))
    c.reserve_cb_on.ensures c.full_alert.ensures

pub returns-in-CancelControl : goal.returns-in-CancelControl
returns-in-CancelControl c = let a = c.args in
    let f : MmsRead = record { domain = a.domain.now; numbers = a.n } in
    let key = c.control_key-key-in-CancelControl.ensures in
    elim (c.in-CancelControl.is) [
      | inl h ↦ let n = is_service _ c.from_u8.ensures h (omega arith) in
          control_releases f (monitor_of a.m.now) key (λ e. omega (arith, n, e)) (rw n refl) c.release_cb_on.ensures refl
      | inr h ↦ let n = is_service _ c.from_u8.ensures h (omega arith) in
          control_releases f (monitor_of a.m.now) key (λ e. omega (arith, n, e)) (rw n refl) c.release_cb_on.ensures refl
    ]

pub returns-in_default : goal.returns-in_default
returns-in_default c = let a = c.args in
    let f : MmsRead = record { domain = a.domain.now; numbers = a.n } in
    let other = c.in_default in
    no_control f (monitor_of a.m.now) (other_service _ SelectControl c.from_u8.ensures other.not-SelectControl)
    (rw (
      ne_eqb _ _ (other_service _ CancelControl c.from_u8.ensures other.not-CancelControl),
      ne_eqb _ _ (other_service _ Conclude c.from_u8.ensures other.not-Conclude),
    ) refl)
    refl
