-- `sv_publisher` meets its contract.
use mathlib.Core.Path.{◌∙◌}
use borrow.Author.Tests.{eq-eqb, ne_eqb}
use Rattle.checks.proofs.RuleLaws.{compared_none, compared_fits, compared_wrong, compared_other, compared_all}
use Rattle.checks.specs.SvPublisher.{sv_publisher}
use native.Mathlib.Omega.{arith}
use Rattle.checks.proofs.sv_publisher.sv_publisher.Goals as goal
use Rattle.checks.proofs.sv_publisher.sv_publisher.Goals.{then-has_key+then-t-i, then-has_key+else-t-i, else-has_key}

pub loop-i-init : goal.loop-i-init
loop-i-init c = (c.rule_count-n.ensures, compared_none _ _)

pub loop-i-preserved : goal.loop-i-preserved
loop-i-preserved c = let l = c.loop-i in
    let same = c.has_key.ensures in (
      l.invariant.0,
      elim c.if-has_key.branch [
        | then-has_key+then-t-i w ↦ compared_fits _ _ l.invariant.1 same w.if-has_key.true (eq-eqb _ _ w.if-t-i.true) w.is_registered-is w.place-is
        | then-has_key+else-t-i w ↦ compared_wrong _ _ l.invariant.1 same w.if-has_key.true (ne_eqb _ _ w.if-t-i.false) w.is_registered-is w.place-is
        | else-has_key w ↦ compared_other _ _ l.invariant.1 same w.if-has_key.false w.is_registered-is w.place-is
      ],
    )

pub returns : goal.returns
unfolding sv_publisher
returns c = let l = c.loop-i in
    c.match_at.ensures ∙ (rw (← l.invariant.0) (compared_all _ _ l.invariant.1 (omega arith)))
