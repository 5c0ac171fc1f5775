-- `field_fits` meets its contract.
use borrow.Author.Tests.{ne_eqb}
use native.Mathlib.Omega.{arith}
use Rattle.sv_frame.specs.Field.{svid_tag, dat_set_tag, smp_cnt_tag, smp_rate_tag, field_fits}
use Rattle.sv_frame.proofs.field.field_fits.Goals as goal

pub returns-in-128 : goal.returns-in-128
unfolding field_fits
returns-in-128 c = rw c.in-128.is

pub returns-in-129 : goal.returns-in-129
unfolding field_fits
returns-in-129 c = rw c.in-129.is

pub returns-in-130 : goal.returns-in-130
unfolding field_fits
returns-in-130 c = rw c.in-130.is

pub returns-in-134 : goal.returns-in-134
unfolding field_fits
returns-in-134 c = rw (c.is_some.ensures, c.decode_unsigned_int.ensures, c.in-134.is)

pub returns-in_default : goal.returns-in_default
unfolding field_fits
returns-in_default c =
    rw (
      ne_eqb c.args.tag svid_tag (λ e. omega arith),
      ne_eqb c.args.tag dat_set_tag (λ e. omega arith),
      ne_eqb c.args.tag smp_cnt_tag (λ e. omega arith),
      ne_eqb c.args.tag smp_rate_tag (λ e. omega arith),
    )
