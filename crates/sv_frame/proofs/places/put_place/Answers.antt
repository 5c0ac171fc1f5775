-- `put_place` meets its contract.
use native.Mathlib.Omega.{arith}
use borrow.Author.Tests.{ne_eqb}
use Rattle.sv_frame.specs.Field.{svid_tag, dat_set_tag, smp_cnt_tag, refr_tm_tag, smp_rate_tag}
use Rattle.sv_frame.specs.Places.{with_place}
use Rattle.sv_frame.proofs.places.put_place.Goals as goal

pub returns-in-128 : goal.returns-in-128
unfolding with_place
returns-in-128 c = rw c.in-128.is

pub returns-in-129 : goal.returns-in-129
unfolding with_place
returns-in-129 c = rw c.in-129.is

pub returns-in-130 : goal.returns-in-130
unfolding with_place
returns-in-130 c = rw (c.pair_at-out.ensures, c.in-130.is)

pub returns-in-132 : goal.returns-in-132
unfolding with_place
returns-in-132 c = rw (c.fraction_or-out.ensures, c.seconds_or-out.ensures, c.in-132.is)

pub returns-in-134 : goal.returns-in-134
unfolding with_place
returns-in-134 c = rw (c.unwrap_or-out.ensures, c.decode_unsigned_int.ensures, c.in-134.is)

pub returns-in_default : goal.returns-in_default
unfolding with_place
returns-in_default c =
    rw (
      ne_eqb c.args.tag svid_tag (λ e. omega arith),
      ne_eqb c.args.tag dat_set_tag (λ e. omega arith),
      ne_eqb c.args.tag smp_cnt_tag (λ e. omega arith),
      ne_eqb c.args.tag refr_tm_tag (λ e. omega arith),
      ne_eqb c.args.tag smp_rate_tag (λ e. omega arith),
    )
