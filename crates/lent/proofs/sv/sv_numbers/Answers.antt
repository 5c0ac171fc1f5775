-- `sv_numbers` meets its contract.
use mathlib.Core.Path.{ap, ◌∙◌}
use Rattle.inspection.specs.Address.{address_of}
use Rattle.lent.specs.Sv.{sv_frame_of}
use Rattle.lent.proofs.sv.sv_numbers.Goals as goal

pub returns : goal.returns
unfolding sv_frame_of
returns c = let a = c.address_of.ensures ∙ ap address_of c.octets_at.ensures in
    λ i. record {
      address = a i;
      seconds = c.u32_at.ensures i;
      fraction = c.u32_at-2.ensures i;
      smp_cnt = c.u16_at.ensures i;
      smp_rate = c.u16_at-2.ensures i;
    }
