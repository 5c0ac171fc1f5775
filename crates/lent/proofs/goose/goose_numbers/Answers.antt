-- `goose_numbers` meets its contract.
use mathlib.Core.Path.{ap, ◌∙◌}
use mathlib.Core.Bool.{not}
use native.Mathlib.Omega.{arith}
use lib.Dec.{eqb}
use Rattle.records.specs.Hash.{fnv1a}
use Rattle.records.specs.Name.{name_of}
use Rattle.records.specs.Octets.{octet_at}
use Rattle.inspection.specs.Address.{address_of}
use Rattle.lent.specs.Goose.{goose_frame_of}
use Rattle.lent.proofs.OctetLaws.{part_octets}
use Rattle.lent.proofs.goose.goose_numbers.Goals as goal

pub returns : goal.returns
unfolding goose_frame_of
returns c = let o = c.args.o.now in
    let a = c.address_of.ensures ∙ ap address_of c.octets_at.ensures in
    let name = part_octets o 6 64 (omega (arith, c.requires)) in
    let h = c.name_hash.ensures ∙ λ i. fnv1a (name_of (name i) (octet_at o 70)) in
    λ i. record {
      address = a i;
      hash = h i;
      st_num = c.u32_at.ensures i;
      sq_num = c.u32_at-2.ensures i;
      test = not (eqb (octet_at o 80) 0);
      timestamp_us = c.u64_at.ensures i;
      seconds = c.u32_at-3.ensures i;
      fraction = c.u32_at-4.ensures i;
    }
