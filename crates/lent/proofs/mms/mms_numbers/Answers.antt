-- `mms_numbers` meets its contract.
use mathlib.Core.Path.{ap, ◌∙◌}
use mathlib.Core.Bool.{not}
use lib.Dec.{eqb}
use Rattle.records.specs.Octets.{octet_at}
use Rattle.records.specs.Service.{service_number, is_write}
use Rattle.lent.specs.Mms.{mms_frame_of}
use Rattle.lent.proofs.mms.mms_numbers.Goals as goal

pub returns : goal.returns
unfolding mms_frame_of
returns c = let o = c.args.o.now in
    let s = c.from_u8-service.ensures in
    let n = c.number.ensures ∙ ap service_number s in
    let w = c.is_write.ensures ∙ ap is_write s in
    λ i. record {
      service = n i;
      write = w i;
      raw_service_type = octet_at o 1;
      domain_len = octet_at o 66;
      invoke_id = c.u32_at.ensures i;
      timestamp_us = c.u64_at.ensures i;
      client_id = c.u32_at-2.ensures i;
      control_block_is_goose = not (eqb (octet_at o 84) 0);
    }
