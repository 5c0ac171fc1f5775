-- An MMS frame as the 88 octets of its struct.
use Rattle.std.specs.Prelude.{ℕ, not, List, eqb}
use Rattle.records.specs.declared.frame.MmsFrame.{MmsFrame}
use Rattle.records.specs.Octets.{octet_at}
use Rattle.records.specs.Service.{service_of}
use Rattle.lent.specs.Octets.{octets_at, number32, number64}

-- the frame whose fields stand each at its place, with the service of its number; the kind is GOOSE at any number but 0
unfoldable pub mms_frame_of : List ℕ → MmsFrame
mms_frame_of octets =
    record {
      service_type = service_of (octet_at octets 0);
      raw_service_type = octet_at octets 1;
      domain = octets_at octets 2 64;
      domain_len = octet_at octets 66;
      invoke_id = number32 octets 68;
      timestamp_us = number64 octets 72;
      client_id = number32 octets 80;
      control_block_is_goose = not (eqb (octet_at octets 84) 0);
    }
