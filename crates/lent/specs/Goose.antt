-- A GOOSE frame as the 104 octets of its struct.
use Rattle.std.specs.Prelude.{ℕ, not, List, eqb}
use Rattle.records.specs.declared.frame.GooseFrame.{GooseFrame}
use Rattle.records.specs.Octets.{octet_at}
use Rattle.lent.specs.Octets.{octets_at, number32, number64}

-- the frame whose fields stand each at its place; the test flag is any number but 0
unfoldable pub goose_frame_of : List ℕ → GooseFrame
goose_frame_of octets =
    record {
      src_mac = octets_at octets 0 6;
      go_cb_ref = octets_at octets 6 64;
      go_cb_ref_len = octet_at octets 70;
      st_num = number32 octets 72;
      sq_num = number32 octets 76;
      test = not (eqb (octet_at octets 80) 0);
      timestamp_us = number64 octets 88;
      t_seconds_since_epoch = number32 octets 96;
      t_fraction_of_second = number32 octets 100;
    }
