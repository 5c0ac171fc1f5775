-- An SV frame as the 160 octets of its struct.
use Rattle.std.specs.Prelude.{ℕ, List}
use Rattle.records.specs.declared.frame.SvFrame.{SvFrame}
use Rattle.records.specs.Octets.{octet_at}
use Rattle.lent.specs.Octets.{octets_at, number16, number32, number64}

-- the frame whose fields stand each at its place
unfoldable pub sv_frame_of : List ℕ → SvFrame
sv_frame_of octets =
    record {
      src_mac = octets_at octets 0 6;
      svid_len = octet_at octets 6;
      svid = octets_at octets 7 64;
      smp_cnt = number16 octets 72;
      smp_rate = number16 octets 74;
      dataset_ref_len = octet_at octets 76;
      dataset_ref = octets_at octets 77 64;
      timestamp_us = number64 octets 144;
      t_seconds_since_epoch = number32 octets 152;
      t_fraction_of_second = number32 octets 156;
    }
