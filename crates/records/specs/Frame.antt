-- Decoded frames (01, "MMS and GOOSE frames": fields as in the source, and their defaults).
use Rattle.std.specs.Prelude.{true, false, replicate}
use Rattle.records.specs.declared.service.MmsServiceType.TheVariants.{Read}
use Rattle.records.specs.declared.frame.MmsFrame.{MmsFrame}
use Rattle.records.specs.declared.frame.GooseFrame.{GooseFrame}
use Rattle.records.specs.declared.frame.SvFrame.{SvFrame}

-- an MMS frame of no request: a read
abbrev pub default_mms : MmsFrame
default_mms =
    record {
      service_type = Read;
      raw_service_type = 1;
      domain = replicate 64 0;
      domain_len = 0;
      invoke_id = 0;
      timestamp_us = 0;
      client_id = 0;
      control_block_is_goose = true;
    }

-- a GOOSE frame of zeros
abbrev pub default_goose : GooseFrame
default_goose =
    record {
      src_mac = replicate 6 0;
      go_cb_ref = replicate 64 0;
      go_cb_ref_len = 0;
      st_num = 0;
      sq_num = 0;
      test = false;
      timestamp_us = 0;
      t_seconds_since_epoch = 0;
      t_fraction_of_second = 0;
    }

-- an SV frame of zeros
abbrev pub default_sv : SvFrame
default_sv =
    record {
      src_mac = replicate 6 0;
      svid_len = 0;
      svid = replicate 64 0;
      smp_cnt = 0;
      smp_rate = 0;
      dataset_ref_len = 0;
      dataset_ref = replicate 64 0;
      timestamp_us = 0;
      t_seconds_since_epoch = 0;
      t_fraction_of_second = 0;
    }
