-- The frames of the engine that the frames of numbers stand for; an SV frame is one of numbers itself.
use Rattle.records.specs.declared.frame.MmsFrame.{MmsFrame}
use Rattle.records.specs.declared.frame.GooseFrame.{GooseFrame}
use Rattle.records.specs.Service.{service_of}
use Rattle.host.specs.declared.frame.HostMmsFrame.{HostMmsFrame}
use Rattle.host.specs.declared.frame.HostGooseFrame.{HostGooseFrame}
use Rattle.host.specs.Flag.{flag_of}

-- the service is that of its number; the raw number stands beside it
abbrev pub mms_frame_of : HostMmsFrame → MmsFrame
mms_frame_of f =
    record {
      service_type = service_of f.service_type;
      raw_service_type = f.raw_service_type;
      domain = f.domain;
      domain_len = f.domain_len;
      invoke_id = f.invoke_id;
      timestamp_us = f.timestamp_us;
      client_id = f.client_id;
      control_block_is_goose = flag_of f.control_block_is_goose;
    }

-- the test flag is a number
abbrev pub goose_frame_of : HostGooseFrame → GooseFrame
goose_frame_of f =
    record {
      src_mac = f.src_mac;
      go_cb_ref = f.go_cb_ref;
      go_cb_ref_len = f.go_cb_ref_len;
      st_num = f.st_num;
      sq_num = f.sq_num;
      test = flag_of f.test;
      timestamp_us = f.timestamp_us;
      t_seconds_since_epoch = f.t_seconds_since_epoch;
      t_fraction_of_second = f.t_fraction_of_second;
    }
