-- Values within their types. Numbers have no bound here: legal means that a frame fits the types of its fields, and nothing more.
use Rattle.std.specs.Prelude.{◌≡◌, ℕ, ◌^◌, ◌<◌, List, length}
use Rattle.records.specs.declared.frame.GooseFrame.{GooseFrame}
use Rattle.records.specs.declared.frame.SvFrame.{SvFrame}
use Rattle.records.specs.Octets.{octet_at}

-- every octet is below 256; past the end octet_at is 0
abbrev pub Octets : List ℕ → Type 0
Octets l = (k : ℕ) → octet_at l k < 256

-- an array of n octets
pub record OctetArray (n : ℕ) (l : List ℕ) : Type 0 where
  pub size : length l ≡ n
  pub octets : Octets l

-- a sampled-values frame within its types
pub record LegalSv (f : SvFrame) : Type 0 where
  pub source : OctetArray 6 f.src_mac
  pub svid_length : f.svid_len < 256
  pub svid_octets : OctetArray 64 f.svid
  pub count : f.smp_cnt < 2 ^ 16
  pub rate : f.smp_rate < 2 ^ 16
  pub dataset_length : f.dataset_ref_len < 256
  pub dataset_octets : OctetArray 64 f.dataset_ref
  pub time : f.timestamp_us < 2 ^ 64
  pub seconds : f.t_seconds_since_epoch < 2 ^ 32
  pub fraction : f.t_fraction_of_second < 2 ^ 32

-- a GOOSE frame within its types; the test flag needs nothing
pub record LegalGoose (f : GooseFrame) : Type 0 where
  pub source : OctetArray 6 f.src_mac
  pub control_block_octets : OctetArray 64 f.go_cb_ref
  pub control_block_length : f.go_cb_ref_len < 256
  pub state_number : f.st_num < 2 ^ 32
  pub sequence_number : f.sq_num < 2 ^ 32
  pub time : f.timestamp_us < 2 ^ 64
  pub seconds : f.t_seconds_since_epoch < 2 ^ 32
  pub fraction : f.t_fraction_of_second < 2 ^ 32
