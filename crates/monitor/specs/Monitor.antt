-- The monitor as an array of 1148 words, and as the record of its parts, of which all definitions speak.
use Rattle.std.specs.Prelude.{ℕ, cond, List, ◌++◌, ◌≡◌, eqb, length, take, drop}

-- settings; totals (01, "Alert and result"): MMS, GOOSE and SV frames inspected, the next alert's number, alerts; and, of crate checks, the rule lists,
-- the four tables that age and the reservations
pub record Monitor : Type 0 where
  pub settings : List ℕ
  pub totals : List ℕ
  pub mms_rules : List ℕ
  pub goose_publishers : List ℕ
  pub sv_publishers : List ℕ
  pub rate_buckets : List ℕ
  pub goose_seq : List ℕ
  pub sv_seq : List ℕ
  pub time_trackers : List ℕ
  pub cb_reservations : List ℕ

-- the parts of the words
unfoldable pub monitor_of : List ℕ → Monitor
monitor_of l =
    record {
      settings = take 10 (drop 0 l);
      totals = take 5 (drop 10 l);
      mms_rules = take 49 (drop 15 l);
      goose_publishers = take 177 (drop 64 l);
      sv_publishers = take 193 (drop 241 l);
      rate_buckets = take 66 (drop 434 l);
      goose_seq = take 210 (drop 500 l);
      sv_seq = take 178 (drop 710 l);
      time_trackers = take 50 (drop 888 l);
      cb_reservations = take 210 (drop 938 l);
    }

-- the words of the parts
unfoldable pub words_of : Monitor → List ℕ
words_of m =
    m.settings ++ (m.totals ++ (m.mms_rules ++ (m.goose_publishers ++
    (m.sv_publishers ++ (m.rate_buckets ++ (m.goose_seq ++ (m.sv_seq ++ (m.time_trackers ++ m.cb_reservations))))))))

-- parts of their sizes
pub record Sized (m : Monitor) : Type 0 where
  pub settings : length m.settings ≡ 10
  pub totals : length m.totals ≡ 5
  pub mms_rules : length m.mms_rules ≡ 49
  pub goose_publishers : length m.goose_publishers ≡ 177
  pub sv_publishers : length m.sv_publishers ≡ 193
  pub rate_buckets : length m.rate_buckets ≡ 66
  pub goose_seq : length m.goose_seq ≡ 210
  pub sv_seq : length m.sv_seq ≡ 178
  pub time_trackers : length m.time_trackers ≡ 50
  pub cb_reservations : length m.cb_reservations ≡ 210

-- a monitor with one part replaced; the parts are numbered from 0 in their order
abbrev pub with_part : ℕ → Monitor → List ℕ → Monitor
with_part k m t =
    record {
      settings = cond (eqb k 0) t m.settings;
      totals = cond (eqb k 1) t m.totals;
      mms_rules = cond (eqb k 2) t m.mms_rules;
      goose_publishers = cond (eqb k 3) t m.goose_publishers;
      sv_publishers = cond (eqb k 4) t m.sv_publishers;
      rate_buckets = cond (eqb k 5) t m.rate_buckets;
      goose_seq = cond (eqb k 6) t m.goose_seq;
      sv_seq = cond (eqb k 7) t m.sv_seq;
      time_trackers = cond (eqb k 8) t m.time_trackers;
      cb_reservations = cond (eqb k 9) t m.cb_reservations;
    }

-- each by its name
module _ (m : Monitor) (t : List ℕ) where
  abbrev pub with_settings : Monitor
  with_settings = with_part 0 m t

  abbrev pub with_totals : Monitor
  with_totals = with_part 1 m t

  abbrev pub with_mms_rules : Monitor
  with_mms_rules = with_part 2 m t

  abbrev pub with_goose_publishers : Monitor
  with_goose_publishers = with_part 3 m t

  abbrev pub with_sv_publishers : Monitor
  with_sv_publishers = with_part 4 m t

  abbrev pub with_rate_buckets : Monitor
  with_rate_buckets = with_part 5 m t

  abbrev pub with_goose_seq : Monitor
  with_goose_seq = with_part 6 m t

  abbrev pub with_sv_seq : Monitor
  with_sv_seq = with_part 7 m t

  abbrev pub with_time_trackers : Monitor
  with_time_trackers = with_part 8 m t

  abbrev pub with_cb_reservations : Monitor
  with_cb_reservations = with_part 9 m t
