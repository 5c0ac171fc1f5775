-- A new monitor, and reset (01, "Rules").
use Rattle.std.specs.Prelude.{ℕ, Bool, List, set}
use Rattle.tables.specs.Column.{zero_words}
use Rattle.tables.specs.Order.{no_entries}
use Rattle.monitor.specs.Monitor.{Monitor}
use Rattle.monitor.specs.Settings.{new_settings}

-- nothing inspected, of MMS, GOOSE and SV; the first alert gets number 1; no alerts
unfoldable pub new_totals : List ℕ
new_totals = set (zero_words 5) 3 1

-- settings, and all else as new
abbrev pub fresh_with : List ℕ → Monitor
fresh_with settings =
    record {
      settings = settings;
      totals = new_totals;
      mms_rules = zero_words 49;
      goose_publishers = zero_words 177;
      sv_publishers = zero_words 193;
      rate_buckets = no_entries 66;
      goose_seq = no_entries 210;
      sv_seq = no_entries 178;
      time_trackers = no_entries 50;
      cb_reservations = no_entries 210;
    }

-- a new monitor, strict or not
abbrev pub new_monitor : Bool → Monitor
new_monitor strict = fresh_with (new_settings strict)

-- reset keeps strict mode, test blocking, MMS mask, read-only, schedule and its enforcement, jump limit and gap limit; all else is as new
unfoldable pub reset_monitor : Monitor → Monitor
reset_monitor m = fresh_with m.settings
