-- The sizes of a monitor's parts: every check, and every add call, leaves its part as long as it was.
use Prim.Native.Nat.{ℕ, ◌+◌, ◌*◌}
use mathlib.Core.Bool.{Bool}
use mathlib.Core.List.{List, [], ◌∷◌}
use mathlib.Core.Path.{◌≡◌, refl, ap, ◌∙◌}
use lib.Dec.{eqb, ltb}
use lib.ListN.{length, get_or, set, length-set}
use Rattle.records.proofs.Booleans.{cond_holds}
use Rattle.records.proofs.NameLaws.{length_overwritten}
use Rattle.std.specs.Prelude.{Option, Some, None, Result, Ok, Err}
use Rattle.records.specs.Remembered.{after}
use Rattle.tables.proofs.OrderLaws.{length_reranked, rank_set_only, used_only}
use Rattle.tables.proofs.WordTables.{length_none, length_zero}
use Rattle.tables.specs.Column.{word_of, word_set, zero_words}
use Rattle.tables.specs.Named.{key_stored, named}
use Rattle.tables.specs.Numbered.{numbered}
use Rattle.tables.specs.Order.{rank_set, used_slot}
use Rattle.tables.specs.Place.{KeyColumns, found}
use Rattle.tables.specs.Table.{target, value_of, stepped}
use Rattle.tables.specs.WordTable.{Encoding, value_set, word_table, one_number, two_numbers, three_numbers}
use Rattle.records.specs.declared.error.VsError.{VsError}
use Rattle.checks.specs.GoosePublisher.{goose_publisher_count, with_goose_publisher, goose_added}
use Rattle.checks.specs.GooseSeq.{kept_numbers, goose_checked}
use Rattle.checks.specs.MmsRule.{mms_rule_count, with_mms_rule, mms_added}
use Rattle.checks.specs.Rate.{new_bucket, next_bucket, rate_checked}
use Rattle.checks.specs.Reservation.{taken_at, place_for, reserved_at, reserved, owned_slot, freed_slot, all_freed, released}
use Rattle.checks.specs.Reservation.{CbChecked, bound_at, bound_by, cb_checked}
use Rattle.checks.specs.Rules.{add_answer, if_added}
use Rattle.checks.specs.SvPublisher.{sv_publisher_count, with_sv_publisher, sv_added}
use Rattle.checks.specs.SvSeq.{kept_count, sv_checked}
use Rattle.checks.specs.TimeField.{has_clock, TimeChecked, time_checked}
use Rattle.monitor.specs.Monitor.{Monitor, Sized}
use Rattle.monitor.specs.Reset.{new_totals, fresh_with}

-- as long as the first
abbrev AsLong : List ℕ → List ℕ → Type 0
AsLong t u = length u ≡ length t

-- ---- a word, a key, a use and a value of a slot

module _ (t : List ℕ) where
  word_long : (column slot v : ℕ) → AsLong t (word_set t column slot v)
  unfolding word_set
  word_long column slot v = cond_holds (AsLong t) (ltb slot 16) (length-set t (column + slot) v) refl

  key_long : (start slot : ℕ) (key : List ℕ) → AsLong t (key_stored start t slot key)
  unfolding key_stored
  key_long start slot key =
      cond_holds (AsLong t) (ltb slot 16)
      (length_overwritten (set (set t (start + slot) (get_or key 0 0)) (start + 16 + slot) (get_or key 1 0)) _ (start + 32 + slot * 8) 8 ∙ simp length-set refl)
      refl

  used_long : (slot : ℕ) → AsLong t (used_slot t slot)
  used_long slot = (used_only t slot).size

  rank_long : (slot r : ℕ) → AsLong t (rank_set t slot r)
  rank_long slot r = (rank_set_only t slot r).size

values_long : (vs t : List ℕ) (column slot : ℕ) → AsLong t (value_set t column slot vs)
values_long [] t column slot = refl
values_long (v ∷ vs) t column slot = values_long vs (word_set t column slot v) (column + 16) slot ∙ word_long t column slot v

-- ---- a frame of a table

module _ {K W I : Type 0} (keys : KeyColumns K) (encoding : Encoding W) (stored-long : (t : List ℕ) (slot : ℕ) (k : K) → AsLong t (keys.stored t slot k))
    (fresh : I → W) (step : W → I → W) where
  stepped_long : (t : List ℕ) (k : K) (i : I) → AsLong t (stepped (word_table keys encoding) fresh step t k i)
  stepped_long t k i =
      let slot = target (word_table keys encoding) t k in
      values_long (encoding.words (after fresh step (value_of (word_table keys encoding) t k) i)) (used_slot (keys.stored t slot k) slot) keys.values slot
      ∙ used_long (keys.stored t slot k) slot ∙ stored-long t slot k

-- ---- the checks

module _ (t : List ℕ) where
  pub sv_long : (svid : List ℕ) (n : ℕ) → AsLong t (sv_checked t svid n).table
  unfolding sv_checked
  sv_long svid n = stepped_long named one_number (λ u. key_long u 2) (λ i. i) kept_count t svid n

  pub goose_long : (key : List ℕ) (new : (ℕ × ℕ) × ℕ) → AsLong t (goose_checked t key new).table
  unfolding goose_checked
  goose_long key new = stepped_long named three_numbers (λ u. key_long u 2) (λ i. i) kept_numbers t key new

  pub time_long : (limit address : ℕ) (pair : ℕ × ℕ) → AsLong t (time_checked t limit address pair).table
  unfolding time_checked
  time_long limit address pair =
      cond_holds (λ (c : TimeChecked). AsLong t c.table) (has_clock pair)
      (stepped_long numbered two_numbers (λ u slot k. word_long u 2 slot k) (λ i. i) (λ kept i. i) t address pair) refl

  pub rate_long : (key rate time : ℕ) → AsLong t (rate_checked t key rate time).table
  unfolding rate_checked
  rate_long key rate time = stepped_long numbered three_numbers (λ u slot k. word_long u 2 slot k) new_bucket next_bucket t key (rate, time)

  bound_long : (address : ℕ) (f : Option ℕ) → AsLong t (bound_by t address f).table
  unfolding bound_at
  bound_long address None = refl
  bound_long address (Some i) = cond_holds (λ (c : CbChecked). AsLong t c.table) (eqb (word_of t 178 i) 0) (simp word_long refl) refl

  pub cb_long : (key : List ℕ) (address : ℕ) → AsLong t (cb_checked t key address).table
  unfolding cb_checked
  cb_long key address = cond_holds (λ (c : CbChecked). AsLong t c.table) (eqb (get_or key 1 0) 0) refl (bound_long address (found named t key))

  taken_long : (key : List ℕ) (client : ℕ) (f : Option ℕ) → AsLong t (reserved_at t key client f).table
  unfolding taken_at
  taken_long key client None = refl
  taken_long key client (Some i) = simp (word_long, rank_long, key_long) refl

  pub reserved_long : (key : List ℕ) (client : ℕ) → AsLong t (reserved t key client).table
  unfolding reserved
  reserved_long key client = taken_long key client (place_for t key)

  freed_long : (f : Option ℕ) → AsLong t (freed_slot t f)
  freed_long None = refl
  freed_long (Some i) = rank_long t i 16

  pub released_long : (key : List ℕ) (client : ℕ) → AsLong t (released t key client)
  unfolding released all_freed
  released_long key client = cond_holds (AsLong t) (eqb (get_or key 1 0) 0) (length_reranked t _) (freed_long (owned_slot t key client))

-- ---- the add calls

module _ (t : List ℕ) where
  added_long : (answer : Result (Unit {0}) VsError) (new : List ℕ) → AsLong t new → AsLong t (if_added answer new t)
  added_long (Ok u) new e = e
  added_long (Err r) new e = refl

  pub mms_added_long : (mask : ℕ) (read_only : Bool) (rate : ℕ) → AsLong t (mms_added t mask read_only rate).rules
  unfolding mms_added with_mms_rule
  mms_added_long mask read_only rate = added_long (add_answer (mms_rule_count t) 0) _ (simp (length-set, word_long) refl)

  pub goose_added_long : (address : ℕ) (name : List ℕ) → AsLong t (goose_added t address name).rules
  unfolding goose_added with_goose_publisher
  goose_added_long address name = added_long (add_answer (goose_publisher_count t) (length name)) _ (simp (length-set, key_long, word_long) refl)

  pub sv_added_long : (address : ℕ) (svid : List ℕ) (rate : ℕ) → AsLong t (sv_added t address svid rate).rules
  unfolding sv_added with_sv_publisher
  sv_added_long address svid rate = added_long (add_answer (sv_publisher_count t) (length svid)) _ (simp (length-set, key_long, word_long) refl)

-- ---- a monitor

abbrev pub sizes : Monitor → List ℕ
sizes m =
    length m.settings ∷ length m.totals ∷ length m.mms_rules ∷ length m.goose_publishers ∷ length m.sv_publishers
    ∷ length m.rate_buckets ∷ length m.goose_seq ∷ length m.sv_seq ∷ length m.time_trackers ∷ length m.cb_reservations ∷ []

pub sized_kept : {m m' : Monitor} → sizes m' ≡ sizes m → Sized m → Sized m'
sized_kept {m} {m'} e z =
    record {
      settings = same 0 ∙ z.settings;
      totals = same 1 ∙ z.totals;
      mms_rules = same 2 ∙ z.mms_rules;
      goose_publishers = same 3 ∙ z.goose_publishers;
      sv_publishers = same 4 ∙ z.sv_publishers;
      rate_buckets = same 5 ∙ z.rate_buckets;
      goose_seq = same 6 ∙ z.goose_seq;
      sv_seq = same 7 ∙ z.sv_seq;
      time_trackers = same 8 ∙ z.time_trackers;
      cb_reservations = same 9 ∙ z.cb_reservations;
    }
  where
    same : (k : ℕ) → get_or (sizes m') k 0 ≡ get_or (sizes m) k 0
    same k = ap (λ (l : List ℕ). get_or l k 0) e

-- all but the settings as new
pub fresh_sized : (settings : List ℕ) → length settings ≡ 10 → Sized (fresh_with settings)
unfolding new_totals
fresh_sized settings z =
    record {
      settings = z;
      totals = length-set (zero_words 5) 3 1 ∙ length_zero 5;
      mms_rules = length_zero 49;
      goose_publishers = length_zero 177;
      sv_publishers = length_zero 193;
      rate_buckets = length_none 66;
      goose_seq = length_none 210;
      sv_seq = length_none 178;
      time_trackers = length_none 50;
      cb_reservations = length_none 210;
    }
