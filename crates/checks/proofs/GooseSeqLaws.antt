-- Laws of GOOSE streams: the check and the look-up carried out on the words of the table.
use Prim.Native.Nat.{ℕ}
use mathlib.Core.Bool.{Bool, true, false, cond}
use mathlib.Core.List.{List}
use mathlib.Core.Path.{◌≡◌, refl, ap, ◌∙◌}
use Rattle.std.specs.Prelude.{Option, Some, None}
use Rattle.records.proofs.Booleans.{answered}
use Rattle.records.specs.declared.schedule.RetxSchedule.{RetxSchedule}
use Rattle.records.specs.Remembered.{after}
use Rattle.tables.proofs.WordTables.{three_laws, named_laws, value_read, value_stored}
use Rattle.tables.specs.declared.place.Place.{Place}
use Rattle.tables.specs.Column.{word_set}
use Rattle.tables.specs.Named.{named}
use Rattle.tables.specs.Place.{found, entered, if_known}
use Rattle.tables.specs.Table.{value_at, value_of}
use Rattle.tables.specs.WordTable.{three_numbers}
use Rattle.checks.specs.GooseSeq.{goose_streams, numbers_at, goose_replay, kept_numbers, goose_checked, outside_tolerance, retransmission, retx_checked}

-- the numbers that are kept
kept_after : (known : Bool) (last new : (ℕ × ℕ) × ℕ)
    → cond (goose_replay (if_known known last) new.0) last new ≡ after (λ i. i) kept_numbers (if_known known last) new
kept_after true last new = refl
kept_after false last new = refl

module _ (t key : List ℕ) (new : (ℕ × ℕ) × ℕ) {words first second out : List ℕ} {place : Place} {last kept : (ℕ × ℕ) × ℕ} {replay : Bool} where
  pub numbers_checked : record { table = words; place = place } ≡ entered named t key → last ≡ numbers_at words place.slot
      → replay ≡ goose_replay (if_known place.known last) new.0 → kept ≡ cond replay last new
      → first ≡ word_set words 162 place.slot kept.0.0 → second ≡ word_set first 178 place.slot kept.0.1 → out ≡ word_set second 194 place.slot kept.1
      → record { table = out; replay = replay } ≡ goose_checked t key new
  unfolding goose_checked
  numbers_checked e l r k x y z =
      let v : if_known place.known last ≡ value_of goose_streams t key =
      ap (if_known place.known) l ∙ value_read named named_laws three_numbers three_laws t key e in
      let w = k ∙ ap (λ (g : Bool). cond g last new) r ∙ kept_after place.known last new ∙ ap (λ x. after (λ i. i) kept_numbers x new) v in
      let o = z ∙ ap (λ (l : List ℕ). word_set l 194 place.slot kept.1) (y ∙ ap (λ (l : List ℕ). word_set l 178 place.slot kept.0.1) x) in
      let p = value_stored named named_laws three_numbers three_laws t key e (λ i. i) kept_numbers new w o in
      let g = r ∙ ap (λ x. goose_replay x new.0) v in
      λ i. record { table = p i; replay = g i }

-- the look-up
module _ (schedule : RetxSchedule) (t key : List ℕ) (new : (ℕ × ℕ) × ℕ) {f : Option ℕ} (s : f ≡ found named t key) where
  pub retx_new : f ≡ None → false ≡ retx_checked schedule t key new
  unfolding retx_checked found
  retx_new e = ap (λ x. retransmission schedule (value_at goose_streams t x) new) (answered e s)

  pub retx_known : {slot : ℕ} {last : (ℕ × ℕ) × ℕ} {r : Bool} → f ≡ Some slot → last ≡ numbers_at t slot
      → r ≡ outside_tolerance schedule last new → r ≡ retx_checked schedule t key new
  unfolding retx_checked found
  retx_known e l r =
      r ∙ ap (λ x. outside_tolerance schedule x new) l
      ∙ ap (λ x. retransmission schedule (value_at goose_streams t x) new) (answered e s)
