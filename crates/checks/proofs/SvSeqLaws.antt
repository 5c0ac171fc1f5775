-- Laws of SV streams: the check carried out on the words of the table.
use Prim.Native.Nat.{ℕ}
use mathlib.Core.Bool.{Bool, true, false}
use mathlib.Core.List.{List}
use mathlib.Core.Path.{◌≡◌, refl, ap, ◌∙◌}
use borrow.Author.Tests.{eq-eqb}
use Rattle.records.specs.Remembered.{after}
use Rattle.tables.proofs.WordTables.{one_laws, named_laws, value_read, value_stored}
use Rattle.tables.specs.declared.place.Place.{Place}
use Rattle.tables.specs.Column.{word_of, word_set}
use Rattle.tables.specs.Named.{named}
use Rattle.tables.specs.Place.{entered, if_known}
use Rattle.tables.specs.Table.{value_of}
use Rattle.tables.specs.WordTable.{one_number}
use Rattle.checks.specs.declared.sv_seq.SvSeqOutcome.{SvSeqOutcome}
use Rattle.checks.specs.declared.sv_seq.SvSeqOutcome.TheVariants.{Replay}
use Rattle.checks.specs.SvSeq.{sv_streams, count_outcome, sv_outcome, is_replay, count_or, kept_count, sv_checked}

-- an equal count
pub count_same : (c n : ℕ) → n ≡ c → Replay ≡ count_outcome c n
unfolding count_outcome
count_same c n e = rw (eq-eqb n c e)

-- the count that is kept
kept_after : (known : Bool) (last n : ℕ) → count_or (is_replay (sv_outcome (if_known known last) n)) last n ≡ after (λ i. i) kept_count (if_known known last) n
unfolding is_replay
kept_after true last n = refl
kept_after false last n = refl

module _ (t key : List ℕ) (n : ℕ) {words out : List ℕ} {place : Place} {last kept : ℕ} {outcome : SvSeqOutcome} {replay : Bool} where
  pub count_checked : record { table = words; place = place } ≡ entered named t key → last ≡ word_of words 162 place.slot
      → outcome ≡ sv_outcome (if_known place.known last) n → replay ≡ is_replay outcome → kept ≡ count_or replay last n
      → out ≡ word_set words 162 place.slot kept → record { table = out; outcome = outcome } ≡ sv_checked t key n
  unfolding sv_checked
  count_checked e l o r k s =
      let v : if_known place.known last ≡ value_of sv_streams t key = ap (if_known place.known) l ∙ value_read named named_laws one_number one_laws t key e in
      let w = k ∙ ap (λ (b : Bool). count_or b last n) (r ∙ ap is_replay o) ∙ kept_after place.known last n ∙ ap (λ x. after (λ i. i) kept_count x n) v in
      let p = value_stored named named_laws one_number one_laws t key e (λ i. i) kept_count n w s in
      let q = o ∙ ap (λ x. sv_outcome x n) v in
      λ i. record { table = p i; outcome = q i }
