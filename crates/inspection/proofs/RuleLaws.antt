-- Laws of the add calls: what a refused one leaves, and how many rules one leaves.
use Prim.Native.Nat.{ℕ, ◌+◌, ◌≤◌, ◌<◌}
use mathlib.Core.Bool.{Bool}
use mathlib.Core.List.{List}
use mathlib.Core.Logic.{by_cases}
use mathlib.Core.Path.{◌≡◌, ap}
use native.Mathlib.Decide.{dec_lt}
use native.Mathlib.Omega.{arith}
use lib.ListN.{length, get_or, set, length-set, get_or-eq_default}
use lib.Seq.{get_or-set_same}
use Rattle.records.specs.declared.error.VsError.{VsError}
use Rattle.tables.specs.Column.{word_set}
use Rattle.tables.specs.Named.{key_stored}
use Rattle.std.specs.Prelude.{Result, Ok, Err}
use Rattle.checks.proofs.RuleLaws.{list_full}
use Rattle.checks.specs.GoosePublisher.{goose_publisher_count, with_goose_publisher, goose_added}
use Rattle.checks.specs.Keys.{flag_word, plain_key}
use Rattle.checks.specs.MmsRule.{mms_rule_count, with_mms_rule, mms_added}
use Rattle.checks.specs.Rules.{rule_count, add_answer, if_added}
use Rattle.checks.specs.SvPublisher.{sv_publisher_count, with_sv_publisher, sv_added}

-- a refused call leaves the list that was
pub not_added : {A : Type 0} (put : List ℕ → A) (new old : List ℕ) (answer : Result (Unit {0}) VsError) (e : VsError) → answer ≡ Err e
    → put (if_added answer new old) ≡ put old
not_added put new old answer e h = ap (λ (a : Result (Unit {0}) VsError). put (if_added a new old)) h

-- a count that is set, also behind the end of a list, where there is none
count_set : (l : List ℕ) (place n : ℕ) → n ≤ 16 → get_or (set l place n) place 0 ≤ 16
count_set l place n h =
    by_cases (dec_lt place (length l))
    (λ k. rw (get_or-set_same l place n 0 k) h)
    (λ k. rw (get_or-eq_default (set l place n) 0 {n = place} (simp length-set (omega arith))) (omega arith))

-- a list is given one more rule, behind the others, only where it is not full
module _ (rules longer : List ℕ) (place len : ℕ) where
  abbrev added : Result (Unit {0}) VsError → List ℕ
  added answer = if_added answer (set longer place (rule_count (get_or rules place 0) + 1)) rules

  counts_added : get_or rules place 0 ≤ 16 → get_or (added (add_answer (get_or rules place 0) len)) place 0 ≤ 16
  counts_added h = go (dec_lt (get_or rules place 0) 16)
    where
      left : (answer : Result (Unit {0}) VsError) → get_or rules place 0 < 16 → get_or (added answer) place 0 ≤ 16
      left (Ok u) k = count_set longer place _ (omega arith)
      left (Err e) k = h

      go : Dec (get_or rules place 0 < 16) → get_or (added (add_answer (get_or rules place 0) len)) place 0 ≤ 16
      go (yes k) = left (add_answer (get_or rules place 0) len) k
      go (no k) = rw (list_full (get_or rules place 0) len (omega arith)) h

module _ (rules : List ℕ) where
  pub mms_count : (mask : ℕ) (on : Bool) (rate : ℕ) → mms_rule_count rules ≤ 16 → get_or (mms_added rules mask on rate).rules 48 0 ≤ 16
  unfolding mms_added with_mms_rule
  mms_count mask on rate =
      let i = rule_count (mms_rule_count rules) in
      counts_added rules (word_set (word_set (word_set rules 0 i mask) 16 i (flag_word on)) 32 i rate) 48 0

  pub goose_count : (address : ℕ) (name : List ℕ) → goose_publisher_count rules ≤ 16 → get_or (goose_added rules address name).rules 176 0 ≤ 16
  unfolding goose_added with_goose_publisher
  goose_count address name =
      let i = rule_count (goose_publisher_count rules) in
      counts_added rules (key_stored 16 (word_set rules 0 i address) i (plain_key name)) 176 (length name)

  pub sv_count_lem : (address : ℕ) (svid : List ℕ) (rate : ℕ) → sv_publisher_count rules ≤ 16 → get_or (sv_added rules address svid rate).rules 192 0 ≤ 16
  unfolding sv_added with_sv_publisher
  sv_count_lem address svid rate =
      let i = rule_count (sv_publisher_count rules) in
      counts_added rules (word_set (key_stored 16 (word_set rules 0 i address) i (plain_key svid)) 176 i rate) 192 (length svid)
