-- Laws of rules: an add call's answer and list, a rule stored, and what the rules tell of an svID and an address.
use Prim.Native.Nat.{ℕ, ◌+◌, ◌≤◌, ◌<◌}
use mathlib.Core.Bool.{Bool, true, false, ◌&&◌, cond}
use mathlib.Core.List.{List}
use mathlib.Core.Path.{◌≡◌, refl, ap, sym, ◌∙◌}
use native.Mathlib.Numerals.{add-one}
use borrow.Author.Tests.{leb-true, lt-ltb, le-ltb, le-leb, lt-leb}
use lib.Dec.{ltb, leb}
use lib.ListN.{set}
use Rattle.records.proofs.Booleans.{answered}
use Rattle.records.specs.declared.error.VsError.{VsError}
use Rattle.records.specs.declared.error.VsError.TheVariants.{ResourceExhausted, InvalidInput}
use Rattle.records.specs.Search.{last_below, is_found}
use Rattle.tables.specs.Column.{word_set}
use Rattle.tables.specs.Named.{key_stored}
use Rattle.std.specs.Int.{from_bool}
use Rattle.std.specs.Prelude.{Result, Ok, Err, Option, Some, None}
use Rattle.checks.specs.Keys.{flag_word}
use Rattle.records.specs.Row.{answer_row}
use Rattle.checks.specs.Rules.{add_answer, AddNumbers, rule_added}
use Rattle.checks.specs.GoosePublisher.{with_goose_publisher}
use Rattle.checks.specs.MmsRule.{with_mms_rule}
use Rattle.checks.specs.SvPublisher.{match_at, with_sv_publisher}

-- ---- an add call

-- its answer: a full list, a long name, and neither
module _ (count len : ℕ) where
  pub list_full : 16 ≤ count → add_answer count len ≡ Err ResourceExhausted
  unfolding add_answer
  list_full h = rw (le-ltb count 16 h)

  pub name_long : count < 16 → 64 < len → add_answer count len ≡ Err InvalidInput
  unfolding add_answer
  name_long h l = rw (lt-ltb count 16 h, lt-leb len 64 l)

  pub rule_fits : count < 16 → len ≤ 64 → add_answer count len ≡ Ok tt
  unfolding add_answer
  rule_fits h l = rw (lt-ltb count 16 h, le-leb len 64 l)

  pub add_numbers : AddNumbers count len (add_answer count len)
  add_numbers =
      record { full = λ h. ap answer_row (list_full h); long = λ h l. ap answer_row (name_long h l); fits = λ h l. ap answer_row (rule_fits h l) }

abbrev is_rule : Result (Unit {0}) VsError → Bool
is_rule (Ok u) = true
is_rule (Err e) = false

-- a name is taken only if it has at most 64 octets
short_name : (room short : Bool) (e f : VsError) → ◌≡◌ {A = Result (Unit {0}) VsError} (cond room (cond short (Ok tt) (Err e)) (Err f)) (Ok tt) → short ≡ true
short_name room true e f h = refl
short_name true false e f h = ap is_rule h
short_name false false e f h = ap is_rule h

pub added_length : (count len : ℕ) {answer : Result (Unit {0}) VsError} → answer ≡ add_answer count len → answer ≡ Ok tt → len ≤ 64
unfolding add_answer
added_length count len q e = leb-true len 64 (short_name (ltb count 16) (leb len 64) _ _ (sym q ∙ e))

module _ (count len : ℕ) (new old : List ℕ) {answer : Result (Unit {0}) VsError} (q : answer ≡ add_answer count len) where
  pub added_rule : {out : List ℕ} → answer ≡ Ok tt → out ≡ new → record { rules = out; answer = Ok tt } ≡ rule_added (add_answer count len) new old
  added_rule e u = (λ i. record { rules = u i; answer = Ok tt }) ∙ ap (λ a. rule_added a new old) (answered e q)

  pub added_error_lem : {e : VsError} → answer ≡ Err e → record { rules = old; answer = Err e } ≡ rule_added (add_answer count len) new old
  added_error_lem e = ap (λ a. rule_added a new old) (answered e q)

-- a rule stored, word by word
pub mms_stored : (t : List ℕ) (i mask : ℕ) (read_only : Bool) (rate : ℕ) {flag : ℕ} {a b c : List ℕ} → a ≡ word_set t 0 i mask → flag ≡ flag_word read_only
    → b ≡ word_set a 16 i flag → c ≡ word_set b 32 i rate → set c 48 (i + 1) ≡ with_mms_rule t i mask read_only rate
unfolding with_mms_rule
mms_stored t i mask read_only rate p f q r = rw (r, q, f, p)

pub goose_stored : (t : List ℕ) (i address : ℕ) (name : List ℕ) {a b : List ℕ} → a ≡ word_set t 0 i address → b ≡ key_stored 16 a i name
    → set b 176 (i + 1) ≡ with_goose_publisher t i address name
unfolding with_goose_publisher
goose_stored t i address name p q = rw (q, p)

pub sv_stored : (t : List ℕ) (i address : ℕ) (svid : List ℕ) (rate : ℕ) {a b c : List ℕ} → a ≡ word_set t 0 i address → b ≡ key_stored 16 a i svid
    → c ≡ word_set b 176 i rate → set c 192 (i + 1) ≡ with_sv_publisher t i address svid rate
unfolding with_sv_publisher
sv_stored t i address svid rate p q r = rw (r, q, p)

-- a flag as the word that its conversion gives
pub flag_is : (flag : Bool) {word : ℕ} → word ≡ from_bool flag → word ≡ flag_word flag
flag_is true e = e
flag_is false e = e

-- ---- what the first i rules tell: whether one has the svID, and the last place that has the address too

module _ (named addressed : ℕ → Bool) where
  pub record Compared (i : ℕ) (registered : Bool) (place : Option ℕ) : Type 0 where
    pub registered_is : registered ≡ is_found (last_below named i)
    pub place_is : place ≡ last_below (λ j. named j && addressed j) i

  pub compared_none : Compared 0 false None
  unfolding last_below
  compared_none = record { registered_is = refl; place_is = refl }

  module _ {i : ℕ} {registered : Bool} {place : Option ℕ} (t : Compared i registered place) {same : Bool} (s : same ≡ named i)
      {r : Bool} {p : Option ℕ} where
    pub compared_fits : same ≡ true → addressed i ≡ true → r ≡ true → p ≡ Some i → Compared (i + 1) r p
    unfolding last_below
    compared_fits n a e f = record { registered_is = e ∙ rw (add-one, answered s n); place_is = f ∙ rw (add-one, answered s n, a) }

    pub compared_wrong : same ≡ true → addressed i ≡ false → r ≡ true → p ≡ place → Compared (i + 1) r p
    unfolding last_below
    compared_wrong n a e f = record { registered_is = e ∙ rw (add-one, answered s n); place_is = f ∙ t.place_is ∙ rw (add-one, answered s n, a) }

    pub compared_other : same ≡ false → r ≡ registered → p ≡ place → Compared (i + 1) r p
    unfolding last_below
    compared_other n e f = record { registered_is = e ∙ t.registered_is ∙ rw (add-one, answered s n); place_is = f ∙ t.place_is ∙ rw (add-one, answered s n) }

  -- what all n rules tell
  pub compared_all :
      {i n : ℕ} {registered : Bool} {place : Option ℕ} → Compared i registered place → i ≡ n
      → match_at registered place ≡ match_at (is_found (last_below named n)) (last_below (λ j. named j && addressed j) n)
  compared_all t e = rw (t.registered_is, t.place_is, e)
