-- Rule lists (01, "Rules": at most 16 of each kind; "Refusals in checking order", 1 and 2).
use Rattle.std.specs.Prelude.{ℕ, ◌≤◌, ◌<◌, min, cond, List, [], ◌∷◌, ◌≡◌, ltb, leb, Result, Ok, Err}
use Rattle.records.specs.declared.error.VsError.TheVariants.{ResourceExhausted, InvalidInput}
use Rattle.records.specs.Row.{answer_row}
use Rattle.records.specs.declared.error.VsError.{VsError}

-- how many rules a count says; above 16 it counts as 16
abbrev pub rule_count : ℕ → ℕ
rule_count count = min count 16

-- 1. on 16 rules ResourceExhausted (6); 2. a name over 64 octets InvalidInput (9)
unfoldable pub add_answer : ℕ → ℕ → Result (Unit {0}) VsError
add_answer count name_length = cond (ltb count 16) (cond (leb name_length 64) (Ok tt) (Err InvalidInput)) (Err ResourceExhausted)

-- refusals 1 and 2 by their numbers: on 16 rules 6, then for a name over 64 octets 9, else the rule is added
pub record AddNumbers (count name_length : ℕ) (answer : Result (Unit {0}) VsError) : Type 0 where
  pub full : 16 ≤ count → answer_row answer ≡ 0 ∷ 6 ∷ []
  pub long : count < 16 → 64 < name_length → answer_row answer ≡ 0 ∷ 9 ∷ []
  pub fits : count < 16 → name_length ≤ 64 → answer_row answer ≡ 1 ∷ []

-- the rules after an add call, and its answer
pub record RuleAdded : Type 0 where
  pub rules : List ℕ
  pub answer : Result (Unit {0}) VsError

-- a refused call changes nothing
abbrev pub if_added : Result (Unit {0}) VsError → List ℕ → List ℕ → List ℕ
if_added (Ok u) new old = new
if_added (Err e) new old = old

abbrev pub rule_added : Result (Unit {0}) VsError → List ℕ → List ℕ → RuleAdded
rule_added answer new old = record { rules = if_added answer new old; answer = answer }
