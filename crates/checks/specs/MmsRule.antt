-- MMS rules (01, "Rules": the first rule whose mask is FFFF or has the raw number's bit applies). Masks, read-only flags from word 16 on, rates from
-- 32 on, and the count at 48.
use Rattle.std.specs.Prelude.{ℕ, ◌+◌, ◌/◌, ◌%◌, ◌^◌, min, Bool, ◌&&◌, ◌||◌, not, List, eqb, ltb, get_or, set, Option}
use Rattle.records.specs.Search.{first_from}
use Rattle.tables.specs.Column.{word_of, word_set}
use Rattle.checks.specs.Keys.{flag_word}
use Rattle.checks.specs.Rules.{rule_count, add_answer, RuleAdded, rule_added}

-- whether a mask has the bit of a raw number; only numbers below 16 have one
unfoldable pub has_bit : ℕ → ℕ → Bool
has_bit mask raw = ltb raw 16 && eqb (mask / 2 ^ raw % 2) 1

-- whether a rule of this mask applies to a raw number
unfoldable pub applies : ℕ → ℕ → Bool
applies mask raw = eqb mask 0xFFFF || has_bit mask raw

-- how many rules there are
abbrev pub mms_rule_count : List ℕ → ℕ
mms_rule_count p = get_or p 48 0

-- the place of the first rule that applies
unfoldable pub first_rule : List ℕ → ℕ → Option ℕ
first_rule p raw = first_from (λ i. applies (get_or p i 0) raw) 0 (rule_count (mms_rule_count p))

-- whether the rule at a place is read-only, and its rate
abbrev pub rule_read_only : List ℕ → ℕ → Bool
rule_read_only p i = not (eqb (word_of p 16 i) 0)

abbrev pub rule_rate : List ℕ → ℕ → ℕ
rule_rate p i = min (word_of p 32 i) 65535

-- with one more rule at a place, behind the others
unfoldable pub with_mms_rule : List ℕ → ℕ → ℕ → Bool → ℕ → List ℕ
with_mms_rule p i mask read_only rate = set (word_set (word_set (word_set p 0 i mask) 16 i (flag_word read_only)) 32 i rate) 48 (i + 1)

-- an add call; a rule has no name
unfoldable pub mms_added : List ℕ → ℕ → Bool → ℕ → RuleAdded
mms_added p mask read_only rate = rule_added (add_answer (mms_rule_count p) 0) (with_mms_rule p (rule_count (mms_rule_count p)) mask read_only rate) p
