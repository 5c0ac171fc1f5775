-- GOOSE publishers (01, "Rules": a rule with an empty name fits any name of its address). Addresses, the key columns of a table by name from
-- word 16 on, and the count at 176.
use Rattle.std.specs.Prelude.{ℕ, ◌+◌, Bool, ◌&&◌, ◌||◌, List, eqb, length, get_or, set, Option}
use Rattle.records.specs.Search.{first_from}
use Rattle.tables.specs.Column.{word_of, word_set}
use Rattle.tables.specs.Named.{has_key, key_stored}
use Rattle.checks.specs.Keys.{plain_key}
use Rattle.checks.specs.Rules.{rule_count, add_answer, RuleAdded, rule_added}

-- how many publishers there are
abbrev pub goose_publisher_count : List ℕ → ℕ
goose_publisher_count p = get_or p 176 0

-- whether the rule at a place fits an address and a control block's name
unfoldable pub goose_fits_at : List ℕ → ℕ → List ℕ → ℕ → Bool
goose_fits_at p address name i = eqb (word_of p 0 i) address && (eqb (word_of p 32 i) 0 || has_key 16 p name i)

-- the place of the first rule that fits
unfoldable pub goose_publisher : List ℕ → ℕ → List ℕ → Option ℕ
goose_publisher p address name = first_from (goose_fits_at p address name) 0 (rule_count (goose_publisher_count p))

-- with one more rule at a place, behind the others
unfoldable pub with_goose_publisher : List ℕ → ℕ → ℕ → List ℕ → List ℕ
with_goose_publisher p i address name = set (key_stored 16 (word_set p 0 i address) i name) 176 (i + 1)

-- an add call
unfoldable pub goose_added : List ℕ → ℕ → List ℕ → RuleAdded
goose_added p address name =
    rule_added (add_answer (goose_publisher_count p) (length name)) (with_goose_publisher p (rule_count (goose_publisher_count p)) address (plain_key name)) p
