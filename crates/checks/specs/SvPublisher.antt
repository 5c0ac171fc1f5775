-- SV publishers (01, "Rules": if several rules fit name and address, the last one's rate counts). Addresses, the key columns of a table by name
-- from word 16 on, rates from 176 on, and the count at 192.
use Rattle.std.specs.Prelude.{ℕ, ◌+◌, min, Bool, ◌&&◌, cond, List, [], ◌∷◌, eqb, length, get_or, set, Option, Some, None, Result, Ok, Err}
use Rattle.records.specs.Search.{last_below, is_found}
use Rattle.tables.specs.Column.{word_of, word_set}
use Rattle.tables.specs.Named.{has_key, key_stored}
use Rattle.checks.specs.declared.sv_publisher.PublisherMismatch.{PublisherMismatch}
use Rattle.checks.specs.declared.sv_publisher.PublisherMismatch.TheVariants.{NotRegistered, WrongAddress}
use Rattle.checks.specs.Keys.{plain_key}
use Rattle.checks.specs.Rules.{rule_count, add_answer, RuleAdded, rule_added}

-- the match as a row: 1 and the place of the rule, or 0 and the refusal of 01 that it may lead to: 14 registered, never with this address, 15 not
-- among the rules
abbrev pub publisher_match_row : Result ℕ PublisherMismatch → List ℕ
publisher_match_row (Err NotRegistered) = 0 ∷ 15 ∷ []
publisher_match_row (Err WrongAddress) = 0 ∷ 14 ∷ []
publisher_match_row (Ok i) = 1 ∷ i ∷ []

-- how many publishers there are
abbrev pub sv_publisher_count : List ℕ → ℕ
sv_publisher_count p = get_or p 192 0

-- whether a rule has this address
abbrev pub has_address : List ℕ → ℕ → ℕ → Bool
has_address p address i = eqb (get_or p i 0) address

-- the last place that fits; an svID that no rule fits is registered with another address, or not at all
abbrev pub match_at : Bool → Option ℕ → Result ℕ PublisherMismatch
match_at is_registered (Some i) = Ok i
match_at is_registered None = Err (cond is_registered WrongAddress NotRegistered)

-- how an svID and an address match the rules
unfoldable pub sv_publisher : List ℕ → ℕ → List ℕ → Result ℕ PublisherMismatch
sv_publisher p address svid =
    match_at (is_found (last_below (λ i. has_key 16 p svid i) (rule_count (sv_publisher_count p))))
    (last_below (λ i. has_key 16 p svid i && has_address p address i) (rule_count (sv_publisher_count p)))

-- with one more rule at a place, behind the others
unfoldable pub with_sv_publisher : List ℕ → ℕ → ℕ → List ℕ → ℕ → List ℕ
with_sv_publisher p i address svid rate = set (word_set (key_stored 16 (word_set p 0 i address) i svid) 176 i rate) 192 (i + 1)

-- the rate of the rule at a place
abbrev pub publisher_rate : List ℕ → ℕ → ℕ
publisher_rate p i = min (word_of p 176 i) 65535

-- an add call
unfoldable pub sv_added : List ℕ → ℕ → List ℕ → ℕ → RuleAdded
sv_added p address svid rate =
    rule_added (add_answer (sv_publisher_count p) (length svid)) (with_sv_publisher p (rule_count (sv_publisher_count p)) address (plain_key svid) rate) p
