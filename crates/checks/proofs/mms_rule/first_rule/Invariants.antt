-- `first_rule` meets its contract.
use Rattle.std.proofs.Common.{None}
use mathlib.Core.Path.{◌≡◌}
use lib.ListN.{get_or}
use Rattle.records.proofs.SearchLaws.{Reached}
use Rattle.checks.specs.MmsRule.{mms_rule_count, applies}
use Rattle.checks.specs.Rules.{rule_count}
use Rattle.checks.proofs.mms_rule.first_rule.Given as goal

abbrev pub invariant-loop-i : goal.invariant-loop-i
invariant-loop-i l = (l.n ≡ rule_count (mms_rule_count l.t)) × (l.place ≡ None) × Reached (λ j. applies (get_or l.t j 0) l.raw) l.n l.i
