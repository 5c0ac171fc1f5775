-- `sv_publisher` meets its contract.
use mathlib.Core.Path.{◌≡◌}
use Rattle.tables.specs.Named.{has_key}
use Rattle.checks.proofs.RuleLaws.{Compared}
use Rattle.checks.specs.SvPublisher.{sv_publisher_count, has_address}
use Rattle.checks.specs.Rules.{rule_count}
use Rattle.checks.proofs.sv_publisher.sv_publisher.Given as goal

abbrev pub invariant-loop-i : goal.invariant-loop-i
invariant-loop-i l = (l.n ≡ rule_count (sv_publisher_count l.t))
    × Compared (λ j. has_key 16 l.t l.svid j) (λ j. has_address l.t l.address j) l.i l.is_registered l.place
