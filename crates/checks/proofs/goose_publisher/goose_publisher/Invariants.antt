-- `goose_publisher` meets its contract.
use Rattle.std.proofs.Common.{None}
use mathlib.Core.Path.{◌≡◌}
use Rattle.records.proofs.SearchLaws.{Reached}
use Rattle.checks.specs.GoosePublisher.{goose_publisher_count, goose_fits_at}
use Rattle.checks.specs.Rules.{rule_count}
use Rattle.checks.proofs.goose_publisher.goose_publisher.Given as goal

abbrev pub invariant-loop-i : goal.invariant-loop-i
invariant-loop-i l = (l.n ≡ rule_count (goose_publisher_count l.t)) × (l.place ≡ None) × Reached (goose_fits_at l.t l.address l.name) l.n l.i
