-- `goose_unknown` meets its contract.
use mathlib.Core.List.{List}
use mathlib.Core.Bool.{Bool, true, false, not}
use mathlib.Core.Path.{◌≡◌, sym, refl, ap, ◌∙◌}
use Prim.Native.Nat.{ℕ}
use Rattle.records.specs.Name.{stated_name}
use Rattle.checks.specs.GoosePublisher.{goose_publisher}
use Rattle.checks.specs.Keys.{plain_key}
use Rattle.monitor.specs.Monitor.{monitor_of}
use Rattle.inspection.proofs.StageLaws.{unknown_to_none, unknown_unless_found}
use Rattle.inspection.proofs.inspect_goose.goose_unknown.Goals as goal

twice_not : (b : Bool) → b ≡ not (not b)
twice_not true = refl
twice_not false = refl

pub returns-then-goose_publisher_count_on-eq0 : goal.returns-then-goose_publisher_count_on-eq0
returns-then-goose_publisher_count_on-eq0 c = let a = c.args in
    unknown_to_none (monitor_of a.m.now) a.address (plain_key (stated_name a.name))
    c.goose_publisher_count_on.ensures c.if-goose_publisher_count_on-eq0.true

pub returns : goal.returns
returns c = let a = c.args in
    let m = monitor_of a.m.now in
    twice_not _ ∙ ap not (sym c.is_none.ensures)
    ∙ unknown_unless_found m a.address (plain_key (stated_name a.name)) c.goose_publisher_count_on.ensures _ c.if-goose_publisher_count_on-eq0.false
    (c.goose_publisher_on.ensures ∙ ap (λ (key : List ℕ). goose_publisher m.goose_publishers a.address key) c.plain_key.ensures)
    refl
