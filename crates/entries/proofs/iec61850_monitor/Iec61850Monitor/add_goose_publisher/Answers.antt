-- `add_goose_publisher` meets its contract.
use Prim.Native.Nat.{ℕ}
use mathlib.Core.Path.{ap, ◌∙◌}
use Rattle.checks.specs.Rules.{AddNumbers}
use Rattle.inspection.proofs.CallTheoremsHold.{answer_has, refusal_numbers}
use Rattle.monitor.specs.Parts.{goose_added_on}
use Rattle.monitor.specs.Monitor.{monitor_of}
use Rattle.entries.proofs.iec61850_monitor.Iec61850Monitor.add_goose_publisher.Goals as goal

pub returns-clause-numbers : goal.returns-clause-numbers
returns-clause-numbers c =
    let a = c.args in
    (answer_has (AddNumbers _ _)
    (c.add_goose_publisher_on-answer.ensures
    ∙ ap (λ (address : ℕ). goose_added_on (monitor_of a.self.words) address a.go_cb_ref.now) c.address_of.ensures)
    ((refusal_numbers _).1 _ _)).1
