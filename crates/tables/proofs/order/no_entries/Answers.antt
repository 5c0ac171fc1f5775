-- `no_entries` meets its contract.
use Rattle.std.proofs.Common.{sym, refl, eq-eqb, ne_eqb}
use Rattle.records.proofs.Booleans.{and_yes, and_no}
use Rattle.tables.specs.Order.{all_free}
use Rattle.tables.proofs.order.no_entries.Goals as goal

pub returns-then-t-ne-FREE : goal.returns-then-t-ne-FREE
unfolding all_free
returns-then-t-ne-FREE c = sym (and_no _ (ne_eqb _ _ c.if-t-ne-FREE.true))

pub returns : goal.returns
unfolding all_free
returns c = sym (and_yes (eq-eqb _ _ c.if-t-ne-FREE.false) refl)
