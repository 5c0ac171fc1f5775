-- `use_slot` meets its contract.
use Rattle.std.proofs.Common.{sym, refl, ◌∙◌, arith, get_or-set_other}
use Rattle.tables.proofs.OrderLaws.{rank_below, use_outside, use_last, own_rank, use_done}
use Rattle.tables.proofs.order.use_slot.Goals as goal

pub returns-then-slot-ge16 : goal.returns-then-slot-ge16
returns-then-slot-ge16 c = use_outside _ _ c.if-slot-ge16.true

pub returns-then-old-eq0 : goal.returns-then-old-eq0
returns-then-old-eq0 c = use_last _ _ c.if-slot-ge16.false (sym c.rank_at-old.ensures ∙ c.if-old-eq0.true)

pub used_word-requires : goal.used_word-requires
used_word-requires c = let a = c.args in (
  omega (arith, c.if-old-eq0.false),
  omega (arith, c.rank_at-old.ensures, rank_below a.t.now a.slot),
  omega arith,
  λ e. own_rank _ _ 0 refl e ∙ sym c.rank_at-old.ensures,
)

pub used_word-requires-2 : goal.used_word-requires-2
used_word-requires-2 c = let a = c.args in (
  omega (arith, c.if-old-eq0.false),
  omega (arith, c.rank_at-old.ensures, rank_below a.t.now a.slot),
  omega arith,
  λ e. own_rank a.t.now a.slot 1 (get_or-set_other a.t.now 0 1 c.used_word.result 0 (λ q. omega arith)) e ∙ sym c.rank_at-old.ensures,
)

pub returns : goal.returns
returns c = use_done _ _ c.if-slot-ge16.false (omega arith) c.rank_at-old.ensures c.if-old-eq0.false c.used_word.ensures c.used_word-2.ensures
