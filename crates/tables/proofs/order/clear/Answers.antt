-- `clear` meets its contract. The invariant: the words passed are those of a table without entries.
use Rattle.std.proofs.Common.{◌≡◌, length, sym, refl, ◌∙◌, arith, length-set, le-ltb, lt-ltb}
use Rattle.records.specs.Octets.{overwritten}
use Rattle.tables.specs.Order.{no_entries}
use Rattle.records.proofs.NameLaws.{overwritten_more, overwritten_whole}
use Rattle.records.proofs.Booleans.{cond_yes, cond_no}
use Rattle.tables.proofs.order.clear.Goals as goal
use Rattle.tables.proofs.order.clear.Goals.{then-i-lt2, else-i-lt2}

pub loop-i-init : goal.loop-i-init
unfolding overwritten
loop-i-init c = (omega arith, refl, refl)

pub loop-i-preserved : goal.loop-i-preserved
loop-i-preserved c = let l = c.loop-i in (
  simp length-set (omega arith),
  overwritten_more _ _ 0 l.i l.invariant.1 (omega arith)
      (elim c.if-i-lt2.branch [
        | then-i-lt2 w ↦ w.word-is ∙ sym (cond_yes _ _ (lt-ltb _ _ w.if-i-lt2.true))
        | else-i-lt2 w ↦ w.word-is ∙ sym (cond_no _ _ (le-ltb _ _ w.if-i-lt2.false))
      ]),
  simp length-set l.invariant.2,
)

pub returns : goal.returns
unfolding no_entries
returns c = let l = c.loop-i in
    let e : l.i ≡ length c.args.t.now = omega arith in
    (rw e at l.invariant.1) ∙ overwritten_whole _ _ _ refl
