-- `fraction_or` meets its contract.
use mathlib.Core.Path.{sym, ◌∙◌}
use native.Mathlib.Omega.{arith}
use lib.ListN.{length, take, drop, length-take}
use lib.Seq.{take_all}
use borrow.Author.Tests.{le-leb, lt-leb}
use Rattle.records.proofs.Booleans.{cond_yes, cond_no}
use Rattle.sv_frame.proofs.field.fraction_or.Goals as goal

pub returns-then-time-lt7 : goal.returns-then-time-lt7
returns-then-time-lt7 c = let n = length c.args.time.now in sym (cond_no _ _ (lt-leb 7 n (omega arith)))

pub returns : goal.returns
returns c = let time = c.args.time.now in
    let three = take_all 4 (take 3 (drop 4 time)) (simp length-take (omega arith)) in
    c.big_endian.ensures ∙ rw three (sym (cond_yes _ _ (le-leb 7 (length time) (omega arith))))
