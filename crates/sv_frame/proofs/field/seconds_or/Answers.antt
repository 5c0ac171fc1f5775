-- `seconds_or` meets its contract.
use mathlib.Core.Path.{sym, ◌∙◌}
use native.Mathlib.Omega.{arith}
use lib.ListN.{length}
use borrow.Author.Tests.{le-leb, lt-leb}
use Rattle.records.proofs.Booleans.{cond_yes, cond_no}
use Rattle.sv_frame.proofs.field.seconds_or.Goals as goal

pub returns-then-time-lt4 : goal.returns-then-time-lt4
returns-then-time-lt4 c = let n = length c.args.time.now in sym (cond_no _ _ (lt-leb 4 n (omega arith)))

pub returns : goal.returns
returns c = let n = length c.args.time.now in
    c.big_endian.ensures ∙ sym (cond_yes _ _ (le-leb 4 n (omega arith)))
