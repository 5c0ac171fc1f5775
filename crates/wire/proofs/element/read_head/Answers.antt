-- `read_head` meets its contract.
use native.Mathlib.Omega.{arith}
use mathlib.Core.Path.{sym, ◌∙◌}
use Rattle.wire.proofs.ElementLaws.{head_short, head_by, definite}
use Rattle.wire.proofs.element.read_head.Goals as goal

pub returns-then-bytes-lt2 : goal.returns-then-bytes-lt2
returns-then-bytes-lt2 c = sym (head_short c.args.bytes.now c.if-bytes-lt2.true)

pub returns-in_err-length : goal.returns-in_err-length
returns-in_err-length c = let bytes = c.args.bytes.now in
    c.from_residual.ensures ∙ sym (head_by bytes (omega arith) (λ e. omega arith) c.read_length.ensures c.in_err-length.was)

pub overflow_add-result : goal.overflow_add-result
overflow_add-result c = let d = definite _ (sym c.read_length.ensures ∙ c.in_ok-length.was) in
    omega arith

pub returns : goal.returns
returns c = let bytes = c.args.bytes.now in
    sym (head_by bytes (omega arith) (λ e. omega arith) c.read_length.ensures c.in_ok-length.was)
