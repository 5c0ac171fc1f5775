-- `opened` meets its contract.
use native.Mathlib.Omega.{arith}
use mathlib.Core.Path.{sym, ◌∙◌}
use Rattle.wire.proofs.ElementLaws.{opened_none, opened_other, opened_same}
use Rattle.wire.proofs.element.opened.Goals as goal

pub returns-then-n-eq0 : goal.returns-then-n-eq0
returns-then-n-eq0 c = sym (opened_none _ c.args.bytes.now c.if-n-eq0.true)

pub returns-then-bytes-tag : goal.returns-then-bytes-tag
returns-then-bytes-tag c = let bytes = c.args.bytes.now in
    sym (opened_other _ bytes (omega arith) c.if-bytes-tag.true)

pub returns-in_default : goal.returns-in_default
returns-in_default c = let bytes = c.args.bytes.now in
    sym (opened_same _ bytes (omega arith) c.if-bytes-tag.false (sym c.parse_tlv.ensures ∙ c.in_default.is))

pub returns : goal.returns
returns c = let bytes = c.args.bytes.now in
    sym (opened_same _ bytes (omega arith) c.if-bytes-tag.false (sym c.parse_tlv.ensures ∙ c.in-Some.is))
