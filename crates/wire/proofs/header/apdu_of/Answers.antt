-- `apdu_of` meets its contract.
use native.Mathlib.Omega.{arith}
use mathlib.Core.Path.{sym}
use Rattle.wire.proofs.HeaderLaws.{appid_range, apdu_short, apdu_other, apdu_small, apdu_past, apdu_is}
use Rattle.wire.proofs.header.apdu_of.Goals as goal

pub returns-then-bytes-start : goal.returns-then-bytes-start
returns-then-bytes-start c = let a = c.args in sym (apdu_short a.ethertype a.bytes.now c.appid_at-at.ensures c.if-bytes-start.true)

pub overflow_sub-at : goal.overflow_sub-at
overflow_sub-at c = omega (arith, c.appid_at-at.ensures, appid_range c.args.bytes.now)

pub returns-then-pair_at-ethertype : goal.returns-then-pair_at-ethertype
returns-then-pair_at-ethertype c = let a = c.args in
    sym (apdu_other a.ethertype a.bytes.now c.appid_at-at.ensures (omega arith) c.pair_at.ensures c.if-pair_at-ethertype.true)

pub overflow_add-at : goal.overflow_add-at
overflow_add-at c = omega (arith, c.appid_at-at.ensures, appid_range c.args.bytes.now)

pub returns-then-length-lt8 : goal.returns-then-length-lt8
returns-then-length-lt8 c = let a = c.args in
    sym
    (apdu_small a.ethertype a.bytes.now c.appid_at-at.ensures (omega arith) c.pair_at.ensures c.if-pair_at-ethertype.false
    c.pair_at-length.ensures c.if-length-lt8.true)

pub returns-then-bytes-start-2 : goal.returns-then-bytes-start-2
returns-then-bytes-start-2 c = let a = c.args in
    sym
    (apdu_past a.ethertype a.bytes.now c.appid_at-at.ensures (omega arith) c.pair_at.ensures c.if-pair_at-ethertype.false
    c.pair_at-length.ensures (omega arith) c.if-bytes-start-2.true)

pub returns : goal.returns
returns c = let a = c.args in
    sym
    (apdu_is a.ethertype a.bytes.now c.appid_at-at.ensures (omega arith) c.pair_at.ensures c.if-pair_at-ethertype.false
    c.pair_at-length.ensures (omega arith) c.if-bytes-start-2.false)
