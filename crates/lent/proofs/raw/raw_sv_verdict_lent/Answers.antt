-- `raw_sv_verdict_lent` meets its contract.
use native.Mathlib.Omega.{arith}
use mathlib.Core.Path.{sym, ap, ◌∙◌}
use Rattle.wire.proofs.HeaderLaws.{apdu_within}
use Rattle.monitor.specs.Monitor.{monitor_of}
use Rattle.lent.specs.Raw.{answered_verdict}
use Rattle.lent.proofs.RawLaws.{header_refused, header_found}
use Rattle.lent.proofs.raw.raw_sv_verdict_lent.Goals as goal

pub returns-in_default : goal.returns-in_default
returns-in_default c time = let a = c.args in
    header_refused (monitor_of a.m.now) a.bytes.now time c.ethernet_header.ensures c.in_default.is c.refused_verdict.ensures

pub slice_bounds-apdu-count : goal.slice_bounds-apdu-count
slice_bounds-apdu-count c = (apdu_within 0x88BA c.args.bytes.now (sym c.ethernet_header.ensures ∙ c.in-Some.is)).0

pub slice_bounds-apdu-start : goal.slice_bounds-apdu-start
slice_bounds-apdu-start c = let w = apdu_within 0x88BA c.args.bytes.now (sym c.ethernet_header.ensures ∙ c.in-Some.is) in
    omega (arith, w.0, w.1)

pub slice_bounds-apdu-end : goal.slice_bounds-apdu-end
slice_bounds-apdu-end c = let w = apdu_within 0x88BA c.args.bytes.now (sym c.ethernet_header.ensures ∙ c.in-Some.is) in
    omega (arith, w.0, w.1)

pub returns-in-Ok : goal.returns-in-Ok
returns-in-Ok c time = let a = c.args in
    header_found (monitor_of a.m.now) a.bytes.now time c.ethernet_header.ensures c.in-Some.is c.apdu_verdict.result
    (sym (ap answered_verdict c.in-Ok.is)) (c.apdu_verdict.ensures time)

pub returns-in-Err : goal.returns-in-Err
returns-in-Err c time = let a = c.args in
    header_found (monitor_of a.m.now) a.bytes.now time c.ethernet_header.ensures c.in-Some.is c.apdu_verdict.result
    (c.refused_verdict-in-Err.ensures ∙ sym (ap answered_verdict c.in-Err.is)) (c.apdu_verdict.ensures time)
