-- `apdu_verdict` meets its contract.
use Rattle.std.proofs.lemmas.Result.{err_from_is_err_and}
use Rattle.monitor.specs.Monitor.{monitor_of}
use Rattle.lent.proofs.RawLaws.{asdu_refused, places_refused, places_inspected}
use Rattle.lent.proofs.raw.apdu_verdict.Goals as goal

pub returns-in_err-place : goal.returns-in_err-place
returns-in_err-place c time = let a = c.args in
    let p = err_from_is_err_and c.from_residual.result c.from_residual.ensures.1 in
    rw (p.1, p.2) (asdu_refused (monitor_of a.m.now) a.apdu.now a.source time c.sv_asdu.ensures c.in_err-place.was)

pub returns-in_err-p : goal.returns-in_err-p
returns-in_err-p c time = let a = c.args in
    let p = err_from_is_err_and c.from_residual-in_err-p.result c.from_residual-in_err-p.ensures.1 in
    rw (p.1, p.2)
    (places_refused (monitor_of a.m.now) a.apdu.now a.source time c.sv_asdu.ensures c.in_ok-place.was c.content-asdu.ensures
    c.sv_places.ensures c.in_err-p.was)

pub returns : goal.returns
returns c time = let a = c.args in
    places_inspected (monitor_of a.m.now) a.apdu.now a.source time c.sv_asdu.ensures c.in_ok-place.was c.content-asdu.ensures
    c.sv_places.ensures c.in_ok-p.was c.address_of-address.ensures (c.check_places-alerts.ensures a.source) c.verdict_on.ensures
