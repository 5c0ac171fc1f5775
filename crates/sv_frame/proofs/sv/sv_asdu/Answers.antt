-- `sv_asdu` meets its contract.
use native.Mathlib.Omega.{arith}
use mathlib.Core.Path.{◌≡◌, ap, ◌∙◌}
use Rattle.std.proofs.Common.{Option, Result, Ok}
use Rattle.std.proofs.lemmas.Result.{err_from_is_err_and}
use Rattle.records.specs.declared.error.VsError.{VsError}
use Rattle.wire.specs.declared.element.Part.{Part}
use Rattle.sv_frame.proofs.SvLaws.{asdu_by, asdu_by_first, asdu_by_last, asdu_within}
use Rattle.sv_frame.proofs.sv.sv_asdu.Goals as goal

-- an answer with no error is a part or is missing
found : {r : Result (Option Part) VsError} {o k : Option Part} → r ≡ Ok o → o ≡ k → r ≡ Ok k
found e q = e ∙ ap Ok q

pub returns-in_err-pdu : goal.returns-in_err-pdu
returns-in_err-pdu c = let p = err_from_is_err_and c.from_residual.result c.from_residual.ensures.1 in
    rw (p.1, p.2) (asdu_by _ c.opened.ensures c.in_err-pdu.was)

pub returns-in_default : goal.returns-in_default
returns-in_default c = asdu_by _ c.opened.ensures (found c.in_ok-pdu.was c.in_default.is)

pub returns-in_err-seq : goal.returns-in_err-seq
returns-in_err-seq c = let p = err_from_is_err_and c.from_residual-in_err-seq.result c.from_residual-in_err-seq.ensures.1 in
    rw (p.1, p.2)
    (asdu_by_first _ c.opened.ensures (found c.in_ok-pdu.was c.in-Some.is) c.content-elements.ensures c.first_content.ensures c.in_err-seq.was)

pub returns-in_default-2 : goal.returns-in_default-2
returns-in_default-2 c =
    asdu_by_first _ c.opened.ensures (found c.in_ok-pdu.was c.in-Some.is) c.content-elements.ensures c.first_content.ensures
    (found c.in_ok-seq.was c.in_default-2.is)

pub returns-in_err-asdu : goal.returns-in_err-asdu
returns-in_err-asdu c = let p = err_from_is_err_and c.from_residual-in_err-asdu.result c.from_residual-in_err-asdu.ensures.1 in
    rw (p.1, p.2)
    (asdu_by_last _ c.opened.ensures (found c.in_ok-pdu.was c.in-Some.is) c.content-elements.ensures c.first_content.ensures
    (found c.in_ok-seq.was c.in-Some-2.is) c.content-asdus.ensures c.opened-2.ensures c.in_err-asdu.was)

pub returns-in_default-3 : goal.returns-in_default-3
returns-in_default-3 c =
    asdu_by_last _ c.opened.ensures (found c.in_ok-pdu.was c.in-Some.is) c.content-elements.ensures c.first_content.ensures
    (found c.in_ok-seq.was c.in-Some-2.is) c.content-asdus.ensures c.opened-2.ensures (found c.in_ok-asdu.was c.in_default-3.is)

pub returns : goal.returns
returns c =
    asdu_by_last _ c.opened.ensures (found c.in_ok-pdu.was c.in-Some.is) c.content-elements.ensures c.first_content.ensures
    (found c.in_ok-seq.was c.in-Some-2.is) c.content-asdus.ensures c.opened-2.ensures (found c.in_ok-asdu.was c.in-Some-3.is)

pub overflow_add-result : goal.overflow_add-result
overflow_add-result c =
    let w =
    asdu_within _
    (asdu_by_last _ c.opened.ensures (found c.in_ok-pdu.was c.in-Some.is) c.content-elements.ensures c.first_content.ensures
    (found c.in_ok-seq.was c.in-Some-2.is) c.content-asdus.ensures c.opened-2.ensures (found c.in_ok-asdu.was c.in-Some-3.is)) in
    omega (arith, w)

pub overflow_add-result-2 : goal.overflow_add-result-2
overflow_add-result-2 c = let w = asdu_within _ (returns c) in omega (arith, w)
