-- `decode_sv_apdu` meets its contract.
use mathlib.Core.Path.{◌∙◌}
use Rattle.std.proofs.lemmas.Result.{err_from_is_err_and}
use Rattle.sv_frame.proofs.SvLaws.{frame_by}
use Rattle.sv_frame.proofs.sv.decode_sv_apdu.Goals as goal

pub returns-in_err-asdu : goal.returns-in_err-asdu
returns-in_err-asdu c = let a = c.args in
    let p = err_from_is_err_and c.from_residual.result c.from_residual.ensures.1 in
    rw (p.1, p.2) (frame_by a.apdu.now a.src_mac a.timestamp_us c.sv_asdu.ensures c.in_err-asdu.was)

pub returns : goal.returns
returns c = let a = c.args in
    c.read_fields.ensures
    ∙ rw (c.content.ensures, c.default.ensures) (frame_by a.apdu.now a.src_mac a.timestamp_us c.sv_asdu.ensures c.in_ok-asdu.was)
