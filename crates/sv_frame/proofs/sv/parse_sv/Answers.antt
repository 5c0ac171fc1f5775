-- `parse_sv` meets its contract.
use native.Mathlib.Omega.{arith}
use Rattle.std.proofs.Common.{◌≡◌, Err, sym, ◌∙◌}
use Rattle.records.specs.declared.error.VsError.TheVariants.{InvalidInput}
use Rattle.sv_frame.specs.Sv.{sv_frame}
use Rattle.wire.proofs.HeaderLaws.{apdu_within}
use Rattle.sv_frame.proofs.RefusalsHold.{by_frame}
use Rattle.sv_frame.proofs.sv.parse_sv.Goals as goal

pub returns-in_default : goal.returns-in_default
unfolding sv_frame
returns-in_default c =
    let e : Err InvalidInput ≡ sv_frame c.args.bytes.now c.args.timestamp_us = rw (sym c.ethernet_header.ensures ∙ c.in_default.is) in
    record { value = e; numbers = (by_frame c.args.bytes.now c.args.timestamp_us e).1 }

pub slice_bounds-apdu-count : goal.slice_bounds-apdu-count
slice_bounds-apdu-count c = (apdu_within 0x88BA c.args.bytes.now (sym c.ethernet_header.ensures ∙ c.in-Some.is)).0

pub slice_bounds-apdu-start : goal.slice_bounds-apdu-start
slice_bounds-apdu-start c = let w = apdu_within 0x88BA c.args.bytes.now (sym c.ethernet_header.ensures ∙ c.in-Some.is) in
    omega (arith, w.0, w.1)

pub slice_bounds-apdu-end : goal.slice_bounds-apdu-end
slice_bounds-apdu-end c = let w = apdu_within 0x88BA c.args.bytes.now (sym c.ethernet_header.ensures ∙ c.in-Some.is) in
    omega (arith, w.0, w.1)

pub returns : goal.returns
unfolding sv_frame
returns c =
    let e : c.decode_sv_apdu.result ≡ sv_frame c.args.bytes.now c.args.timestamp_us =
    c.decode_sv_apdu.ensures ∙ rw (sym c.ethernet_header.ensures ∙ c.in-Some.is) in
    record { value = e; numbers = (by_frame c.args.bytes.now c.args.timestamp_us e).1 }
