-- The fields so far, with those that are unread, give the whole, and each turn leaves less unread.
use Rattle.std.proofs.Common.{◌≡◌, false, length}
use Rattle.wire.specs.Element.{elements}
use Rattle.sv_frame.specs.Sv.{fields_from}
use Rattle.sv_frame.proofs.sv.read_fields.Given as goal

abbrev pub invariant-loop-reader : goal.invariant-loop-reader
invariant-loop-reader l = fields_from l.fn.frame false (elements l.fn.asdu) ≡ fields_from l.out l.counted (elements l.reader.unread.now)

abbrev pub decreases-loop-reader : goal.decreases-loop-reader
decreases-loop-reader l = length l.reader.unread.now
