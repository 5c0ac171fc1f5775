-- `big_endian` meets its contract. The invariant: the number of the octets that are left, from the value on, is the whole number.
use mathlib.Core.Path.{◌≡◌}
use Prim.Native.Nat.{◌<◌, ◌^◌}
use lib.ListN.{take, drop}
use Rattle.wire.specs.Number.{big_endian, big_endian_from}
use Rattle.wire.proofs.number.big_endian.Given as goal

abbrev pub invariant-loop-octet : goal.invariant-loop-octet
invariant-loop-octet l =
    (l.value < 256 ^ l.octet-index) × (big_endian (take 4 l.bytes) ≡ big_endian_from l.value (drop l.octet-index (take 4 l.bytes)))
