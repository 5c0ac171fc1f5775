-- `fnv1a_32` meets its contract. The invariant: the hash of the octets that are left, from h on, is the whole hash.
use Rattle.std.proofs.Common.{◌≡◌, drop}
use Rattle.records.specs.Hash.{hash_from, fnv1a}
use Rattle.records.proofs.hash.fnv1a_32.Given as goal

abbrev pub invariant-loop-byte : goal.invariant-loop-byte
invariant-loop-byte l = fnv1a l.bytes ≡ hash_from l.h (drop l.byte-index l.bytes)
