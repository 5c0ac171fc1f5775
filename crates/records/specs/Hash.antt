-- FNV-1a, 32 bits, as published: offset basis 811C9DC5, prime 01000193.
use Rattle.std.specs.Prelude.{ℕ, ◌*◌, ◌%◌, ◌^◌, List, [], ◌∷◌, bit_xor}

-- the hash after one more octet: the octet xored in, then times the prime, modulo 2^32
unfoldable pub hash_step : ℕ → ℕ → ℕ
hash_step h octet = bit_xor octet h * 0x01000193 % 2 ^ 32

-- the hash after more octets, one by one
unfoldable pub hash_from : ℕ → List ℕ → ℕ
hash_from h [] = h
hash_from h (octet ∷ rest) = hash_from (hash_step h octet) rest

-- the hash of some octets
unfoldable pub fnv1a : List ℕ → ℕ
fnv1a octets = hash_from 0x811C9DC5 octets
