-- Source addresses (01, "SV frame": the source address, six octets).
use Rattle.std.specs.Prelude.{ℕ, ◌+◌, ◌*◌, ◌^◌, List}
use Rattle.records.specs.Octets.{octet_at}

-- an address as a number of 48 bits, the first octet most significant (IEEE 802, EUI-48)
unfoldable pub address_of : List ℕ → ℕ
address_of mac =
    octet_at mac 0 * 2 ^ 40 + octet_at mac 1 * 2 ^ 32 + octet_at mac 2 * 2 ^ 24 + octet_at mac 3 * 2 ^ 16 + octet_at mac 4 * 2 ^ 8 + octet_at mac 5
