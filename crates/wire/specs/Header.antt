-- The Ethernet header (01, "SV frame"): destination, source, one 802.1Q tag or none, EtherType, APPID, length, two reserved pairs.
use Rattle.std.specs.Prelude.{ℕ, ◌+◌, ◌-◌, ◌&&◌, cond, List, [], ◌∷◌, eqb, leb, length, Option, Some, None}
use Rattle.records.specs.declared.error.VsError.TheVariants.{InvalidInput}
use Rattle.records.specs.Octets.{tabulate, octet_at}
use Rattle.records.specs.Row.{error_row}
use Rattle.wire.specs.declared.header.Apdu.{Apdu}
use Rattle.wire.specs.declared.header.Header.{Header}
use Rattle.wire.specs.Number.{pair_at}

-- the APDU's place as a row: 1, where it starts and where it ends, or error 9
abbrev pub apdu_row : Option Apdu → List ℕ
apdu_row (Some a) = 1 ∷ a.start ∷ a.end ∷ []
apdu_row None = error_row InvalidInput

-- EtherTypes: sampled values, and an 802.1Q tag
abbrev pub ethertype_sv : ℕ
ethertype_sv = 0x88BA

abbrev pub ethertype_vlan : ℕ
ethertype_vlan = 0x8100

-- APPID follows the EtherType, which one 802.1Q tag (81 00 and two octets) may precede
unfoldable pub appid_at : List ℕ → ℕ
appid_at octets = cond (eqb (pair_at octets 12) ethertype_vlan) 18 14

-- 8 octets from APPID on are there, which no frame of fewer than 14 has; the length is 8 or more, counted from APPID, and within the frame; what
-- follows is padding
abbrev pub apdu_from : ℕ → ℕ → ℕ → List ℕ → Option Apdu
apdu_from type at len octets =
    cond (leb (at + 8) (length octets) && eqb (pair_at octets (at - 2)) type && leb 8 len && leb (at + len) (length octets))
    (Some (record { start = at + 8; end = at + len })) None

-- where the APDU of a frame of this EtherType starts and ends, or refused
unfoldable pub apdu_of : ℕ → List ℕ → Option Apdu
apdu_of type octets = apdu_from type (appid_at octets) (pair_at octets (appid_at octets + 2)) octets

-- the source address, octets 6 to 11
unfoldable pub source_of : List ℕ → List ℕ
source_of octets = tabulate (λ k. octet_at octets (6 + k)) 6

-- the source address beside an APDU
abbrev pub with_source : List ℕ → Option Apdu → Option Header
with_source octets (Some a) = Some (record { src_mac = source_of octets; apdu = a })
with_source octets None = None

-- the source address and where the APDU starts and ends, or refused
unfoldable pub header : ℕ → List ℕ → Option Header
header type octets = with_source octets (apdu_of type octets)
