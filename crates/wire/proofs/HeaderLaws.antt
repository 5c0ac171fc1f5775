-- Laws of the Ethernet header: the ways that the code goes.
use mathlib.Core.Path.{◌≡◌, refl}
use mathlib.Core.Bool.{Bool, true, false, ◌&&◌, cond}
use mathlib.Core.List.{List}
use Prim.Native.Nat.{ℕ, ◌+◌, ◌-◌, ◌≤◌, ◌<◌}
use native.Mathlib.Omega.{arith}
use borrow.Author.Tests.{leb-true, le-leb, lt-leb, eq-eqb, ne_eqb}
use lib.Dec.{eqb, leb}
use lib.ListN.{length}
use Rattle.std.proofs.Common.{Option, Some, None}
use Rattle.wire.specs.declared.header.Apdu.{Apdu}
use Rattle.wire.specs.declared.header.Header.{Header}
use Rattle.wire.specs.Number.{pair_at}
use Rattle.wire.specs.Header.{appid_at, apdu_of, with_source, header}

pub appid_range : (octets : List ℕ) → (14 ≤ appid_at octets) × (appid_at octets ≤ 18)
unfolding appid_at
appid_range octets = go (eqb (pair_at octets 12) 0x8100)
  where
    go : (b : Bool) → (14 ≤ cond b 18 14) × (cond b 18 14 ≤ 18)
    go true = (omega arith, omega arith)
    go false = (omega arith, omega arith)

module _ (type : ℕ) (octets : List ℕ) {at : ℕ} (e : at ≡ appid_at octets) where
  pub apdu_short : length octets < at + 8 → apdu_of type octets ≡ None
  unfolding apdu_of
  apdu_short h = rw (← e, lt-leb (at + 8) (length octets) h)

  module _ (there : at + 8 ≤ length octets) {found : ℕ} (f : found ≡ pair_at octets (at - 2)) where
    pub apdu_other : (found ≡ type → ⊥) → apdu_of type octets ≡ None
    unfolding apdu_of
    apdu_other n = rw (← e, le-leb (at + 8) (length octets) there, ← f, ne_eqb found type n)

    module _ (same : found ≡ type) {len : ℕ} (l : len ≡ pair_at octets (at + 2)) where
      pub apdu_small : len < 8 → apdu_of type octets ≡ None
      unfolding apdu_of
      apdu_small h = rw (← e, le-leb (at + 8) (length octets) there, ← f, eq-eqb found type same, ← l, lt-leb 8 len h)

      pub apdu_past : 8 ≤ len → length octets < at + len → apdu_of type octets ≡ None
      unfolding apdu_of
      apdu_past h g = rw (← e, le-leb (at + 8) (length octets) there, ← f, eq-eqb found type same, ← l, le-leb 8 len h, lt-leb (at + len) (length octets) g)

      pub apdu_is : 8 ≤ len → at + len ≤ length octets → apdu_of type octets ≡ Some (record { start = at + 8; end = at + len })
      unfolding apdu_of
      apdu_is h g = rw (← e, le-leb (at + 8) (length octets) there, ← f, eq-eqb found type same, ← l, le-leb 8 len h, le-leb (at + len) (length octets) g)

-- an APDU does not end before it starts, and ends within the frame
pub apdu_within :
    (type : ℕ) (octets : List ℕ) {h : Header} → header type octets ≡ Some h → (h.apdu.start ≤ h.apdu.end) × (h.apdu.end ≤ length octets)
unfolding header apdu_of
apdu_within type octets {h} e = inner (apdu_of type octets) refl e
  where
    at : ℕ
    at = appid_at octets

    len : ℕ
    len = pair_at octets (at + 2)

    from : (a b c d : Bool) (x : Apdu) → leb 8 len ≡ c → leb (at + len) (length octets) ≡ d
        → cond (a && b && c && d) (Some (record { start = at + 8; end = at + len })) None ≡ Some x → (x.start ≤ x.end) × (x.end ≤ length octets)
    from true true true true x q r p =
        let s : at + 8 ≡ x.start = cc in
        let f : at + len ≡ x.end = cc in
        (omega (arith, leb-true 8 len q), omega (arith, leb-true (at + len) (length octets) r))
    from true true true false x q r p = absurd (cc)
    from true true false d x q r p = absurd (cc)
    from true false c d x q r p = absurd (cc)
    from false b c d x q r p = absurd (cc)

    inner : (x : Option Apdu) → apdu_of type octets ≡ x → with_source octets x ≡ Some h → (h.apdu.start ≤ h.apdu.end) × (h.apdu.end ≤ length octets)
    inner (Some x) q p =
        let s : x.start ≡ h.apdu.start = cc in
        let f : x.end ≡ h.apdu.end = cc in
        let w = from (leb (at + 8) (length octets)) (eqb (pair_at octets (at - 2)) type) (leb 8 len) (leb (at + len) (length octets)) x refl refl q in
        (omega (arith, w.0), omega (arith, w.1))
    inner None q p = absurd (cc)
