-- The first length octet by cases: a test of all 256 first octets, which the checker computes, and the rule that follows from it.
use mathlib.Core.Path.{◌≡◌, refl, sym, subst, ap, ◌∙◌}
use mathlib.Core.Bool.{Bool, true, not, ◌&&◌, cond}
use mathlib.Core.List.{List, [], ◌∷◌}
use mathlib.Core.Logic.{⊎_elim}
use Prim.Native.Nat.{ℕ, zero, suc, ◌-◌, ◌≤◌, ◌<◌}
use native.Mathlib.Nat.{not-suc-le-zero, le_of_suc-le-suc, eq-or-lt_of_le}
use native.Mathlib.Omega.{arith}
use borrow.Author.Tests.{ltb-true, eqb-true, not-true, le-leb}
use lib.Dec.{eqb, ltb, leb}
use lib.ListN.{length, drop}
use Rattle.records.proofs.Booleans.{cond_yes, and_both, and_yes}
use Rattle.records.specs.Octets.{octet_at}
use Rattle.std.proofs.Common.{None}
use Rattle.wire.specs.Element.{long_form, length_of}
use Rattle.wire.specs.LengthCases.{LengthCase, short, indefinite, long, remainder, first_octets, fits, further_octets, read_as, LengthByCases}

-- a test passes at each number below n
abbrev all_below : ℕ → (ℕ → Bool) → Bool
all_below zero test = true
all_below (suc n) test = test n && all_below n test

at_number : (n : ℕ) (test : ℕ → Bool) → all_below n test ≡ true → (k : ℕ) → k < n → test k ≡ true
at_number zero test e k h = absurd (not-suc-le-zero h)
at_number (suc n) test e k h =
    let b = and_both (test n) (all_below n test) e in
    ⊎_elim (λ q. subst (λ (m : ℕ). test m ≡ true) (sym q) b.0) (λ l. at_number n test b.1 k l) (eq-or-lt_of_le (le_of_suc-le-suc h))

-- the number of a case in the order of the request, so that `eqb` compares cases
abbrev place : LengthCase → ℕ
place short = 0
place indefinite = 1
place long = 2
place remainder = 3

abbrev case_at : ℕ → LengthCase
case_at zero = short
case_at (suc zero) = indefinite
case_at (suc (suc zero)) = long
case_at (suc (suc (suc n))) = remainder

case_back : (c : LengthCase) → case_at (place c) ≡ c
case_back short = refl
case_back indefinite = refl
case_back long = refl
case_back remainder = refl

-- a test passes at each case
abbrev all_cases : (LengthCase → Bool) → Bool
all_cases test = all_below 4 (λ k. test (case_at k))

at_case : (test : LengthCase → Bool) → all_cases test ≡ true → (c : LengthCase) → test c ≡ true
at_case test e short = at_number 4 (λ k. test (case_at k)) e 0 (omega arith)
at_case test e indefinite = at_number 4 (λ k. test (case_at k)) e 1 (omega arith)
at_case test e long = at_number 4 (λ k. test (case_at k)) e 2 (omega arith)
at_case test e remainder = at_number 4 (λ k. test (case_at k)) e 3 (omega arith)

-- the case that the code's `match` takes: the first of three that fits, else the remainder
abbrev taken : ℕ → LengthCase
taken first = cond (fits short first) short (cond (fits indefinite first) indefinite (cond (fits long first) long remainder))

-- the tests of `length_of` on a first octet: below 80, and one to four further octets
abbrev is_short : ℕ → Bool
is_short first = ltb first 0x80

abbrev is_long : ℕ → Bool
is_long first = leb 1 (first - 0x80) && leb (first - 0x80) 4

-- they come out as the case needs them
abbrev agrees : LengthCase → ℕ → Bool
agrees short first = is_short first
agrees indefinite first = not (is_short first) && not (is_long first)
agrees long first = not (is_short first) && is_long first
agrees remainder first = not (is_short first) && not (is_long first)

-- a case that fits is the one that is taken
abbrev only : ℕ → LengthCase → Bool
only first c = cond (fits c first) (eqb (place c) (place (taken first))) true

-- the case that is taken fits and agrees, and no other fits
abbrev right : ℕ → Bool
right first = fits (taken first) first && agrees (taken first) first && all_cases (only first)

-- computed for all 256
all_right : all_below 256 right ≡ true
all_right = refl

-- a case that agrees reads or refuses as `length_of` does
module _ (first : ℕ) (further : List ℕ) where
  refused_alike : not (is_short first) && not (is_long first) ≡ true → None ≡ length_of (first ∷ further)
  unfolding long_form length_of
  refused_alike e =
      let s = and_both (not (is_short first)) (not (is_long first)) e in
      rw (not-true (is_short first) s.0, not-true (is_long first) s.1)

  reads_alike : (c : LengthCase) → agrees c first ≡ true → read_as c first further ≡ length_of (first ∷ further)
  unfolding further_octets long_form length_of
  reads_alike short e = rw e
  reads_alike indefinite e = refused_alike e
  reads_alike long e =
      let s = and_both (not (is_short first)) (is_long first) e in
      rw (not-true (is_short first) s.0, s.1)
  reads_alike remainder e = refused_alike e

only_taken : (first : ℕ) → all_cases (only first) ≡ true → (c : LengthCase) → fits c first ≡ true → c ≡ taken first
only_taken first e c f =
    let s = sym (cond_yes _ true f) ∙ at_case (only first) e c in
    sym (case_back c) ∙ ap case_at (eqb-true (place c) (place (taken first)) s) ∙ case_back (taken first)

pub length_by_cases : LengthByCases
length_by_cases first h =
    let r = and_both (fits (taken first) first && agrees (taken first) first) (all_cases (only first)) (at_number 256 right all_right first h) in
    let t = and_both (fits (taken first) first) (agrees (taken first) first) r.0 in
    (taken first, t.0, only_taken first r.1, λ further. reads_alike first further (taken first) t.1)

-- length octets whose first fits a case are read or refused as that case does
pub length_by :
    (c : LengthCase) (octets : List ℕ) → 0 < length octets → (first_octets c).0 ≤ octet_at octets 0 → octet_at octets 0 ≤ (first_octets c).1
    → read_as c (octet_at octets 0) (drop 1 octets) ≡ length_of octets
length_by c [] h l g = absurd (not-suc-le-zero h)
length_by c (first ∷ further) h l g =
    let below = ltb-true (first_octets c).1 256 (at_case (λ d. ltb (first_octets d).1 256) refl c) in
    let one = length_by_cases first (omega arith) in
    let this = one.2 c (and_yes (le-leb (first_octets c).0 first l) (le-leb first (first_octets c).1 g)) in
    subst (λ (d : LengthCase). read_as d first further ≡ length_of (first ∷ further)) (sym this) (one.3 further)
