-- `padded` meets its contract. The invariant: the places passed are written.
use Rattle.std.proofs.Common.{◌≡◌, ℕ, ◌<◌, List, [], ◌∷◌, get_or, replicate, sym, refl, ap, ◌∙◌, arith, le-ltb, lt-ltb}
use Rattle.records.specs.Name.{padded}
use Rattle.records.specs.Octets.{tabulate, overwritten}
use Rattle.records.proofs.Booleans.{cond_yes, cond_no}
use Rattle.records.proofs.NameLaws.{tabulate_at, overwritten_more, overwritten_whole}
use Rattle.records.proofs.name.padded.Goals as goal
use Rattle.records.proofs.name.padded.Goals.{then-i-len, else-i-len}

-- a place of the table is its own number
abbrev places : List ℕ
places =
    0 ∷ 1 ∷ 2 ∷ 3 ∷ 4 ∷ 5 ∷ 6 ∷ 7 ∷ 8 ∷ 9 ∷ 10 ∷ 11 ∷ 12 ∷ 13 ∷ 14 ∷ 15 ∷ 16 ∷ 17 ∷ 18 ∷ 19 ∷ 20 ∷ 21 ∷ 22 ∷ 23 ∷ 24 ∷ 25 ∷ 26 ∷ 27 ∷ 28 ∷ 29 ∷ 30 ∷ 31
    ∷ 32 ∷ 33 ∷ 34 ∷ 35 ∷ 36 ∷ 37 ∷ 38 ∷ 39 ∷ 40 ∷ 41 ∷ 42 ∷ 43 ∷ 44 ∷ 45 ∷ 46 ∷ 47
    ∷ 48 ∷ 49 ∷ 50 ∷ 51 ∷ 52 ∷ 53 ∷ 54 ∷ 55 ∷ 56 ∷ 57 ∷ 58 ∷ 59 ∷ 60 ∷ 61 ∷ 62 ∷ 63 ∷ []

places-counted : places ≡ tabulate (λ k. k) 64
unfolding tabulate
places-counted = refl

place_at_lem : (i : ℕ) → i < 64 → get_or places i 0 ≡ i
place_at_lem i h = ap (λ (l : List ℕ). get_or l i 0) places-counted ∙ tabulate_at (λ k. k) 64 i 0 h

pub loop-i-init : goal.loop-i-init
unfolding overwritten
loop-i-init c = refl

pub loop-i-preserved : goal.loop-i-preserved
loop-i-preserved c = let l = c.loop-i in
    let e = place_at_lem l.i (omega arith) in
    overwritten_more (replicate 64 0) _ 0 l.i l.invariant (omega arith)
    (elim c.if-i-len.branch [
      | then-i-len w ↦ w.out-is ∙ sym (cond_yes _ _ (lt-ltb _ _ (rw e at w.if-i-len.true)))
      | else-i-len w ↦ w.out-is ∙ sym (cond_no _ _ (le-ltb _ _ (rw e at w.if-i-len.false)))
    ])

pub returns : goal.returns
unfolding padded
returns c = let l = c.loop-i in
    let e : l.i ≡ 64 = omega arith in
    (rw e at l.invariant) ∙ overwritten_whole (replicate 64 0) _ 64 refl
