-- Laws of parts of a slice.
use mathlib.Core.Path.{◌≡◌, refl, ◌∙◌, ap}
use mathlib.Core.List.{List, [], ◌∷◌}
use Prim.Native.Nat.{ℕ, zero, suc, ◌+◌, ◌-◌, ◌≤◌}
use native.Mathlib.Omega.{arith}
use lib.ListN.{length, take, drop, length-drop}
use lib.Seq.{take_all, take-take, drop-drop}
use Rattle.records.proofs.OctetLaws.{octets_take, octets_drop}
use Rattle.records.specs.Legal.{Octets}

module _ (l : List ℕ) where
  pub rest-is : (end : ℕ) → take (length l - end) (drop end l) ≡ drop end l
  rest-is end = take_all (length l - end) (drop end l) (simp length-drop (omega arith))

  -- a part of a part, counted from the whole
  pub part_part : (outer total start len : ℕ) → start + len ≤ total → take len (drop start (take total (drop outer l))) ≡ take len (drop (outer + start) l)
  part_part outer total start len h = cut start total (drop outer l) h ∙ ap (take len) (drop-drop start outer l)
    where
      cut : (start total : ℕ) (l : List ℕ) → start + len ≤ total → take len (drop start (take total l)) ≡ take len (drop start l)
      cut zero total l h = take-take len total l (omega arith)
      cut (suc start) zero l h = absurd (omega arith)
      cut (suc start) (suc total) [] h = refl
      cut (suc start) (suc total) (o ∷ more) h = cut start total more (omega arith)

  pub part_octets : Octets l → (start len : ℕ) → Octets (take len (drop start l))
  part_octets o start len = octets_take (drop start l) (octets_drop l o start) len
