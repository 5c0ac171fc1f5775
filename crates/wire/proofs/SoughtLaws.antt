-- Laws of what is sought, by the answer to the search; places, and what stands there: for every reader of a frame format.
use mathlib.Core.Path.{◌≡◌, refl, sym, ◌∙◌, ap}
use mathlib.Core.Bool.{Bool, true, false, cond}
use mathlib.Core.List.{List, [], ◌∷◌}
use Prim.Native.Nat.{ℕ, zero, suc, ◌+◌, ◌-◌, ◌≤◌}
use native.Mathlib.Omega.{arith}
use lib.Dec.{eqb}
use lib.ListN.{length, take, drop, length-take, length-drop}
use lib.Seq.{take-length, drop-drop}
use Rattle.records.proofs.Booleans.{cond_holds}
use Rattle.records.specs.declared.error.VsError.{VsError}
use Rattle.records.specs.declared.error.VsError.TheVariants.{InvalidInput}
use Rattle.std.proofs.Common.{Option, Some, None, Result, Ok, Err}
use Rattle.wire.specs.declared.element.Element.{Element}
use Rattle.wire.specs.declared.element.Part.{Part}
use Rattle.wire.specs.Element.{element, Elements, ended, failed, next, element_then, elements_then, elements_of, elements}
use Rattle.wire.specs.Element.{Sought, first_content, content_of, opened}
use Rattle.wire.specs.Element.{content_place, opened_place, first_place, part_of, PartWithin}
use Rattle.wire.proofs.ElementLaws.{element_end, Any, FoundOr}

-- an answer that is no part
abbrev pub NoPart : Result (Option Part) VsError → Type 0
NoPart r = (start len : ℕ) → r ≡ Ok (Some (record { start = start; len = len })) → ⊥

-- what is sought, by the answer to the search
module _ (octets : List ℕ) (r : Result (Option Part) VsError) {s : Sought} (e : part_of octets r ≡ s) where
  pub part_found : {start len : ℕ} → r ≡ Ok (Some (record { start = start; len = len })) → s ≡ Ok (Some (take len (drop start octets)))
  part_found q = sym e ∙ ap (part_of octets) q

  -- one that is not found is the error, for any use of it
  pub part_none :
      {T : Type 0} (then : Sought → T) → then (Ok None) ≡ then (Err InvalidInput) → FoundOr Any s → NoPart r → then (Err InvalidInput) ≡ then s
  part_none then m f n = go r s n e f
    where
      go : (r : Result (Option Part) VsError) (s : Sought) → NoPart r → part_of octets r ≡ s → FoundOr Any s → then (Err InvalidInput) ≡ then s
      go r (Ok None) n e f = sym m
      go r (Err x) n e f = ap (λ x. then (Err x)) (sym f)
      go (Ok (Some p)) (Ok (Some l)) n e f = absurd (n p.start p.len refl)
      go (Ok None) (Ok (Some l)) n e f = absurd (cc)
      go (Err x) (Ok (Some l)) n e f = absurd (cc)

-- ---- places and what stands there

module _ (tag : ℕ) where
  pub opened_part : (octets : List ℕ) → part_of octets (opened_place tag octets) ≡ opened tag octets
  unfolding opened opened_place
  opened_part [] = refl
  opened_part (o ∷ more) = go (eqb o tag) (element (o ∷ more))
    where
      go : (b : Bool) (e : Option Element)
          → part_of (o ∷ more) (cond b (content_place e) (Ok (Some (record { start = 0; len = length (o ∷ more) }))))
          ≡ cond b (content_of (o ∷ more) e) (Ok (Some (o ∷ more)))
      go true (Some x) = refl
      go true None = refl
      go false e = λ i. Ok (Some (take-length (o ∷ more) i))

  pub opened_within : (octets : List ℕ) → PartWithin (length octets) (opened_place tag octets)
  unfolding opened_place
  opened_within [] = tt
  opened_within (o ∷ more) = cond_holds (PartWithin (length (o ∷ more))) (eqb o tag) (go (element (o ∷ more)) refl) (omega arith)
    where
      go : (e : Option Element) → element (o ∷ more) ≡ e → PartWithin (length (o ∷ more)) (content_place e)
      go (Some x) k = let b = element_end (o ∷ more) k in omega (arith, b.1, b.2)
      go None k = tt

-- the contents of elements that begin at a place stand in the whole, one behind the other
module _ (whole : List ℕ) where
  abbrev pub Stands : ℕ → Elements → Type 0
  Stands at ended = Unit
  Stands at (failed e) = Unit
  Stands at (next tag head content rest) =
      (content ≡ take (length content) (drop (at + head) whole))
      × (at + head + length content ≤ length whole)
      × Stands (at + head + length content) rest

  elements_of_stand : (n at : ℕ) → at ≤ length whole → Stands at (elements_of n (drop at whole))
  unfolding elements_of
  elements_of_stand zero at h = tt
  elements_of_stand (suc n) at h = by_octets (drop at whole) refl (elements_of_stand n)
    where
      by_element : (l : List ℕ) → drop at whole ≡ l → (e : Option Element) → element l ≡ e
          → ((a : ℕ) → a ≤ length whole → Stands a (elements_of n (drop a whole))) → Stands at (element_then (elements_of n) l e)
      by_element l q None k f = tt
      by_element l q (Some x) k f = (stands, bound, follows)
        where
          inside : (2 ≤ x.end) × (x.end ≤ length l) × (x.start + x.len ≡ x.end)
          inside = element_end l k

          size : length l ≡ length whole - at
          size = ap length (sym q) ∙ length-drop at whole

          content_size : length (take x.len (drop x.start l)) ≡ x.len
          content_size = length-take x.len (drop x.start l) ∙ omega (arith, length-drop x.start l, inside.1, inside.2)

          stands : take x.len (drop x.start l) ≡ take (length (take x.len (drop x.start l))) (drop (at + x.start) whole)
          stands =
              ap (take x.len) (ap (drop x.start) (sym q) ∙ drop-drop x.start at whole)
              ∙ ap (λ (m : ℕ). take m (drop (at + x.start) whole)) (sym content_size)

          bound : at + x.start + length (take x.len (drop x.start l)) ≤ length whole
          bound = omega (arith, content_size, size, inside.1, inside.2)

          follows : Stands (at + x.start + length (take x.len (drop x.start l))) (elements_of n (drop x.end l))
          follows =
              let place : at + x.start + length (take x.len (drop x.start l)) ≡ at + x.end = omega (arith, content_size, inside.2) in
              let rest : drop x.end l ≡ drop (at + x.end) whole = ap (drop x.end) (sym q) ∙ drop-drop x.end at whole in
              rw (place, rest) (f (at + x.end) (omega (arith, size, inside.1)))

      by_octets : (l : List ℕ) → drop at whole ≡ l
          → ((a : ℕ) → a ≤ length whole → Stands a (elements_of n (drop a whole))) → Stands at (elements_then (elements_of n) l)
      by_octets [] q f = tt
      by_octets (o ∷ more) q f = by_element (o ∷ more) q (element (o ∷ more)) refl f

  pub elements_stand : Stands 0 (elements whole)
  elements_stand = elements_of_stand (length whole) 0 (omega arith)

  -- so what is found first stands at its place
  module _ (tag : ℕ) where
    first_agrees :
        (at : ℕ) (es : Elements) → Stands at es
        → (part_of whole (first_place tag at es) ≡ first_content tag es) × PartWithin (length whole) (first_place tag at es)
    unfolding first_place first_content
    first_agrees at ended s = (refl, tt)
    first_agrees at (failed e) s = (refl, tt)
    first_agrees at (next other head content rest) s = by_tag (eqb other tag) (first_agrees (at + head + length content) rest s.2)
      where
        by_tag : (b : Bool)
            → (part_of whole (first_place tag (at + head + length content) rest) ≡ first_content tag rest)
            × PartWithin (length whole) (first_place tag (at + head + length content) rest)
            → (part_of whole (cond b (Ok (Some (record { start = at + head; len = length content }))) (first_place tag (at + head + length content) rest))
            ≡ cond b (Ok (Some content)) (first_content tag rest))
            × PartWithin (length whole)
            (cond b (Ok (Some (record { start = at + head; len = length content }))) (first_place tag (at + head + length content) rest))
        by_tag true f = (ap (λ (l : List ℕ). Ok (Some l)) (sym s.0), s.1)
        by_tag false f = f

    pub first_part : part_of whole (first_place tag 0 (elements whole)) ≡ first_content tag (elements whole)
    first_part = (first_agrees 0 (elements whole) elements_stand).0

    pub first_within : PartWithin (length whole) (first_place tag 0 (elements whole))
    first_within = (first_agrees 0 (elements whole) elements_stand).1
