-- The rows of numbers of the readers' answers are injective.
use mathlib.Core.Path.{◌≡◌, refl, ap}
use Prim.Native.Nat.{ℕ}
use Rattle.std.proofs.Common.{Option, Some, None, Result, Ok, Err}
use Rattle.records.proofs.RowLaws.{error_row_injective}
use Rattle.records.specs.declared.error.VsError.{VsError}
use Rattle.wire.specs.declared.element.Element.{Element}
use Rattle.wire.specs.declared.element.Head.{Head}
use Rattle.wire.specs.declared.element.Length.{Length}
use Rattle.wire.specs.declared.element.Part.{Part}
use Rattle.wire.specs.declared.header.Apdu.{Apdu}
use Rattle.wire.specs.Element.{length_row, head_row, element_row, part_row}
use Rattle.wire.specs.Header.{apdu_row}
use Rattle.wire.specs.Number.{unsigned_row}

pub length_row_injective : (a b : Option Length) → length_row a ≡ length_row b → a ≡ b
length_row_injective (Some l) (Some k) e =
    let p : l.octets ≡ k.octets = cc in
    let q : l.value ≡ k.value = cc in
    λ i. Some (record { octets = p i; value = q i })
length_row_injective (Some l) None e = cc
length_row_injective None (Some k) e = cc
length_row_injective None None e = refl

pub element_row_injective : (a b : Option Element) → element_row a ≡ element_row b → a ≡ b
element_row_injective (Some x) (Some y) e =
    let p : x.tag ≡ y.tag = cc in
    let q : x.start ≡ y.start = cc in
    let r : x.len ≡ y.len = cc in
    let s : x.end ≡ y.end = cc in
    λ i. Some (record { tag = p i; start = q i; len = r i; end = s i })
element_row_injective (Some x) None e = cc
element_row_injective None (Some y) e = cc
element_row_injective None None e = refl

pub head_row_injective : (a b : Option Head) → head_row a ≡ head_row b → a ≡ b
head_row_injective (Some h) (Some g) e =
    let p : h.tag ≡ g.tag = cc in
    let q : h.start ≡ g.start = cc in
    let r : h.len ≡ g.len = cc in
    λ i. Some (record { tag = p i; start = q i; len = r i })
head_row_injective (Some h) None e = cc
head_row_injective None (Some g) e = cc
head_row_injective None None e = refl

pub part_row_injective : (a b : Result (Option Part) VsError) → part_row a ≡ part_row b → a ≡ b
part_row_injective (Ok (Some p)) (Ok (Some q)) e =
    let u : p.start ≡ q.start = cc in
    let v : p.len ≡ q.len = cc in
    λ i. Ok (Some (record { start = u i; len = v i }))
part_row_injective (Ok (Some p)) (Ok None) e = cc
part_row_injective (Ok (Some p)) (Err y) e = cc
part_row_injective (Ok None) (Ok (Some q)) e = cc
part_row_injective (Ok None) (Ok None) e = refl
part_row_injective (Ok None) (Err y) e = cc
part_row_injective (Err x) (Ok (Some q)) e = cc
part_row_injective (Err x) (Ok None) e = cc
part_row_injective (Err x) (Err y) e = ap Err (error_row_injective x y e)

pub unsigned_row_injective : (a b : Option ℕ) → unsigned_row a ≡ unsigned_row b → a ≡ b
unsigned_row_injective (Some v) (Some w) e = cc
unsigned_row_injective (Some v) None e = cc
unsigned_row_injective None (Some w) e = cc
unsigned_row_injective None None e = refl

pub apdu_row_injective : (a b : Option Apdu) → apdu_row a ≡ apdu_row b → a ≡ b
apdu_row_injective (Some x) (Some y) e =
    let p : x.start ≡ y.start = cc in
    let q : x.end ≡ y.end = cc in
    λ i. Some (record { start = p i; end = q i })
apdu_row_injective (Some x) None e = cc
apdu_row_injective None (Some y) e = cc
apdu_row_injective None None e = refl
