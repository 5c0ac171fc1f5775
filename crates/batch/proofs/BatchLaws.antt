-- Laws of many SV frames in one call: how far the records reach, and one more frame.
use Prim.Native.Nat.{ℕ, zero, suc, ◌+◌, ◌-◌, ◌*◌, ◌≤◌}
use mathlib.Core.List.{List}
use mathlib.Core.Path.{◌≡◌, refl, ap, ◌∙◌}
use native.Mathlib.Numerals.{add-one}
use native.Mathlib.Omega.{arith}
use lib.ListN.{length, take, drop}
use Rattle.records.specs.Octets.{octet_at, overwritten}
use Rattle.records.proofs.NameLaws.{length_overwritten}
use Rattle.records.specs.declared.result.InspectResult.{InspectResult}
use Rattle.monitor.specs.Monitor.{Monitor}
use Rattle.monitor.specs.Parts.{After}
use Rattle.inspection.specs.InspectSv.{inspect_sv}
use Rattle.inspection.specs.Report.{with_verdict}
use Rattle.lent.specs.Sv.{sv_frame_of}
use Rattle.batch.specs.Batch.{frame_at, verdict_put, sv_after, sv_verdicts}

-- past the last frame, all of them are inspected
pub all_passed : {i n count : ℕ} → i ≤ n → n ≤ i → n ≡ count → i ≡ count
all_passed a b e = omega arith

-- a record as the code cuts it out
abbrev pub cut : List ℕ → ℕ → List ℕ
cut frames i = take (i * 160 + 160 - i * 160) (drop (i * 160) frames)

cut_length : (i : ℕ) → i * 160 + 160 - i * 160 ≡ 160
cut_length i = omega arith

cut_frame : (frames : List ℕ) (i : ℕ) → sv_frame_of (cut frames i) ≡ frame_at frames i
cut_frame frames i = ap (λ (n : ℕ). sv_frame_of (take n (drop (i * 160) frames))) (cut_length i)

module _ (m : Monitor) (frames : List ℕ) where
  pub none_after : m ≡ sv_after m frames 0
  unfolding sv_after
  none_after = refl

  module _ (octets : List ℕ) where
    pub no_verdicts : octets ≡ sv_verdicts m frames octets 0
    unfolding sv_verdicts
    no_verdicts = refl

    pub length_verdicts : (n : ℕ) → length (sv_verdicts m frames octets n) ≡ length octets
    unfolding sv_verdicts
    length_verdicts zero = refl
    length_verdicts (suc n) = length_overwritten (sv_verdicts m frames octets n) _ (n * 8) 8 ∙ length_verdicts n

  -- one more frame, inspected on the monitor that the ones before it left
  module _
      (n : ℕ) (octets : List ℕ) {before after : Monitor} {verdicts put : List ℕ}
      (a : before ≡ sv_after m frames n)
      (v : verdicts ≡ sv_verdicts m frames octets n)
      (e : record { monitor = after; answer = put } ≡ verdict_put verdicts (n * 8) (inspect_sv before (sv_frame_of (cut frames n))))
    where
      inspected :
          record { monitor = after; answer = put }
          ≡ verdict_put (sv_verdicts m frames octets n) (n * 8) (inspect_sv (sv_after m frames n) (frame_at frames n))
      inspected = e ∙ (λ i. verdict_put (v i) (n * 8) (inspect_sv (a i) (cut_frame frames n i)))

      pub after_more : after ≡ sv_after m frames (n + 1)
      unfolding sv_after
      after_more = rw add-one (ap (λ (x : After (List ℕ)). x.monitor) inspected)

      pub verdicts_more : put ≡ sv_verdicts m frames octets (n + 1)
      unfolding sv_verdicts
      verdicts_more = rw add-one (ap (λ (x : After (List ℕ)). x.answer) inspected)

-- a verdict put from a place on
pub verdict_put_lem :
    (octets : List ℕ) (at : ℕ) (i : After InspectResult) {m : Monitor} {verdict put : List ℕ}
    → record { monitor = m; answer = verdict } ≡ with_verdict i → put ≡ overwritten octets at (octet_at verdict) 8
    → record { monitor = m; answer = put } ≡ verdict_put octets at i
verdict_put_lem octets at i {m} e p =
    (λ k. record { monitor = m; answer = p k })
    ∙ ap (λ (x : After (List ℕ)). record { monitor = x.monitor; answer = overwritten octets at (octet_at x.answer) 8 }) e
