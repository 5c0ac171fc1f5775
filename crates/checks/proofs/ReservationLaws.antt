-- Laws of reservations: the first use of one and a later, and a client's slots freed.
use Prim.Native.Nat.{ℕ, ◌+◌, ◌<◌}
use mathlib.Core.Bool.{Bool, true, false, not, cond}
use mathlib.Core.List.{List}
use mathlib.Core.Path.{◌≡◌, sym, ap, ◌∙◌}
use native.Mathlib.Omega.{arith}
use borrow.Author.Tests.{eq-eqb, ne_eqb}
use lib.Dec.{eqb}
use lib.ListN.{set}
use Rattle.records.proofs.Booleans.{cond_yes, cond_no}
use Rattle.tables.proofs.OrderLaws.{rank_below}
use Rattle.tables.proofs.PackedLaws.{packed_same}
use Rattle.tables.specs.Column.{word_of, word_set}
use Rattle.tables.specs.Order.{rank_of, reranked}
use Rattle.tables.specs.Packed.{packed}
use Rattle.checks.specs.Reservation.{owned_by}
use Rattle.checks.specs.Reservation.{freed_rank, all_freed, bound_at}

-- ---- the use of a reservation

module _ (t : List ℕ) (i address : ℕ) {bound : ℕ} (b : bound ≡ word_of t 178 i) where
  pub bind_first : {u v : List ℕ} → bound ≡ 0 → u ≡ word_set t 178 i 1 → v ≡ word_set u 194 i address
      → record { table = v; hijack = false } ≡ bound_at t i address
  unfolding bound_at
  bind_first e p q =
      (λ j. record { table = (q ∙ ap (λ (l : List ℕ). word_set l 194 i address) p) j; hijack = false })
      ∙ sym (cond_yes _ _ (eq-eqb (word_of t 178 i) 0 (sym b ∙ e)))

  pub bound_already : {a : ℕ} → (bound ≡ 0 → ⊥) → a ≡ word_of t 194 i → record { table = t; hijack = not (eqb a address) } ≡ bound_at t i address
  unfolding bound_at
  bound_already n q = (λ j. record { table = t; hijack = not (eqb (q j) address) }) ∙ sym (cond_no _ _ (ne_eqb (word_of t 178 i) 0 (λ e. n (b ∙ e))))

-- ---- a client's slots freed

-- the rank of a slot after it is an octet
pub freed_octet : (t : List ℕ) (client i : ℕ) → freed_rank t client i < 256
freed_octet t client i = go (owned_by t client i)
  where
    go : (b : Bool) → cond b 16 (rank_of t i) < 256
    go true = omega arith
    go false = omega (arith, rank_below t i)

-- both words, of eight slots each
pub all_freed_lem : (t : List ℕ) (client : ℕ) {first second : ℕ} → first ≡ packed (λ j. freed_rank t client (0 + j)) 8
    → second ≡ packed (λ j. freed_rank t client (8 + j)) 8 → set (set t 0 first) 1 second ≡ all_freed t client
unfolding all_freed reranked
all_freed_lem t client p q =
    rw (p ∙ packed_same (λ j. freed_rank t client (0 + j)) (freed_rank t client) 8 (λ j l. ap (freed_rank t client) (omega arith)), q)
