-- `bucket_at` meets its contract.
use Prim.Native.Nat.{ℕ, min}
use mathlib.Core.Path.{sym, ap, ◌∙◌}
use Rattle.tables.proofs.WordTables.{word_at}
use Rattle.checks.proofs.rate.bucket_at.Goals as goal

pub returns : goal.returns
returns c = let h = c.requires.1 in
    let t = c.narrowed.ensures ∙ ap (λ (x : ℕ). min x 65535) (sym (word_at _ _ h 18)) in
    let u = c.narrowed-2.ensures ∙ ap (λ (x : ℕ). min x 65535) (sym (word_at _ _ h 34)) in
    let v = sym (word_at _ _ h 50) in
    λ i. record { tokens = t i; capacity = u i; last_refill_us = v i }
