-- `store_name` meets its contract.
use Rattle.std.proofs.Common.{◌≡◌, ◌+◌, ◌-◌, length, get_or, ap, ◌∙◌, arith}
use Rattle.tables.proofs.NamedLaws.{words_written, words_from}
use Rattle.tables.proofs.named.store_name.Goals as goal

pub returns : goal.returns
returns c = let a = c.args in
    let n : a.start + 8 - a.start ≡ 8 = omega arith in
    let q = words_from a.key.now 2 8 (omega arith) in
    let e = c.copy_from_slice.ensures.after in
    rw n (words_written _ _ _ 8 _ (omega arith) (ap length e ∙ q.0) (λ k h. ap (λ l. get_or l k 0) e ∙ q.1 k h ∙ ap (λ i. get_or a.key.now i 0) (omega arith)))
