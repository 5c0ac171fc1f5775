-- The four tables that give up their oldest entry: from no entries, frames of any number leave in each what their history leaves remembered.
use Prim.Native.Nat.{ℕ}
use mathlib.Core.List.{List, foldl, reverse}
use native.Mathlib.Decide.{ℕ_discrete}
use native.Mathlib.Omega.{arith}
use Rattle.records.proofs.KeyedLists.{All}
use Rattle.records.specs.Decide.{decide_list, decide_pair}
use Rattle.records.specs.Remembered.{remembered}
use Rattle.tables.proofs.KeyedTables.{Holds, holds_remembered}
use Rattle.tables.proofs.KeyLaws.{LegalKey}
use Rattle.tables.proofs.KeyMaps.{by_name, by_two_numbers, by_number}
use Rattle.tables.proofs.WordTables.{one_laws, two_laws, three_laws, length_none, rank_none}
use Rattle.tables.specs.Order.{no_entries}
use Rattle.tables.specs.Table.{stepped}
use Rattle.checks.specs.Keys.{plain_key, goose_key}
use Rattle.checks.specs.GooseSeq.{kept_numbers, goose_checked}
use Rattle.checks.specs.Rate.{new_bucket, next_bucket, rate_checked}
use Rattle.checks.specs.SvSeq.{kept_count, sv_checked}
use Rattle.checks.specs.TimeField.{clocks}

-- SV streams by svID
pub sv_remembered : (h : List (List ℕ × ℕ)) → All (λ x. LegalKey 0 x.0) h
    → Holds (by_name one_laws 0) (foldl (λ t x. (sv_checked t (plain_key x.0) x.1).table) (no_entries 178) h)
    (remembered (decide_list ℕ_discrete) 16 (λ i. i) kept_count (reverse h))
unfolding sv_checked
sv_remembered = holds_remembered (by_name one_laws 0) (λ i. i) kept_count (no_entries 178) (length_none 178) (rank_none 178 (omega arith))

-- GOOSE streams by address and hash
pub goose_remembered : (h : List ((ℕ × ℕ) × ((ℕ × ℕ) × ℕ))) → All (λ x. Unit {0}) h
    → Holds (by_two_numbers three_laws) (foldl (λ t x. (goose_checked t (goose_key x.0.0 x.0.1) x.1).table) (no_entries 210) h)
    (remembered (decide_pair ℕ_discrete ℕ_discrete) 16 (λ i. i) kept_numbers (reverse h))
unfolding goose_checked
goose_remembered = holds_remembered (by_two_numbers three_laws) (λ i. i) kept_numbers (no_entries 210) (length_none 210) (rank_none 210 (omega arith))

-- clocks by address, of the frames that have a pair
pub clocks_remembered : (h : List (ℕ × (ℕ × ℕ))) → All (λ x. Unit {0}) h
    → Holds (by_number two_laws) (foldl (λ t x. stepped clocks (λ i. i) (λ kept i. i) t x.0 x.1) (no_entries 50) h)
    (remembered ℕ_discrete 16 (λ i. i) (λ kept i. i) (reverse h))
clocks_remembered = holds_remembered (by_number two_laws) (λ i. i) (λ kept i. i) (no_entries 50) (length_none 50) (rank_none 50 (omega arith))

-- buckets by invoke id
pub buckets_remembered : (h : List (ℕ × (ℕ × ℕ))) → All (λ x. Unit {0}) h
    → Holds (by_number three_laws) (foldl (λ t x. (rate_checked t x.0 x.1.0 x.1.1).table) (no_entries 66) h)
    (remembered ℕ_discrete 16 new_bucket next_bucket (reverse h))
unfolding rate_checked
buckets_remembered = holds_remembered (by_number three_laws) new_bucket next_bucket (no_entries 66) (length_none 66) (rank_none 66 (omega arith))
