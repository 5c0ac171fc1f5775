-- The theory at one table: names, each with the latest number seen beside it, and answers that tell it. Two frames leave another list in the other
-- order, and at most sixteen frames tell which it was.
use Rattle.std.proofs.Common.{◌≡◌, ℕ, zero, suc, ◌≤◌, ◌≢◌, List, [], ◌∷◌, length, get_or, ap, arith}
use mathlib.Core.List.{head-eq_of_cons-eq}
use mathlib.Core.Option.{Option}
use native.Mathlib.Decide.{ℕ_discrete}
use Rattle.records.proofs.Distinguish.{Observable, Legal, left}
use Rattle.records.proofs.KeyedLists.{All}
use Rattle.records.specs.Decide.{decide_list}
use Rattle.records.specs.Legal.{Octets}
use Rattle.tables.proofs.KeyedTables.{answers_after, unequal_lists_told_apart}
use Rattle.tables.proofs.KeyLaws.{LegalKey}
use Rattle.tables.proofs.KeyMaps.{by_name}
use Rattle.tables.proofs.WordTables.{one_laws, length_none, rank_none}
use Rattle.tables.specs.Order.{no_entries}

-- names of one octet
octet : (j : ℕ) → j ≤ 255 → Octets (j ∷ [])
octet j h zero = omega arith
octet j h (suc k) = omega arith

pub name : (j : ℕ) → j ≤ 255 → LegalKey 0 (j ∷ [])
name j h = record { width = omega arith; short = omega arith; octets = octet j h }

-- a frame is answered by the number that is known of its name, and leaves its own
abbrev pub latest : Observable (decide_list ℕ_discrete) 16 (λ (i : ℕ). i) (λ w i. i) (λ (known : Option ℕ) i. known)
latest =
    record {
      Key = LegalKey 0;
      Input = λ i. Unit {0};
      Known = λ o. Unit {0};
      known_none = tt;
      known_after = λ o i k g. tt;
      separating = λ o o' k k' n. (0, tt, n);
      dec_w = ℕ_discrete;
      key = λ j. j ∷ [];
      key_legal = λ j h. name j (omega arith);
      key_injective = λ j k e. head-eq_of_cons-eq e;
      input = 0;
      input_legal = tt;
    }

-- names 97 and 98, in either order
abbrev pub one : List (List ℕ × ℕ)
one = (97 ∷ [], 1) ∷ (98 ∷ [], 2) ∷ []

abbrev pub other : List (List ℕ × ℕ)
other = (98 ∷ [], 2) ∷ (97 ∷ [], 1) ∷ []

-- the octet of the latest name
abbrev latest_name : List (List ℕ × ℕ) → ℕ
latest_name [] = 0
latest_name (e ∷ l) = get_or e.0 0 0

unequal : left latest one ≢ left latest other
unfolding decide_list
unequal q = let e : ◌≡◌ {A = ℕ} 98 97 = ap latest_name q in omega arith

pub told_apart :
    (f : List (List ℕ × ℕ)) × All (Legal latest) f × (length f ≤ 16)
    × (answers_after (by_name one_laws 0) (λ i. i) (λ w i. i) (λ known i. known) latest (λ j g. g) (no_entries 178) (length_none 178)
    (rank_none 178 (omega arith)) one f
    ≢ answers_after (by_name one_laws 0) (λ i. i) (λ w i. i) (λ known i. known) latest (λ j g. g) (no_entries 178) (length_none 178)
    (rank_none 178 (omega arith)) other f)
told_apart =
    unequal_lists_told_apart (by_name one_laws 0) (λ i. i) (λ w i. i) (λ known i. known) latest (λ j g. g) (no_entries 178) (length_none 178)
    (rank_none 178 (omega arith))
    one other
    ((name 97 (omega arith), tt), ((name 98 (omega arith), tt), tt))
    ((name 98 (omega arith), tt), ((name 97 (omega arith), tt), tt))
    unequal
