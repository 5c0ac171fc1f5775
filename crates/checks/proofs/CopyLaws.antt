-- Laws of a frame that comes twice with nothing between, whatever the table held: the second time its count or numbers are a replay, its clock does
-- not alert, and its control block is bound to another address exactly where it was the first time.
use Prim.Native.Nat.{ℕ, ◌+◌}
use mathlib.Core.Bool.{Bool, true, false, ◌&&◌, ◌||◌, not, cond, false≢true}
use mathlib.Core.List.{List}
use mathlib.Core.Option as maybe
use mathlib.Core.Option.{none, some}
use mathlib.Core.Path.{◌≡◌, refl, sym, ap, ◌∙◌}
use native.Mathlib.Omega.{arith}
use borrow.Author.Tests.{le-ltb, le-leb, eq-eqb}
use lib.Dec.{eqb}
use lib.ListN.{length, get_or}
use Rattle.std.specs.Prelude.{Option, Some, None}
use Rattle.records.proofs.Booleans.{cond_holds}
use Rattle.records.specs.Remembered.{after}
use Rattle.tables.proofs.PlaceLaws.{found_key}
use Rattle.tables.proofs.RankTable.{value_left}
use Rattle.tables.proofs.WordTables.{one_laws, two_laws, three_laws, named_laws, named_table, numbered_table, found_kept, word_at, word_in, word_out, length_word}
use Rattle.tables.specs.Column.{word_of, word_set}
use Rattle.tables.specs.Named.{named}
use Rattle.tables.specs.Place.{found}
use Rattle.tables.specs.Table.{value_of, stepped}
use Rattle.checks.specs.declared.sv_seq.SvSeqOutcome.{SvSeqOutcome}
use Rattle.checks.specs.declared.sv_seq.SvSeqOutcome.TheVariants.{FirstSeen, Replay, ForwardGap, CycleWrap, SuspiciousSmpGap}
use Rattle.checks.specs.GooseSeq.{goose_streams, replays, goose_replay, kept_numbers, goose_checked}
use Rattle.checks.specs.Reservation.{CbChecked, bound_at, bound_by, cb_checked}
use Rattle.checks.specs.SvSeq.{sv_streams, count_outcome, sv_outcome, is_replay, count_or, kept_count, sv_checked}
use Rattle.checks.specs.TimeField.{clocks, has_clock, clock_alert, TimeChecked, time_checked}
use Rattle.checks.proofs.SvSeqLaws.{count_same}
use Rattle.checks.proofs.TimeFieldLaws.{latest, alert_same}

-- ---- SV streams

-- only the outcome replay is one
replay_is : (o : SvSeqOutcome) → is_replay o ≡ true → o ≡ Replay
unfolding is_replay
replay_is Replay e = refl
replay_is FirstSeen e = absurd (false≢true e)
replay_is (ForwardGap gap) e = absurd (false≢true e)
replay_is CycleWrap e = absurd (false≢true e)
replay_is (SuspiciousSmpGap gap) e = absurd (false≢true e)

-- a count is a replay of what it leaves
count_replays : (o : maybe.Option ℕ) (n : ℕ) → count_outcome (after (λ i. i) kept_count o n) n ≡ Replay
count_replays none n = sym (count_same n n refl)
count_replays (some c) n = go (is_replay (count_outcome c n)) refl
  where
    go : (replay : Bool) → is_replay (count_outcome c n) ≡ replay → count_outcome (count_or replay c n) n ≡ Replay
    go true e = replay_is (count_outcome c n) e
    go false e = sym (count_same n n refl)

pub count_again : (t svid : List ℕ) (n : ℕ) → length t ≡ 178 → length svid ≡ 10 → (sv_checked (sv_checked t svid n).table svid n).outcome ≡ Replay
unfolding sv_checked
count_again t svid n z g =
    ap (λ x. sv_outcome x n) (value_left (named_table one_laws) t z svid g (λ i. i) kept_count n) ∙ count_replays (value_of sv_streams t svid) n

-- ---- GOOSE streams

-- numbers are a replay of themselves, and of what they leave
same_replays : (numbers : ℕ × ℕ) → replays numbers numbers ≡ true
unfolding replays
same_replays numbers =
    λ i. le-ltb numbers.0 numbers.0 (omega arith) i
    || (eq-eqb numbers.0 numbers.0 refl i && le-leb numbers.1 numbers.1 (omega arith) i)

numbers_replay : (o : maybe.Option ((ℕ × ℕ) × ℕ)) (new : (ℕ × ℕ) × ℕ) → replays (after (λ i. i) kept_numbers o new).0 new.0 ≡ true
numbers_replay none new = same_replays new.0
numbers_replay (some last) new = go (replays last.0 new.0) refl
  where
    go : (replay : Bool) → replays last.0 new.0 ≡ replay → replays (cond replay last new).0 new.0 ≡ true
    go true e = e
    go false e = same_replays new.0

-- at any two times
pub numbers_again : (t key : List ℕ) (numbers : ℕ × ℕ) (time time' : ℕ) → length t ≡ 210 → length key ≡ 10
    → (goose_checked (goose_checked t key (numbers, time)).table key (numbers, time')).replay ≡ true
unfolding goose_checked
numbers_again t key numbers time time' z g =
    ap (λ x. goose_replay x numbers) (value_left (named_table three_laws) t z key g (λ i. i) kept_numbers (numbers, time))
    ∙ numbers_replay (value_of goose_streams t key) (numbers, time)

-- ---- clocks

-- the check by whether the frame has a pair
abbrev checked_if : Bool → List ℕ → ℕ → ℕ → ℕ × ℕ → TimeChecked
checked_if present t limit address pair =
    cond present
    (record { table = stepped clocks (λ i. i) (λ kept i. i) t address pair; alert = clock_alert limit (value_of clocks t address) pair })
    (record { table = t; alert = false })

pub clock_again : (t : List ℕ) (limit address : ℕ) (pair : ℕ × ℕ) → length t ≡ 50
    → (time_checked (time_checked t limit address pair).table limit address pair).alert ≡ false
unfolding time_checked
clock_again t limit address pair z = go (has_clock pair)
  where
    -- a pair is neither earlier than itself nor ahead of it
    same_pair : clock_alert limit (some pair) pair ≡ false
    same_pair = sym (alert_same limit pair pair refl) ∙ le-ltb pair.1 pair.1 (omega arith)

    go : (present : Bool) → (checked_if present (checked_if present t limit address pair).table limit address pair).alert ≡ false
    go true =
        ap (λ x. clock_alert limit x pair)
        (value_left (numbered_table two_laws) t z address tt (λ i. i) (λ kept i. i) pair ∙ ap some (sym (latest pair (value_of clocks t address))))
        ∙ same_pair
    go false = refl

-- ---- reservations

-- the reservations with that of a slot bound to an address
abbrev bound : List ℕ → ℕ → ℕ → List ℕ
bound t i address = word_set (word_set t 178 i 1) 194 i address

-- a frame of the bound address is no hijack
bound_again : (t key : List ℕ) (address i : ℕ) → length t ≡ 210 → length key ≡ 10 → found named t key ≡ Some i
    → (cb_checked (bound t i address) key address).hijack ≡ false
unfolding cb_checked bound_at
bound_again t key address i z g f =
    let l = (found_key named t key (sym f) refl).0 in
    let marked = word_set t 178 i 1 in
    let u = bound t i address in
    let y : length marked ≡ 210 = length_word t i l 178 1 ∙ z in
    let out : (x : ℕ) → (x ≡ 194 + i → ⊥) → get_or u x 0 ≡ get_or marked x 0 = word_out marked i l 194 address in
    let mark : word_of u 178 i ≡ 1 = word_at u i l 178 ∙ out (178 + i) (λ q. omega arith) ∙ word_in t i l 178 1 (omega arith) in
    let source : word_of u 194 i ≡ address = word_at u i l 194 ∙ word_in marked i l 194 address (omega arith) in
    let here = found_kept named named_laws key g t u (omega arith) (omega (arith, length_word marked i l 194 address)) (λ x h.
    out x (λ q. omega arith) ∙ word_out t i l 178 1 x (λ q. omega arith)) f in
    rw (here, mark, source, eq-eqb address address refl) (cond_holds (λ (c : CbChecked). c.hijack ≡ false) (eqb (get_or key 1 0) 0) refl refl)

pub use_again : (t key : List ℕ) (address : ℕ) → length t ≡ 210 → length key ≡ 10
    → (cb_checked (cb_checked t key address).table key address).hijack ≡ (cb_checked t key address).hijack
unfolding cb_checked bound_at
use_again t key address z g = go (eqb (get_or key 1 0) 0) refl (found named t key) refl
  where
    Same : CbChecked → Type 0
    Same c = (cb_checked c.table key address).hijack ≡ c.hijack

    used : (i : ℕ) → eqb (get_or key 1 0) 0 ≡ false → found named t key ≡ Some i → (unbound : Bool) → eqb (word_of t 178 i) 0 ≡ unbound
        → Same (cond unbound (record { table = bound t i address; hijack = false }) (record { table = t; hijack = not (eqb (word_of t 194 i) address) }))
    used i e f true u = bound_again t key address i z g f
    used i e f false u = rw (e, f, u)

    go : (empty : Bool) → eqb (get_or key 1 0) 0 ≡ empty → (f : Option ℕ) → found named t key ≡ f
        → Same (cond empty (record { table = t; hijack = false }) (bound_by t address f))
    go true e f q = rw e
    go false e None q = rw (e, q)
    go false e (Some i) q = used i e q (eqb (word_of t 178 i) 0) refl
