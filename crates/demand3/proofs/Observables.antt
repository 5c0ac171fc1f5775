-- What tells remembered values apart: for each list the legal keys and inputs, and an input to which two different values answer differently.
use Prim.Native.Nat.{ℕ, zero, suc, ◌≤◌, ◌<◌, ◌^◌, ◌-◌}
use mathlib.Core.Bool.{Bool, true, false, ◌&&◌, cond, false≢true}
use mathlib.Core.List.{List, [], ◌∷◌, head-eq_of_cons-eq}
use mathlib.Core.Logic.{◌≢◌, ◌⊎◌, inl, inr}
use mathlib.Core.Option.{Option, none, some}
use mathlib.Core.Path.{◌≡◌, refl, sym, ap, ◌∙◌}
use native.Mathlib.Decide.{ℕ_discrete, dec_lt}
use native.Mathlib.Omega.{arith}
use borrow.Author.Tests.{lt-ltb, le-ltb, le-leb, lt-leb, eq-eqb, ne_eqb}
use lib.Dec.{ltb}
use lib.ListN.{get_or}
use Rattle.records.specs.declared.alert.AlertSeverity.TheVariants.{Medium}
use Rattle.records.specs.declared.alert.AlertCode.TheVariants.{SvRateAnomaly}
use Rattle.records.specs.Hash.{fnv1a}
use Rattle.records.specs.Legal.{Octets}
use Rattle.records.specs.Remembered.{after}
use Rattle.records.proofs.Booleans.{cond_holds}
use Rattle.records.proofs.Distinguish.{Observable}
use Rattle.records.proofs.OctetLaws.{octets_none}
use Rattle.tables.proofs.KeyLaws.{LegalKey}
use Rattle.checks.specs.GooseSeq.{replays}
use Rattle.checks.specs.SvSeq.{count_outcome, sv_outcome, is_replay}
use Rattle.checks.specs.TimeField.{has_clock, earlier, clock_alert}
use Rattle.inspection.specs.InspectGoose.{stream_findings}
use Rattle.inspection.specs.InspectSv.{count_findings}
use Rattle.inspection.specs.Report.{refusal}
use Rattle.demand3.specs.Demand3.{Answer, JumpLimit}
use Rattle.demand3.proofs.AnswerLaws.{answer_from}
use Rattle.demand3.proofs.MonitorTerms.{count_after, numbers_after}
use Rattle.demand3.proofs.RememberedLaws.{names≟, pairs≟, replayed}

-- ---- keys that a legal frame has

-- a name of at most 64 octets
abbrev pub Name : List ℕ → Type 0
Name = LegalKey 0

-- the number of an address
abbrev pub AddressNumber : ℕ → Type 0
AddressNumber address = address < 2 ^ 48

-- the hash of a name
pub record Hash (hash : ℕ) : Type 0 where
  pub name : List ℕ
  pub named : Name name
  pub hashes : fnv1a name ≡ hash

pub one_octet : (j : ℕ) → j < 256 → Name (j ∷ [])
one_octet j h = record { width = omega arith; short = omega arith; octets = below }
  where
    below : Octets (j ∷ [])
    below zero = h
    below (suc k) = omega arith

pub no_name : Hash (fnv1a [])
no_name = record { name = []; named = record { width = omega arith; short = omega arith; octets = octets_none }; hashes = refl }

-- ---- what may be known of a key

abbrev pub Holding : {W : Type 0} → (W → Type 0) → Option W → Type 0
Holding P none = Unit {0}
Holding P (some w) = P w

unfoldable pub first_code : Answer → ℕ
first_code a = get_or a.1 0 0

-- ---- SV streams: the larger count is a replay of itself, and of no smaller one

module _ (gap : ℕ) where
  abbrev pub sv_answer : Option ℕ → ℕ → Answer
  sv_answer o n = answer_from true [] (count_findings gap [] (sv_outcome o n))

module _ (gap : ℕ) where
  pub sv_same : (c : ℕ) → first_code (sv_answer gap (some c) c) ≡ 26
  unfolding first_code count_outcome count_findings
  sv_same c = rw (eq-eqb c c refl)

  pub sv_above : (c n : ℕ) → c < n → first_code (sv_answer gap (some c) n) ≢ 26
  unfolding first_code count_outcome count_findings
  sv_above c n h = rw (ne_eqb n c (omega arith), lt-ltb c n h) (go (ltb 0 gap && ltb gap (n - c)))
    where
      go : (b : Bool) → first_code (answer_from true [] (cond b (refusal Medium SvRateAnomaly ∷ []) [])) ≢ 26
      go true e = let z : ◌≡◌ {A = ℕ} 27 26 = e in omega arith
      go false e = let z : ◌≡◌ {A = ℕ} 0 26 = e in omega arith

  pub sv_none : (c : ℕ) → first_code (sv_answer gap none c) ≢ 26
  unfolding first_code count_findings
  sv_none c e = let z : ◌≡◌ {A = ℕ} 0 26 = e in omega arith

  -- a count that is a replay of the one value and not of the other
  pub sv_told : (o o' : Option ℕ) (n : ℕ) → first_code (sv_answer gap o n) ≡ 26 → first_code (sv_answer gap o' n) ≢ 26 → sv_answer gap o n ≢ sv_answer gap o' n
  sv_told o o' n e d q = d (ap first_code (sym q) ∙ e)

  abbrev pub Count : ℕ → Type 0
  Count n = n < 2 ^ 16

  unfoldable pub sv_separating : (o o' : Option ℕ) → Holding Count o → Holding Count o' → o ≢ o' → (n : ℕ) × Count n × (sv_answer gap o n ≢ sv_answer gap o' n)
  sv_separating none none h h' d = absurd (d refl)
  sv_separating none (some c) h h' d = (c, h', λ q. sv_told (some c) none c (sv_same c) (sv_none c) (sym q))
  sv_separating (some c) none h h' d = (c, h, sv_told (some c) none c (sv_same c) (sv_none c))
  sv_separating (some c) (some c') h h' d = go (dec_lt c c')
    where
      go : Dec (c < c') → (n : ℕ) × Count n × (sv_answer gap (some c) n ≢ sv_answer gap (some c') n)
      go (yes l) = (c', h', λ q. sv_told (some c') (some c) c' (sv_same c') (sv_above c c' l) (sym q))
      go (no l) =
          let n : c ≢ c' = λ e. d (ap {B = Option ℕ} some e) in
          (c, h, sv_told (some c) (some c') c (sv_same c) (sv_above c' c (omega arith)))

pub sv_known : (gap : ℕ) (o : Option ℕ) (i : ℕ) → Holding (Count gap) o → i < 2 ^ 16 → after (λ n. n) count_after o i < 2 ^ 16
sv_known gap none i h l = l
sv_known gap (some c) i h l = cond_holds (λ n. n < 2 ^ 16) (is_replay (count_outcome c i)) {x = c} {y = i} h l

abbrev pub sv_observable : (gap : ℕ) → Observable names≟ 16 (λ n. n) count_after (sv_answer gap)
sv_observable gap = record {
  Key = Name;
  Input = Count gap;
  Known = Holding (Count gap);
  known_none = tt;
  known_after = sv_known gap;
  separating = sv_separating gap;
  dec_w = ℕ_discrete;
  key = λ j. j ∷ [];
  key_legal = λ j h. one_octet j (omega arith);
  key_injective = λ j k e. head-eq_of_cons-eq e;
  input = 0;
  input_legal = omega arith;
}

-- ---- pairs by their first number, then the second

abbrev Less : ℕ × ℕ → ℕ × ℕ → Type 0
Less p q = (p.0 < q.0) ⊎ ((p.0 ≡ q.0) × (p.1 < q.1))

compare : (p q : ℕ × ℕ) → (p ≡ q) ⊎ (Less p q ⊎ Less q p)
compare p q = go (dec_lt p.0 q.0) (dec_lt q.0 p.0) (dec_lt p.1 q.1) (dec_lt q.1 p.1)
  where
    go : Dec (p.0 < q.0) → Dec (q.0 < p.0) → Dec (p.1 < q.1) → Dec (q.1 < p.1) → (p ≡ q) ⊎ (Less p q ⊎ Less q p)
    go (yes a) b c d = inr (inl (inl a))
    go (no a) (yes b) c d = inr (inr (inl b))
    go (no a) (no b) (yes c) d = inr (inl (inr (omega arith, c)))
    go (no a) (no b) (no c) (yes d) = inr (inr (inr (omega arith, d)))
    go (no a) (no b) (no c) (no d) = let x : p.0 ≡ q.0 = omega arith in let y : p.1 ≡ q.1 = omega arith in inl (λ i. (x i, y i))

abbrev pub Numbers : ℕ × ℕ → Type 0
Numbers p = (p.0 < 2 ^ 32) × (p.1 < 2 ^ 32)

-- ---- GOOSE streams: the larger numbers are a replay of themselves, and of no smaller ones

abbrev pub goose_answer : Option (ℕ × ℕ) → ℕ × ℕ → Answer
goose_answer o new = answer_from true [] (stream_findings (replayed o new) false)

goose_same : (p : ℕ × ℕ) → replays p p ≡ true
unfolding replays
goose_same p = rw (eq-eqb p.0 p.0 refl, le-leb p.1 p.1 (omega arith), le-ltb p.0 p.0 (omega arith))

goose_above : (q p : ℕ × ℕ) → Less q p → replays q p ≡ false
unfolding replays
goose_above q p (inl h) = rw (le-ltb p.0 q.0 (omega arith), ne_eqb p.0 q.0 (omega arith))
goose_above q p (inr h) = rw (le-ltb p.0 q.0 (omega (arith, h.0)), eq-eqb p.0 q.0 (sym h.0), lt-leb p.1 q.1 h.1)

goose_told : (o o' : Option (ℕ × ℕ)) (p : ℕ × ℕ) → replayed o p ≡ true → replayed o' p ≡ false → goose_answer o p ≢ goose_answer o' p
unfolding first_code
goose_told o o' p e e' q = let z : ◌≡◌ {A = ℕ} 3 0 = ap first_code (rw (e, e') at q) in omega arith

pub goose_separating : (o o' : Option (ℕ × ℕ)) → Holding Numbers o → Holding Numbers o' → o ≢ o'
    → (p : ℕ × ℕ) × Numbers p × (goose_answer o p ≢ goose_answer o' p)
goose_separating none none h h' d = absurd (d refl)
goose_separating none (some q) h h' d = (q, h', λ e. goose_told (some q) none q (goose_same q) refl (sym e))
goose_separating (some q) none h h' d = (q, h, goose_told (some q) none q (goose_same q) refl)
goose_separating (some p) (some q) h h' d = go (compare p q)
  where
    go : (p ≡ q) ⊎ (Less p q ⊎ Less q p) → (r : ℕ × ℕ) × Numbers r × (goose_answer (some p) r ≢ goose_answer (some q) r)
    go (inl e) = absurd (d (ap {B = Option (ℕ × ℕ)} some e))
    go (inr (inl l)) = (q, h', λ e. goose_told (some q) (some p) q (goose_same q) (goose_above p q l) (sym e))
    go (inr (inr l)) = (p, h, goose_told (some p) (some q) p (goose_same p) (goose_above q p l))

pub goose_known : (o : Option (ℕ × ℕ)) (i : ℕ × ℕ) → Holding Numbers o → Numbers i → Numbers (after (λ n. n) numbers_after o i)
goose_known none i h l = l
goose_known (some w) i h l = cond_holds Numbers (replays w i) {x = w} {y = i} h l

abbrev pub goose_observable : Observable pairs≟ 16 (λ n. n) numbers_after goose_answer
goose_observable = record {
  Key = λ k. AddressNumber k.0 × Hash k.1;
  Input = Numbers;
  Known = Holding Numbers;
  known_none = tt;
  known_after = goose_known;
  separating = goose_separating;
  dec_w = pairs≟;
  key = λ j. (j, fnv1a []);
  key_legal = λ j h. (omega arith, no_name);
  key_injective = λ j k e. ap (λ (x : ℕ × ℕ). x.0) e;
  input = (0, 0);
  input_legal = (omega arith, omega arith);
}

-- ---- clocks: an earlier pair alerts, the pair itself does not; (0, 1), which only the absent pair is earlier than, alerts limit + 1 seconds ahead

module _ (limit : ℕ) (least : 1 ≤ limit) where
  clock_same : (p : ℕ × ℕ) → clock_alert limit (some p) p ≡ false
  unfolding earlier
  clock_same p =
      rw (
        eq-eqb p.0 p.0 refl,
        le-ltb p.1 p.1 (omega arith),
        le-ltb p.0 p.0 (omega arith),
        lt-ltb 0 limit (omega arith),
        le-ltb limit (p.0 - p.0) (omega arith),
      )

  clock_earlier : (q p : ℕ × ℕ) → Less p q → clock_alert limit (some q) p ≡ true
  unfolding earlier
  clock_earlier q p (inl h) = rw (lt-ltb p.0 q.0 h)
  clock_earlier q p (inr h) = rw (le-ltb p.0 q.0 (omega (arith, h.0)), eq-eqb p.0 q.0 h.0, lt-ltb p.1 q.1 h.1)

  clock_ahead : (q : ℕ × ℕ) → q.0 ≡ 0 → clock_alert limit (some q) (suc limit, 0) ≡ true
  unfolding earlier
  clock_ahead q e =
      rw (
        le-ltb (suc limit) q.0 (omega arith),
        ne_eqb (suc limit) q.0 (omega arith),
        lt-ltb 0 limit (omega arith),
        lt-ltb limit (suc limit - q.0) (omega arith),
      )

-- a pair that is checked and kept
abbrev pub Pair : ℕ × ℕ → Type 0
Pair p = (p.0 < 2 ^ 32) × (p.1 < 2 ^ 32) × (has_clock p ≡ true)

has_seconds : (a b : ℕ) → 0 < a → has_clock (a, b) ≡ true
unfolding has_clock
has_seconds a b h = rw (ne_eqb a 0 (omega arith))

pub has_fraction : has_clock (0, 1) ≡ true
unfolding has_clock
has_fraction = refl

pub clock_known : (o : Option (ℕ × ℕ)) (i : ℕ × ℕ) → Holding Pair o → Pair i → Pair (after (λ p. p) (λ kept p. p) o i)
clock_known none i h l = l
clock_known (some w) i h l = l

module _ (limit : ℕ) (range : JumpLimit limit) where
  -- a pair at which a kept one alerts
  alerting : (q : ℕ × ℕ) → Pair q → (p : ℕ × ℕ) × Pair p × (clock_alert limit (some q) p ≡ true)
  alerting q h = go (dec_lt 0 q.0) (dec_lt 1 q.1)
    where
      go : Dec (0 < q.0) → Dec (1 < q.1) → (p : ℕ × ℕ) × Pair p × (clock_alert limit (some q) p ≡ true)
      go (yes a) b = ((0, 1), (omega arith, omega arith, has_fraction), clock_earlier limit range.0 q (0, 1) (inl a))
      go (no a) (yes b) = ((0, 1), (omega arith, omega arith, has_fraction), clock_earlier limit range.0 q (0, 1) (inr (omega arith, b)))
      go (no a) (no b) = ((suc limit, 0), (omega arith, omega arith, has_seconds (suc limit) 0 (omega arith)), clock_ahead limit range.0 q (omega arith))

  pub clock_separating : (o o' : Option (ℕ × ℕ)) → Holding Pair o → Holding Pair o' → o ≢ o'
      → (p : ℕ × ℕ) × Pair p × (clock_alert limit o p ≢ clock_alert limit o' p)
  clock_separating none none h h' d = absurd (d refl)
  clock_separating none (some q) h h' d = let r = alerting q h' in (r.0, r.1, λ e. false≢true (e ∙ r.2))
  clock_separating (some q) none h h' d = let r = alerting q h in (r.0, r.1, λ e. false≢true (sym e ∙ r.2))
  clock_separating (some p) (some q) h h' d = go (compare p q)
    where
      go : (p ≡ q) ⊎ (Less p q ⊎ Less q p) → (r : ℕ × ℕ) × Pair r × (clock_alert limit (some p) r ≢ clock_alert limit (some q) r)
      go (inl e) = absurd (d (ap {B = Option (ℕ × ℕ)} some e))
      go (inr (inl l)) = (p, h, λ e. false≢true (sym (clock_same limit range.0 p) ∙ e ∙ clock_earlier limit range.0 q p l))
      go (inr (inr l)) = (q, h', λ e. false≢true (sym (clock_same limit range.0 q) ∙ sym e ∙ clock_earlier limit range.0 p q l))

  abbrev pub clock_observable : Observable ℕ_discrete 16 (λ p. p) (λ kept p. p) (clock_alert limit)
  clock_observable = record {
    Key = AddressNumber;
    Input = Pair;
    Known = Holding Pair;
    known_none = tt;
    known_after = clock_known;
    separating = clock_separating;
    dec_w = pairs≟;
    key = λ j. j;
    key_legal = λ j h. omega arith;
    key_injective = λ j k e. e;
    input = (0, 1);
    input_legal = (omega arith, omega arith, has_fraction);
  }
