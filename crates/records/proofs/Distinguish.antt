-- Two lists by last use are equal exactly when they answer all further frames equally: unequal ones are distinguished by at most n frames,
-- new keys until the first place at which they differ is the last, then a key of which they have different values up to there.
use Rattle.std.proofs.Common.{◌≡◌, ℕ, zero, suc, ◌+◌, ◌-◌, ◌<◌, ◌≤◌, ◌≢◌, ◌↔◌, List, [], ◌∷◌, ◌++◌, reverse, length, take, refl, arith, length-append, length-take, take_all, take-take}
use mathlib.Core.HLevel.{×_discrete}
use mathlib.Core.List.{foldl, List-discrete, head-eq_of_cons-eq, tail-eq_of_cons-eq}
use mathlib.Core.Logic.Dec
use mathlib.Core.Logic.{by_cases, if_pos, if_neg}
use mathlib.Core.Option.{Option, none, some}
use Rattle.records.proofs.ByLastUse.{touch, touch_distinct, by_last_use}
use Rattle.records.proofs.KeyedLists.{All, Distinct, all_take, all_append, all_without, without_absent, absent_none, absent_key, lookup_tails}
use Rattle.records.proofs.KeyedLists.{difference}
use Rattle.records.specs.Remembered.{lookup, after, remembered}

-- the outputs of a machine, each of its input and of the state that the inputs before it left
abbrev pub outputs : {S X A : Type 0} → (S → X → A) → (S → X → S) → S → List X → List A
outputs out move s [] = []
outputs out move s (x ∷ h) = out s x ∷ outputs out move (move s x) h

pub outputs_last : {S X A : Type 0} (out : S → X → A) (move : S → X → S) (s s' : S) (h : List X) (x : X)
    → outputs out move s (h ++ x ∷ []) ≡ outputs out move s' (h ++ x ∷ []) → out (foldl move s h) x ≡ out (foldl move s' h) x
outputs_last out move s s' [] x e = head-eq_of_cons-eq e
outputs_last out move s s' (y ∷ h) x e = outputs_last out move (move s y) (move s' y) h x (tail-eq_of_cons-eq e)

module _ {K W I A : Type 0} (dec : Discrete K) where
  -- the answer to a frame, from what the list has of its key
  abbrev pub answer : (Option W → I → A) → List (K × W) → K × I → A
  answer ans l x = ans (lookup dec x.0 l) x.1

  abbrev pub answers : ℕ → (I → W) → (W → I → W) → (Option W → I → A) → List (K × W) → List (K × I) → List A
  answers n fresh step ans = outputs (answer ans) (touch dec n fresh step)

-- what makes unequal lists distinguishable: the legal keys and inputs, what may be known of a key, an input to which any two such are answered
-- differently, and more new keys than two lists have entries
pub record Observable {K W I A : Type 0} (dec : Discrete K) (n : ℕ) (fresh : I → W) (step : W → I → W) (ans : Option W → I → A) : Type 1 where
  pub Key : K → Type 0
  pub Input : I → Type 0
  pub Known : Option W → Type 0
  pub known_none : Known none
  pub known_after : (o : Option W) (i : I) → Known o → Input i → Known (some (after fresh step o i))
  pub separating : (o o' : Option W) → Known o → Known o' → o ≢ o' → (i : I) × Input i × (ans o i ≢ ans o' i)
  pub dec_w : Discrete W
  pub key : ℕ → K
  pub key_legal : (j : ℕ) → j ≤ n + n → Key (key j)
  pub key_injective : (j k : ℕ) → key j ≡ key k → j ≡ k
  pub input : I
  pub input_legal : Input input

module _ {K W I A : Type 0} {dec : Discrete K} {n : ℕ} {fresh : I → W} {step : W → I → W} {ans : Option W → I → A} (O : Observable dec n fresh step ans) where
  abbrev pub Legal : K × I → Type 0
  Legal x = O.Key x.0 × O.Input x.1

  abbrev pub LegalEntry : K × W → Type 0
  LegalEntry e = O.Key e.0 × O.Known (some e.1)

  -- what legal frames leave of a list
  pub record Valid (l : List (K × W)) : Type 0 where
    pub distinct : Distinct l
    pub short : length l ≤ n
    pub legal : All LegalEntry l

  pub known_lookup : (k : K) (l : List (K × W)) → All LegalEntry l → O.Known (lookup dec k l)
  known_lookup k [] a = O.known_none
  known_lookup k (e ∷ l) a = by_cases (dec k e.0) (λ p. rw if_pos a.0.1) (λ p. rw if_neg (known_lookup k l a.1))

  pub valid_touch : {l : List (K × W)} → Valid l → (x : K × I) → Legal x → Valid (touch dec n fresh step l x)
  valid_touch {l} v x g = record {
    distinct = touch_distinct dec n fresh step l x v.distinct;
    short = simp length-take (omega arith);
    legal = all_take _ n _ ((g.0, O.known_after _ x.1 (known_lookup x.0 l v.legal) g.1), all_without dec _ x.0 l v.legal);
  }

  pub valid_history : {l : List (K × W)} → Valid l → (h : List (K × I)) → All Legal h → Valid (foldl (touch dec n fresh step) l h)
  valid_history v [] g = v
  valid_history {l = l} v (x ∷ h) g = valid_history {l = touch dec n fresh step l x} (valid_touch v x g.0) h g.1

  -- fewer than b frames, and one that is answered differently after them
  pub record Distinguished (b : ℕ) (l l' : List (K × W)) : Type 0 where
    pub fillers : List (K × I)
    pub last : K × I
    pub short : length fillers < b
    pub legal : All Legal fillers
    pub legal_last : Legal last
    pub differ : answer dec ans (foldl (touch dec n fresh step) l fillers) last ≢ answer dec ans (foldl (touch dec n fresh step) l' fillers) last

  -- lists that differ in what their first m entries have of a key: each frame of a new key adds an entry to these, until they are all n
  unfoldable pub distinguished : (d b m : ℕ) {l l' : List (K × W)} → Valid l → Valid l' → (k : K) → O.Key k → d < b → m + d ≡ n
      → lookup dec k (take m l) ≢ lookup dec k (take m l') → Distinguished b l l'
  distinguished zero b m {l} {l'} v v' k g h e c =
      let s = O.separating (lookup dec k l) (lookup dec k l') (known_lookup k l v.legal) (known_lookup k l' v'.legal)
      (λ q. c (rw (take_all m l (omega arith), take_all m l' (omega arith)) q)) in
      record { fillers = []; last = (k, s.0); short = omega arith; legal = tt; legal_last = (g, s.1); differ = s.2 }
  distinguished (suc d) b m {l} {l'} v v' k g h e c =
      let j = absent_key dec O.key O.key_injective (suc (n + n)) (l ++ l') (simp length-append (omega arith)) in
      let x : K × I = (O.key j.0, O.input) in
      let gx : Legal x = (O.key_legal j.0 (omega (arith, j.1)), O.input_legal) in
      let a = (all_append _ l l').0 (absent_none dec x.0 (l ++ l') j.2) in
      let w : suc m ≤ n = omega arith in
      let r = distinguished d (b - 1) (suc m) (valid_touch v x gx) (valid_touch v' x gx) k g (omega arith) (omega arith)
      (λ q. c (lookup_tails dec k m _ _ l l' refl a.0 a.1
      (simp (take-take, without_absent dec x.0 l a.0, without_absent dec x.0 l' a.1) at q))) in
      record { fillers = x ∷ r.fillers; last = r.last; short = omega arith; legal = (gx, r.legal); legal_last = r.legal_last; differ = r.differ }

  unfoldable pub distinguish : {l l' : List (K × W)} → Valid l → Valid l' → l ≢ l' → Distinguished n l l'
  distinguish {l} {l'} v v' c =
      let r = difference dec O.dec_w LegalEntry l l' v.legal v'.legal v.distinct v'.distinct c in
      distinguished (n - suc r.place) n (suc r.place) v v' r.entry.0 r.holds.0 (omega arith) (omega arith) r.differ

  -- so at most n frames get unequal answers
  pub unequal_answers : {l l' : List (K × W)} → Distinguished n l l'
      → (f : List (K × I)) × All Legal f × (length f ≤ n) × (answers dec n fresh step ans l f ≢ answers dec n fresh step ans l' f)
  unequal_answers {l} {l'} r = (
    r.fillers ++ r.last ∷ [],
    (all_append _ r.fillers _).1 (r.legal, (r.legal_last, tt)),
    simp length-append (omega arith),
    λ q. r.differ (outputs_last _ _ l l' r.fillers r.last q),
  )

  -- what a history, its earliest frame first, leaves remembered
  abbrev pub left : List (K × I) → List (K × W)
  left h = remembered dec n fresh step (reverse h)

  module _ (h h' : List (K × I)) (g : All Legal h) (g' : All Legal h') where
    unfoldable pub distinguish_histories : left h ≢ left h' → Distinguished n (left h) (left h')
    distinguish_histories = distinguish (valid h g) (valid h' g')
      where
        valid : (h : List (K × I)) → All Legal h → Valid (left h)
        valid h g = rw (← by_last_use dec n fresh step h) (valid_history (record { distinct = tt; short = omega arith; legal = tt }) h g)

    -- two histories leave equal lists remembered exactly when all further frames get equal answers
    pub equal_answers : (left h ≡ left h')
        ↔ ((f : List (K × I)) → All Legal f → answers dec n fresh step ans (left h) f ≡ answers dec n fresh step ans (left h') f)
    equal_answers = (
      λ q f a. rw q,
      λ same. (Dec.not-not (List-discrete (×_discrete dec O.dec_w) (left h) (left h'))).0
          (λ c. let r = unequal_answers (distinguish_histories c) in r.3 (same r.0 r.1)),
    )
