-- Tables under keys that are mapped to their own, as names to their ten words: such a table holds the list that its history leaves remembered and answers as
-- that list. So, for answers that tell values apart, two histories leave tables that answer alike exactly when they leave equal lists remembered,
-- and others are told apart by at most sixteen frames. For histories of any length.
use Rattle.std.proofs.Common.{◌≡◌, ℕ, ◌<◌, ◌≤◌, ◌≢◌, ◌↔◌, List, [], ◌∷◌, reverse, length, sym, refl, ◌∙◌}
use mathlib.Core.List.{foldl}
use mathlib.Core.Option.{Option}
use Rattle.records.proofs.ByLastUse.{touch, by_last_use}
use Rattle.records.proofs.Distinguish.{outputs, answers, Observable, Legal, left, equal_answers, distinguish_histories, unequal_answers}
use Rattle.records.proofs.KeyedLists.{All, all_weaker, all_take, all_without}
use Rattle.records.specs.Remembered.{lookup, without, after, remembered}
use Rattle.tables.proofs.MappedKeys.{mapped, lookup_mapped, without_mapped, touch_mapped}
use Rattle.tables.proofs.RankTable.{Table, rank, Represents, represents_none, value_lookup, next, represents_stepped}
use Rattle.tables.specs.Table.{value_of}

-- an injective map into the keys of a table
pub record KeyMap (J : Type 0) {K W : Type 0} (B : Table K W) : Type 1 where
  pub decide : Discrete J
  pub decide_key : Discrete K
  pub key : J → K
  pub Legal : J → Type 0
  pub legal : (j : J) → Legal j → B.Legal (key j)
  pub injective : (j k : J) → Legal j → Legal k → key j ≡ key k → j ≡ k

module _ {J K W : Type 0} {B : Table K W} (N : KeyMap J B) where
  -- the table represents the list with its keys mapped
  pub record Holds (t : B.State) (l : List (J × W)) : Type 0 where
    pub represents : Represents B t (mapped N.key l)
    pub legal : All (λ e. N.Legal e.0) l

  pub holds_none : (t : B.State) → B.Sized t → ((i : ℕ) → i < 16 → rank B t i ≡ 16) → Holds t []
  holds_none t z e = record { represents = represents_none B t z e; legal = tt }

  -- what the table has of a key is what the list has
  pub value_held : {t : B.State} {l : List (J × W)} → Holds t l → (j : J) → N.Legal j → value_of B.columns t (N.key j) ≡ lookup N.decide j l
  value_held {l = l} r j g =
      value_lookup B N.decide_key r.represents (N.key j) (N.legal j g)
      ∙ lookup_mapped N.decide N.decide_key N.key N.Legal N.injective j g l r.legal

  -- an entry forgotten goes from the list
  pub holds_forgotten : {t u : B.State} {l : List (J × W)} → Holds t l → (j : J) → N.Legal j
      → Represents B u (without N.decide_key (N.key j) (mapped N.key l)) → Holds u (without N.decide j l)
  holds_forgotten {l = l} r j g u = record {
    represents = rw (← without_mapped N.decide N.decide_key N.key N.Legal N.injective j g l r.legal) u;
    legal = all_without N.decide (λ e. N.Legal e.0) j l r.legal;
  }

module _ {J K W I : Type 0} {B : Table K W} (N : KeyMap J B) (fresh : I → W) (step : W → I → W) where
  -- the table after a frame, a key and its input
  abbrev pub after_frame : B.State → J × I → B.State
  after_frame t x = next B fresh step t (N.key x.0, x.1)

  pub holds_after : {t : B.State} {l : List (J × W)} → Holds N t l → (x : J × I) → N.Legal x.0
      → Holds N (after_frame t x) (touch N.decide 16 fresh step l x)
  holds_after {l = l} r x g = record {
    represents = rw (← touch_mapped N.decide N.decide_key N.key N.Legal N.injective 16 fresh step l x r.legal g)
        (represents_stepped B fresh step N.decide_key r.represents (N.key x.0, x.1) (N.legal x.0 g));
    legal =
        all_take (λ e. N.Legal e.0) 16 ((x.0, after fresh step (lookup N.decide x.0 l) x.1) ∷ without N.decide x.0 l)
        (g, all_without N.decide (λ e. N.Legal e.0) x.0 l r.legal);
  }

  pub holds_history : {t : B.State} {l : List (J × W)} → Holds N t l → (h : List (J × I)) → All (λ x. N.Legal x.0) h
      → Holds N (foldl after_frame t h) (foldl (touch N.decide 16 fresh step) l h)
  holds_history r [] g = r
  holds_history {t = t} {l = l} r (x ∷ h) g = holds_history {t = after_frame t x} {l = touch N.decide 16 fresh step l x} (holds_after r x g.0) h g.1

  -- from a table without entries, frames leave what their history leaves remembered
  pub holds_remembered : (t : B.State) → B.Sized t → ((i : ℕ) → i < 16 → rank B t i ≡ 16) → (h : List (J × I)) → All (λ x. N.Legal x.0) h
      → Holds N (foldl after_frame t h) (remembered N.decide 16 fresh step (reverse h))
  holds_remembered t z e h g = rw (← by_last_use N.decide 16 fresh step h) (holds_history (holds_none N t z e) h g)

module _ {J K W I A : Type 0} {B : Table K W} (N : KeyMap J B) (fresh : I → W) (step : W → I → W) (ans : Option W → I → A) where
  -- the answers to frames, each from what the table has of its key
  abbrev pub table_answers : B.State → List (J × I) → List A
  table_answers = outputs (λ t x. ans (value_of B.columns t (N.key x.0)) x.1) (after_frame N fresh step)

  -- a table answers as the list that it holds
  pub table_answers_lem : {t : B.State} {l : List (J × W)} → Holds N t l → (f : List (J × I)) → All (λ x. N.Legal x.0) f
      → table_answers t f ≡ answers N.decide 16 fresh step ans l f
  table_answers_lem r [] g = refl
  table_answers_lem {t = t} {l = l} r (x ∷ f) g =
      rw (
        value_held N r x.0 g.0,
        table_answers_lem {t = after_frame N fresh step t x} {l = touch N.decide 16 fresh step l x} (holds_after N fresh step r x g.0) f g.1,
      )

-- from a table without entries, for answers that tell values apart
module _ {J K W I A : Type 0} {B : Table K W} (N : KeyMap J B) (fresh : I → W) (step : W → I → W) (ans : Option W → I → A)
    (O : Observable N.decide 16 fresh step ans) (legal : (j : J) → O.Key j → N.Legal j)
    (t : B.State) (z : B.Sized t) (e : (i : ℕ) → i < 16 → rank B t i ≡ 16) where
  -- the answers to further frames after a history
  abbrev pub answers_after : List (J × I) → List (J × I) → List A
  answers_after h = table_answers N fresh step ans (foldl (after_frame N fresh step) t h)

  -- they are those of the list that the history leaves remembered
  pub answers_remembered : (h f : List (J × I)) → All (Legal O) h → All (Legal O) f → answers_after h f ≡ answers N.decide 16 fresh step ans (left O h) f
  answers_remembered h f g g' = table_answers_lem N fresh step ans (holds_remembered N fresh step t z e h (keys h g)) f (keys f g')
    where
      keys : (h : List (J × I)) → All (Legal O) h → All (λ x. N.Legal x.0) h
      keys = all_weaker (Legal O) (λ x. N.Legal x.0) (λ x g. legal x.0 g.0)

  module _ (h h' : List (J × I)) (g : All (Legal O) h) (g' : All (Legal O) h') where
    -- equal lists remembered exactly when all further frames are answered alike
    pub equal_lists_answer_alike : (left O h ≡ left O h') ↔ ((f : List (J × I)) → All (Legal O) f → answers_after h f ≡ answers_after h' f)
    equal_lists_answer_alike = (
      λ q f a. answers_remembered h f g a ∙ (equal_answers O h h' g g').0 q f a ∙ sym (answers_remembered h' f g' a),
      λ same. (equal_answers O h h' g g').1 (λ f a. sym (answers_remembered h f g a) ∙ same f a ∙ answers_remembered h' f g' a),
    )

    -- unequal lists are told apart by at most sixteen further frames
    pub unequal_lists_told_apart : left O h ≢ left O h'
        → (f : List (J × I)) × All (Legal O) f × (length f ≤ 16) × (answers_after h f ≢ answers_after h' f)
    unequal_lists_told_apart n =
        let r = unequal_answers O (distinguish_histories O h h' g g' n) in
        (r.0, r.1, r.2, λ q. r.3 (sym (answers_remembered h r.0 g r.1) ∙ q ∙ answers_remembered h' r.0 g' r.1))
