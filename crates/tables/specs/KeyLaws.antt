-- Both kinds of key keep to the laws of keys: a slot that has a key is not changed by storing it.
use Rattle.std.specs.Prelude.{◌≡◌, ℕ, ◌+◌, ◌*◌, ◌<◌, true, eqb, ltb, List, get_or, set}
use Rattle.std.proofs.Common.{sym, ap, ◌∙◌, lt-ltb, eqb-true, arith}
use Rattle.std.proofs.Math.Seq.{set-get_or}
use Rattle.records.proofs.Booleans.{cond_yes, and_both}
use Rattle.records.proofs.NameLaws.{agree_at, overwritten_again}
use Rattle.records.specs.Octets.{overwritten}
use Rattle.tables.specs.Column.{word_set}
use Rattle.tables.specs.Named.{has_key, key_stored, named}
use Rattle.tables.specs.Numbered.{has_number, number_stored, numbered}
use Rattle.tables.specs.Place.{KeyLaws}

-- what a slot that has a key tells
module _ (start : ℕ) (t key : List ℕ) (slot : ℕ) (e : has_key start t key slot ≡ true) where
  pub record HasKey : Type 0 where
    pub sum : get_or t (start + slot) 0 ≡ get_or key 0 0
    pub size : get_or t (start + 16 + slot) 0 ≡ get_or key 1 0
    pub word : (k : ℕ) → k < 8 → get_or t (start + 32 + slot * 8 + k) 0 ≡ get_or key (k + 2) 0

  pub has_key_lem : HasKey
  unfolding has_key
  has_key_lem =
      let a = and_both (eqb (get_or t (start + slot) 0) (get_or key 0 0)) _ (and_both (ltb slot 16) _ e).1 in
      let b = and_both (eqb (get_or t (start + 16 + slot) 0) (get_or key 1 0)) _ a.1 in
      record {
        sum = eqb-true (get_or t (start + slot) 0) (get_or key 0 0) a.0;
        size = eqb-true (get_or t (start + 16 + slot) 0) (get_or key 1 0) b.0;
        word = agree_at _ _ 8 b.1;
      }

  -- storing the key changes nothing
  pub key_again : slot < 16 → key_stored start t slot key ≡ t
  unfolding key_stored
  key_again h =
      let n = ap (λ (v : ℕ). set t (start + slot) v) (sym has_key_lem.sum) ∙ set-get_or t (start + slot) 0 in
      let l = ap (λ (v : ℕ). set t (start + 16 + slot) v) (sym has_key_lem.size) ∙ set-get_or t (start + 16 + slot) 0 in
      cond_yes _ _ (lt-ltb slot 16 h)
      ∙ ap (λ (u : List ℕ). overwritten (set u (start + 16 + slot) (get_or key 1 0)) (start + 32 + slot * 8) (λ k. get_or key (k + 2) 0) 8) n
      ∙ ap (λ (u : List ℕ). overwritten u (start + 32 + slot * 8) (λ k. get_or key (k + 2) 0) 8) l
      ∙ overwritten_again t (start + 32 + slot * 8) (λ k. get_or key (k + 2) 0) 8 has_key_lem.word

pub named_key_laws : KeyLaws named
named_key_laws = record { behind_ranks = omega arith; again = λ t k i h e. key_again 2 t k i e h }

pub number_again : (t : List ℕ) (number i : ℕ) → i < 16 → has_number t number i ≡ true → number_stored t i number ≡ t
unfolding word_set
number_again t number i h e =
    cond_yes _ _ (lt-ltb i 16 h) ∙ ap (λ (v : ℕ). set t (2 + i) v) (sym (eqb-true (get_or t (2 + i) 0) number e)) ∙ set-get_or t (2 + i) 0

pub numbered_key_laws : KeyLaws numbered
numbered_key_laws = record { behind_ranks = omega arith; again = λ t k i h e. number_again t k i h e }
