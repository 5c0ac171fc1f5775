-- The key maps of the tables of words: numbers and names to their ten words, names alone where all have one number, and numbers as they are.
use Rattle.std.proofs.Common.{◌≡◌, ℕ, List, length, refl, arith}
use mathlib.Core.List.{head-eq_of_cons-eq, tail-eq_of_cons-eq}
use native.Mathlib.Decide.{ℕ_discrete}
use Rattle.records.proofs.NameLaws.{length_tabulate}
use Rattle.records.specs.Decide.{decide_pair, decide_list}
use Rattle.tables.proofs.KeyedTables.{KeyMap}
use Rattle.tables.proofs.KeyLaws.{LegalKey, key_injective}
use Rattle.tables.proofs.WordTables.{EncodingLaws, named_table, numbered_table}
use Rattle.tables.specs.Key.{name_word, key_of, two_number_key}
use Rattle.tables.specs.WordTable.{Encoding}

pub key_words : (number : ℕ) (name : List ℕ) → length (key_of number name) ≡ 10
unfolding key_of
key_words number name = omega (arith, length_tabulate (name_word name) 8)

module _ {W : Type 0} {encoding : Encoding W} (E : EncodingLaws encoding) where
  -- a number and a name
  abbrev pub by_number_and_name : KeyMap (ℕ × List ℕ) (named_table E)
  by_number_and_name =
      record {
        decide = decide_pair ℕ_discrete (decide_list ℕ_discrete);
        decide_key = decide_list ℕ_discrete;
        key = λ k. key_of k.0 k.1;
        Legal = λ k. LegalKey k.0 k.1;
        legal = λ k g. key_words k.0 k.1;
        injective = λ j k g g' e. let q = key_injective j.0 k.0 j.1 k.1 g g' e in λ i. (q.0 i, q.1 i);
      }

  -- a name, all with this number
  abbrev pub by_name : (number : ℕ) → KeyMap (List ℕ) (named_table E)
  by_name number =
      record {
        decide = decide_list ℕ_discrete;
        decide_key = decide_list ℕ_discrete;
        key = key_of number;
        Legal = LegalKey number;
        legal = λ name g. key_words number name;
        injective = λ a b g g' e. (key_injective number number a b g g' e).1;
      }

  -- two numbers, as an address and a hash, in the first two words
  abbrev pub by_two_numbers : KeyMap (ℕ × ℕ) (named_table E)
  by_two_numbers =
      record {
        decide = decide_pair ℕ_discrete ℕ_discrete;
        decide_key = decide_list ℕ_discrete;
        key = λ k. two_number_key k.0 k.1;
        Legal = λ k. Unit {0};
        legal = λ k g. refl;
        injective = λ j k g g' e. let p = head-eq_of_cons-eq e in let q = head-eq_of_cons-eq (tail-eq_of_cons-eq e) in λ i. (p i, q i);
      }

  -- a number
  abbrev pub by_number : KeyMap ℕ (numbered_table E)
  by_number =
      record {
        decide = ℕ_discrete;
        decide_key = ℕ_discrete;
        key = λ k. k;
        Legal = λ k. Unit {0};
        legal = λ k g. tt;
        injective = λ j k g g' e. e;
      }
