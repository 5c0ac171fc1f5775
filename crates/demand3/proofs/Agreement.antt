-- The claim's words agree with the monitor's definitions: what is read of a frame, which frames reach a check, and what a frame leaves.
use Prim.Native.Nat.{ℕ, ◌-◌, ◌<◌, ◌^◌}
use mathlib.Core.Bool.{Bool, true, false, ◌&&◌, not, cond}
use mathlib.Core.List.{List, [], ◌∷◌, ◌++◌}
use mathlib.Core.Path.{◌≡◌, refl, ap, ◌∙◌}
use native.Mathlib.Decide.{ℕ_discrete, dec_lt}
use native.Mathlib.Omega.{arith}
use borrow.Author.Tests.{lt-ltb, le-ltb, le-leb, lt-leb, eq-eqb, ne_eqb}
use lib.Dec.{eqb, leb}
use lib.ListN.{length, set, length-set}
use lib.Seq.{get_or-set_same}
use Rattle.records.specs.declared.frame.GooseFrame.{GooseFrame}
use Rattle.records.specs.declared.schedule.RetxSchedule.{RetxSchedule}
use Rattle.records.specs.Decide.{decide_pair, decide_list}
use Rattle.records.specs.Hash.{fnv1a}
use Rattle.records.specs.Legal.{LegalGoose}
use Rattle.checks.specs.GooseSeq.{replays}
use Rattle.checks.specs.Keys.{flag_word}
use Rattle.checks.specs.declared.sv_seq.SvSeqOutcome.TheVariants.{Replay, CycleWrap, SuspiciousSmpGap}
use Rattle.checks.specs.SvSeq.{across_wrap, count_outcome, is_replay}
use Rattle.checks.specs.TimeField.{has_clock}
use Rattle.monitor.specs.Monitor.{Monitor}
use Rattle.monitor.specs.Settings.{block_test_frames, retx_enforce, time_max_forward_jump, set_block_test_frames, set_retx_schedule, set_time_max_forward_jump}
use Rattle.inspection.specs.Address.{address_of}
use Rattle.inspection.specs.Calls.{block_test, schedule, max_forward_jump, setting_made}
use Rattle.inspection.specs.InspectGoose.{control_block, goose_numbers, goose_pair, blocked}
use Rattle.inspection.specs.InspectSv.{sv_pair}
use Rattle.demand3.specs.Demand3.{Inspection, goose, sv, Legal, address, GooseKey, goose_key, StNumSqNum, st_num_sq_num, TimePair, reaching}
use Rattle.demand3.specs.Demand3.{unless_absent, unless_blocked, replays_count, replays_numbers, pair_after, latest16, remembered_lists}
use Rattle.demand3.specs.Demand3 as claim
use Rattle.demand3.proofs.LegalLaws.{LegalOne, legal_parts}
use Rattle.demand3.proofs.MonitorTerms.{sv_reaches, goose_stream_of, goose_reaches, if_clock, clock_reaches, count_after, numbers_after, monitor_lists}

-- ---- what is read of a frame: names, numbers and pairs agree by unfolding, addresses where they have six octets

pub address_agrees : (mac : List ℕ) → length mac ≡ 6 → address mac ≡ address_of mac
unfolding address_of
address_agrees (a ∷ b ∷ c ∷ d ∷ e ∷ f ∷ []) n = omega arith
address_agrees [] n = absurd (omega (arith, n))
address_agrees (a ∷ []) n = absurd (omega (arith, n))
address_agrees (a ∷ b ∷ []) n = absurd (omega (arith, n))
address_agrees (a ∷ b ∷ c ∷ []) n = absurd (omega (arith, n))
address_agrees (a ∷ b ∷ c ∷ d ∷ []) n = absurd (omega (arith, n))
address_agrees (a ∷ b ∷ c ∷ d ∷ e ∷ []) n = absurd (omega (arith, n))
address_agrees (a ∷ b ∷ c ∷ d ∷ e ∷ f ∷ g ∷ l) n = absurd (omega (arith, n))

key_agrees : (f : GooseFrame) → LegalGoose f → goose_key f ≡ goose_stream_of f
key_agrees f g = λ i. (address_agrees f.src_mac g.source.size i, fnv1a (control_block f))

-- ---- replays

pub count_agrees : (c n : ℕ) → replays_count c n ≡ is_replay (count_outcome c n)
unfolding count_outcome is_replay
count_agrees c n = go (dec_lt c n) (dec_lt n c)
  where
    across : (f : ℕ) → false ≡ is_replay (across_wrap f)
    across f = far (leb f 256)
      where
        far : (b : Bool) → false ≡ is_replay (cond b CycleWrap (SuspiciousSmpGap f))
        far true = refl
        far false = refl

    below : (b : Bool) (f : ℕ) → b ≡ is_replay (cond b Replay (across_wrap f))
    below true f = refl
    below false f = across f

    go : Dec (c < n) → Dec (n < c) → replays_count c n ≡ is_replay (count_outcome c n)
    go (yes l) d = rw (lt-leb n c l, ne_eqb n c (omega arith), lt-ltb c n l)
    go (no l) (yes k) = rw (le-leb n c (omega arith), ne_eqb n c (omega arith), le-ltb c n (omega arith)) (below (leb (c - n) 32766) (65536 - (c - n)))
    go (no l) (no k) = let e : n ≡ c = omega arith in rw (e, le-leb c c (omega arith), eq-eqb c c refl) (le-leb (c - c) 32766 (omega arith))

pub numbers_agree : (last new : StNumSqNum) → replays_numbers last new ≡ replays last new
unfolding replays
numbers_agree last new = refl

-- ---- what a frame leaves

count_after_lem : (last new : ℕ) → claim.count_after last new ≡ count_after last new
count_after_lem last new = ap (λ (b : Bool). cond b last new) (count_agrees last new)

numbers_after_lem : (last new : StNumSqNum) → claim.numbers_after last new ≡ numbers_after last new
numbers_after_lem last new = ap (λ (b : Bool). cond b last new) (numbers_agree last new)

-- a clock keeps the new pair, which the tables store
pair_after_lem : (last new : TimePair) → pair_after last new ≡ new
pair_after_lem last new = refl

-- ---- which frames reach a check

swapped : (a b : Bool) → (a && b) ≡ (b && a)
swapped true true = refl
swapped true false = refl
swapped false true = refl
swapped false false = refl

absent_agrees : {X : Type 0} (pair : TimePair) (l : List X) → unless_absent pair l ≡ cond (has_clock pair) l []
unfolding has_clock
absent_agrees {X} pair l = go (eqb pair.0 0 && eqb pair.1 0)
  where
    go : (b : Bool) → cond {A = List X} b [] l ≡ cond (not b) l []
    go true = refl
    go false = refl

clock_agrees : (mac : List ℕ) (pair : TimePair) → length mac ≡ 6 → unless_absent pair ((address mac, pair) ∷ []) ≡ if_clock (address_of mac) pair
clock_agrees mac pair n = rw (address_agrees mac n) (absent_agrees pair ((address_of mac, pair) ∷ []))

module _ (m : Monitor) where
  blocked_agrees : {X : Type 0} (f : GooseFrame) (l : List X) → unless_blocked (block_test_frames m) f l ≡ cond (blocked m f.test) [] l
  blocked_agrees f l = ap (λ (b : Bool). cond b [] l) (swapped f.test (block_test_frames m))

  goose_agrees : (x : Inspection) → LegalOne x → claim.goose_reaches (block_test_frames m) x ≡ goose_reaches m x
  unfolding LegalOne
  goose_agrees (goose f) g =
      ap (λ (k : GooseKey). unless_blocked (block_test_frames m) f ((k, st_num_sq_num f) ∷ [])) (key_agrees f g)
      ∙ blocked_agrees f ((goose_stream_of f, goose_numbers f) ∷ [])
  goose_agrees (sv f) g = refl

  clocks_agree : (x : Inspection) → LegalOne x → claim.clock_reaches (block_test_frames m) x ≡ clock_reaches m x
  unfolding LegalOne
  clocks_agree (goose f) g =
      blocked_agrees f (unless_absent (goose_pair f) ((address f.src_mac, goose_pair f) ∷ []))
      ∙ ap (cond (blocked m f.test) []) (clock_agrees f.src_mac (goose_pair f) g.source.size)
  clocks_agree (sv f) g = clock_agrees f.src_mac (sv_pair f) g.source.size

reaching_agrees : {X : Type 0} (r r' : Inspection → List X) → ((x : Inspection) → LegalOne x → r x ≡ r' x)
    → (h : List Inspection) → Legal h → reaching r h ≡ reaching r' h
reaching_agrees r r' e [] g = refl
reaching_agrees r r' e (x ∷ h) g = let p = legal_parts x h g in λ i. e x p.0 i ++ reaching_agrees r r' e h p.1 i

-- ---- the lists that a history leaves

pub lists_agree : (m : Monitor) (h : List Inspection) → Legal h → remembered_lists (block_test_frames m) h ≡ monitor_lists m h
lists_agree m h g =
    λ i. record {
      sv_streams = latest16 (decide_list ℕ_discrete) (λ last new. count_after_lem last new i) (reaching sv_reaches h);
      goose_streams =
          latest16 (decide_pair ℕ_discrete ℕ_discrete) (λ last new. numbers_after_lem last new i)
          (reaching_agrees (claim.goose_reaches (block_test_frames m)) (goose_reaches m) (goose_agrees m) h g i);
      clocks =
          latest16 ℕ_discrete (λ last new. pair_after_lem last new i)
          (reaching_agrees (claim.clock_reaches (block_test_frames m)) (clock_reaches m) (clocks_agree m) h g i);
    }

-- ---- what the settings say is what the set calls made

module _ (m : Monitor) (z : length m.settings ≡ 10) where
  flag_read : (b : Bool) → not (eqb (flag_word b) 0) ≡ b
  flag_read true = refl
  flag_read false = refl

  pub blocking_read : (b : Bool) → block_test_frames (setting_made m (block_test b)) ≡ b
  unfolding set_block_test_frames
  blocking_read b = rw (get_or-set_same m.settings 1 (flag_word b) 0 (omega arith)) (flag_read b)

  pub enforcement_read : (s : RetxSchedule) (b : Bool) → retx_enforce (setting_made m (schedule s b)) ≡ b
  unfolding set_retx_schedule
  enforcement_read s b =
      let others = set (set (set m.settings 4 s.initial_us) 5 s.t_max_us) 6 s.tolerance_pct in
      rw (get_or-set_same others 7 (flag_word b) 0 (simp length-set (omega arith))) (flag_read b)

  pub jump_read : (seconds : ℕ) → seconds < 2 ^ 32 → time_max_forward_jump (setting_made m (max_forward_jump seconds)) ≡ seconds
  unfolding set_time_max_forward_jump
  jump_read seconds h = rw (get_or-set_same m.settings 8 seconds 0 (omega arith)) (omega arith)
