-- The words of a monitor are its parts, and the parts its words.
use Prim.Native.Nat.{ℕ, ◌+◌}
use mathlib.Core.List.{List, ◌++◌}
use mathlib.Core.Path.{◌≡◌, sym, ap, ◌∙◌}
use native.Mathlib.Omega.{arith}
use lib.ListN.{length, take, drop, take-append-drop, length-drop}
use lib.Seq.{take_at, take_all, drop_at, drop-drop}
use Rattle.monitor.proofs.PartLaws.{part_length}
use Rattle.monitor.specs.Monitor.{Monitor, Sized, monitor_of, words_of}

part_on : (l : List ℕ) (b n : ℕ) → take n (drop b l) ++ drop (b + n) l ≡ drop b l
part_on l b n = ap (λ (r : List ℕ). take n (drop b l) ++ r) (sym (drop-drop n b l)) ∙ take-append-drop n (drop b l)

pub words_monitor : (l : List ℕ) → length l ≡ 1148 → words_of (monitor_of l) ≡ l
unfolding words_of monitor_of
words_monitor l z =
    let e : take 210 (drop 938 l) ≡ drop 938 l = take_all 210 (drop 938 l) (omega (arith, length-drop 938 l)) in
    rw (
      e,
      part_on l 888 50,
      part_on l 710 178,
      part_on l 500 210,
      part_on l 434 66,
      part_on l 241 193,
      part_on l 64 177,
      part_on l 15 49,
      part_on l 10 5,
      part_on l 0 10,
    )

-- the rest behind a part, and the part
module _ (l p r : List ℕ) (b n : ℕ) (e : drop b l ≡ p ++ r) (z : length p ≡ n) where
  part_is : take n (drop b l) ≡ p
  part_is = ap (take n) e ∙ take_at p r n z

  rest-is : drop (b + n) l ≡ r
  rest-is = sym (drop-drop n b l) ∙ ap (drop n) e ∙ drop_at p r n z

pub monitor_words : (m : Monitor) → Sized m → monitor_of (words_of m) ≡ m
unfolding words_of monitor_of
monitor_words m z =
    let r9 = m.cb_reservations in
    let r8 = m.time_trackers ++ r9 in
    let r7 = m.sv_seq ++ r8 in
    let r6 = m.goose_seq ++ r7 in
    let r5 = m.rate_buckets ++ r6 in
    let r4 = m.sv_publishers ++ r5 in
    let r3 = m.goose_publishers ++ r4 in
    let r2 = m.mms_rules ++ r3 in
    let r1 = m.totals ++ r2 in
    let r0 = m.settings ++ r1 in
    let d0 : drop 0 r0 ≡ r0 = λ i. r0 in
    let d1 = rest-is r0 m.settings r1 0 10 d0 z.settings in
    let d2 = rest-is r0 m.totals r2 10 5 d1 z.totals in
    let d3 = rest-is r0 m.mms_rules r3 15 49 d2 z.mms_rules in
    let d4 = rest-is r0 m.goose_publishers r4 64 177 d3 z.goose_publishers in
    let d5 = rest-is r0 m.sv_publishers r5 241 193 d4 z.sv_publishers in
    let d6 = rest-is r0 m.rate_buckets r6 434 66 d5 z.rate_buckets in
    let d7 = rest-is r0 m.goose_seq r7 500 210 d6 z.goose_seq in
    let d8 = rest-is r0 m.sv_seq r8 710 178 d7 z.sv_seq in
    let d9 = rest-is r0 m.time_trackers r9 888 50 d8 z.time_trackers in
    λ i. record {
      settings = part_is r0 m.settings r1 0 10 d0 z.settings i;
      totals = part_is r0 m.totals r2 10 5 d1 z.totals i;
      mms_rules = part_is r0 m.mms_rules r3 15 49 d2 z.mms_rules i;
      goose_publishers = part_is r0 m.goose_publishers r4 64 177 d3 z.goose_publishers i;
      sv_publishers = part_is r0 m.sv_publishers r5 241 193 d4 z.sv_publishers i;
      rate_buckets = part_is r0 m.rate_buckets r6 434 66 d5 z.rate_buckets i;
      goose_seq = part_is r0 m.goose_seq r7 500 210 d6 z.goose_seq i;
      sv_seq = part_is r0 m.sv_seq r8 710 178 d7 z.sv_seq i;
      time_trackers = part_is r0 m.time_trackers r9 888 50 d8 z.time_trackers i;
      cb_reservations = (ap (take 210) d9 ∙ take_all 210 m.cb_reservations (omega (arith, z.cb_reservations))) i;
    }

-- the parts of 1148 words have their sizes
pub words_sized : (l : List ℕ) → length l ≡ 1148 → Sized (monitor_of l)
unfolding monitor_of
words_sized l z =
    record {
      settings = part_length l 0 10 (omega arith);
      totals = part_length l 10 5 (omega arith);
      mms_rules = part_length l 15 49 (omega arith);
      goose_publishers = part_length l 64 177 (omega arith);
      sv_publishers = part_length l 241 193 (omega arith);
      rate_buckets = part_length l 434 66 (omega arith);
      goose_seq = part_length l 500 210 (omega arith);
      sv_seq = part_length l 710 178 (omega arith);
      time_trackers = part_length l 888 50 (omega arith);
      cb_reservations = part_length l 938 210 (omega arith);
    }
