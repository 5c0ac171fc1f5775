-- What one call keeps and counts, from any monitor.
use Prim.Native.Nat.{ℕ, ◌+◌, ◌≤◌, ◌<◌}
use mathlib.Core.Bool.{cond}
use mathlib.Core.List.{List, []}
use mathlib.Core.Path.{◌≡◌, refl, ap, ◌∙◌}
use native.Mathlib.Decide.{ℕ_discrete}
use native.Mathlib.Omega.{arith}
use borrow.Author.Tests.{eq-eqb, ne_eqb}
use lib.Dec.{eqb}
use lib.ListN.{length, get_or, drop, length-set}
use lib.Seq.{get_or-set_same, get_or-set_other}
use Rattle.records.specs.declared.alert.CodedAlert.{CodedAlert}
use Rattle.records.specs.declared.frame.MmsFrame.{MmsFrame}
use Rattle.records.specs.declared.frame.GooseFrame.{GooseFrame}
use Rattle.records.specs.declared.frame.SvFrame.{SvFrame}
use Rattle.records.specs.declared.result.AlertCounters.{AlertCounters}
use Rattle.records.specs.declared.result.InspectResult.{InspectResult}
use Rattle.records.specs.Alert.{source_mms, source_goose, source_sv}
use Rattle.records.specs.Counter.{saturated}
use Rattle.records.specs.Octets.{tabulate}
use Rattle.records.specs.Result.{clean_result}
use Rattle.tables.specs.Column.{zero_words}
use Rattle.std.proofs.Common.{Result, Ok, Err}
use Rattle.records.specs.declared.error.VsError.{VsError}
use Rattle.sv_frame.specs.Sv.{sv_frame}
use Rattle.monitor.specs.Monitor.{Monitor, Sized}
use Rattle.monitor.specs.Reset.{new_totals, reset_monitor}
use Rattle.monitor.specs.Totals.{total, mms_total_inspected, goose_total_inspected, sv_total_inspected, total_alerts, frame_counted, with_alerts}
use Rattle.inspection.specs.Calls.{Call, setting, mms, goose, sv, raw_sv, reset, setting_made, called}
use Rattle.inspection.specs.CallTheorems.{SameRules, alerts_in, alerts_of, AtMostThree, frames_read, frames_of, unless_reset, next_number}
use Rattle.inspection.specs.CallTheorems.{numbers_in, numbers_from}
use Rattle.inspection.specs.InspectMms.{mms_read, inspect_mms}
use Rattle.inspection.specs.InspectGoose.{goose_read, inspect_goose}
use Rattle.inspection.specs.InspectSv.{sv_read, inspect_sv, parsed_inspected, inspect_raw_sv}
use Rattle.inspection.specs.Report.{Checked, reported}
use Rattle.inspection.proofs.CheckLaws.{fixed, Keeps, mms_kept, goose_kept, sv_kept}
use Rattle.inspection.proofs.ReportLaws.{saturating, wrapping, Grows, grows_none, grows_one, frames_kept, reports}
use Rattle.inspection.proofs.SettingLaws.{setting_untouched}
use Rattle.inspection.proofs.SizeLaws.{sizes, sized_kept, fresh_sized}

-- ---- one frame counted

module _ (m : Monitor) (place : ℕ) where
  counted_fixed : fixed (frame_counted m place) ≡ fixed m
  unfolding frame_counted
  counted_fixed = simp length-set refl

  counted_long : length (frame_counted m place).totals ≡ length m.totals
  unfolding frame_counted
  counted_long = length-set m.totals place _

  counted_other : (k : ℕ) → (k ≡ place → ⊥) → total (frame_counted m place) k ≡ total m k
  unfolding frame_counted
  counted_other k n = get_or-set_other m.totals place k _ 0 n

  counted_here : length m.totals ≡ 5 → place < 3 → total (frame_counted m place) place ≡ saturated (total m place)
  unfolding frame_counted
  counted_here z h = get_or-set_same m.totals place _ 0 (omega arith)

alerts_fixed : (m : Monitor) (counters : AlertCounters) → fixed (with_alerts m counters) ≡ fixed m
unfolding with_alerts
alerts_fixed m counters = simp length-set refl

-- one frame of the kind that is counted at a place
abbrev frame_at : ℕ → ℕ → ℕ
frame_at place k = cond (eqb k place) 1 0

abbrev frames_at : ℕ → ℕ × ℕ × ℕ
frames_at place = (frame_at place 0, frame_at place 1, frame_at place 2)

frame_counted_lem : (m : Monitor) (place k : ℕ) → length m.totals ≡ 5 → place < 3
    → Grows saturating (total m k) (frame_at place k) (total (frame_counted m place) k)
frame_counted_lem m place k z h = go (ℕ_discrete k place)
  where
    go : Dec (k ≡ place) → Grows saturating (total m k) (frame_at place k) (total (frame_counted m place) k)
    go (yes q) = rw (q, eq-eqb place place refl, counted_here m place z h) (grows_one (total m place))
    go (no q) = rw (ne_eqb k place q) (grows_none saturating (counted_other m place k q))

-- ---- one inspection

-- what a call counts: frames of each kind, alerts, and the alerts' numbers; `restart` gives the count behind a reset, or leaves it
pub record Step (m m' : Monitor) (restart : ℕ → ℕ → ℕ) (frames : ℕ × ℕ × ℕ) (alerts : List CodedAlert) : Type 0 where
  pub mms : (n : ℕ) → mms_total_inspected m ≡ saturating n → mms_total_inspected m' ≡ saturating (restart 0 (n + frames.0))
  pub goose : (n : ℕ) → goose_total_inspected m ≡ saturating n → goose_total_inspected m' ≡ saturating (restart 0 (n + frames.1))
  pub sv : (n : ℕ) → sv_total_inspected m ≡ saturating n → sv_total_inspected m' ≡ saturating (restart 0 (n + frames.2))
  pub total : (n : ℕ) → total_alerts m ≡ saturating n → total_alerts m' ≡ saturating (restart 0 (n + length alerts))
  pub next : (n : ℕ) → next_number m ≡ wrapping n → next_number m' ≡ wrapping (restart 1 (n + length alerts))
  pub numbers : (n : ℕ) → next_number m ≡ wrapping n → numbers_in alerts ≡ numbers_from n (length alerts)

-- a word of the same totals
word_kept : {t t' : List ℕ} (k : ℕ) → t' ≡ t → get_or t' k 0 ≡ get_or t k 0
word_kept k e = ap (λ (l : List ℕ). get_or l k 0) e

-- the same totals
unchanged : (m m' : Monitor) → m'.totals ≡ m.totals → Step m m' (λ first n. n) (0, 0, 0) []
unchanged m m' e = record {
  mms = grows_none saturating (word_kept 0 e);
  goose = grows_none saturating (word_kept 1 e);
  sv = grows_none saturating (word_kept 2 e);
  total = grows_none saturating (word_kept 4 e);
  next = grows_none wrapping (word_kept 3 e);
  numbers = λ n e. refl;
}

-- what an inspection keeps, and counts
pub record Inspects (m m' : Monitor) (r : InspectResult) (frames : ℕ × ℕ × ℕ) : Type 0 where
  pub same : SameRules m m'
  pub sizes : sizes m' ≡ sizes m
  pub few : AtMostThree r
  pub step : length m.totals ≡ 5 → Step m m' (λ first n. n) frames (alerts_in r)

-- the checks get the monitor with the frame counted
module _ (m : Monitor) (place : ℕ) (h : place < 3) (source source_number time : ℕ) (c : Checked) (k : Keeps (frame_counted m place) c) where
  totals_checked : c.monitor.totals ≡ (frame_counted m place).totals
  totals_checked = ap (λ (l : List (List ℕ)). get_or l 0 []) k.kept

  alerts_checked : (i : ℕ) → 3 ≤ i → total c.monitor i ≡ total m i
  alerts_checked i l = word_kept i totals_checked ∙ counted_other m place i (λ e. omega arith)

  abbrev left : Monitor
  left = (reported source source_number time c).monitor

  frames_inspected : length m.totals ≡ 5 → (i : ℕ) → i < 3 → Grows saturating (total m i) (frame_at place i) (total left i)
  unfolding reported
  frames_inspected z i l n e = frames_kept c.monitor _ i l ∙ word_kept i totals_checked ∙ frame_counted_lem m place i z h n e

  part_inspected : (i : ℕ) → get_or (fixed left) i [] ≡ get_or (fixed m) i []
  unfolding reported
  part_inspected i = ap (λ (l : List (List ℕ)). get_or l i []) (alerts_fixed c.monitor _ ∙ ap (drop 1) k.kept ∙ counted_fixed m place)

  inspects : Inspects m left (reported source source_number time c).answer (frames_at place)
  inspects =
      let r = reports source source_number time c k.few in
      record {
        same = record { settings = part_inspected 0; mms = part_inspected 1; goose = part_inspected 2; sv = part_inspected 3 };
        sizes = part_inspected 4;
        few = r.few;
        step = λ z.
            let y = ap length totals_checked ∙ counted_long m place ∙ z in
            record {
              mms = frames_inspected z 0 (omega arith);
              goose = frames_inspected z 1 (omega arith);
              sv = frames_inspected z 2 (omega arith);
              total = λ n e. r.total y n (alerts_checked 4 (omega arith) ∙ e);
              next = λ n e. r.next y n (alerts_checked 3 (omega arith) ∙ e);
              numbers = λ n e. r.numbers n (alerts_checked 3 (omega arith) ∙ e);
            };
      }

module _ (m : Monitor) where
  pub mms_inspects : (f : MmsFrame) → Inspects m (inspect_mms m f).monitor (inspect_mms m f).answer (1, 0, 0)
  unfolding inspect_mms
  mms_inspects f = inspects m 0 (omega arith) source_mms f.invoke_id f.timestamp_us _ (mms_kept (frame_counted m 0) (mms_read f))

  pub goose_inspects : (f : GooseFrame) → Inspects m (inspect_goose m f).monitor (inspect_goose m f).answer (0, 1, 0)
  unfolding inspect_goose
  goose_inspects f = inspects m 1 (omega arith) source_goose f.st_num f.timestamp_us _ (goose_kept (frame_counted m 1) (goose_read f))

  pub sv_inspects : (f : SvFrame) → Inspects m (inspect_sv m f).monitor (inspect_sv m f).answer (0, 0, 1)
  unfolding inspect_sv
  sv_inspects f = inspects m 2 (omega arith) source_sv f.smp_cnt f.timestamp_us _ (sv_kept (frame_counted m 2) (sv_read f))

  parsed_inspects :
      (p : Result SvFrame VsError) → Inspects m (parsed_inspected m p).monitor (parsed_inspected m p).answer.result (0, 0, frames_read p)
  unfolding clean_result
  parsed_inspects (Ok f) = sv_inspects f
  parsed_inspects (Err e) = record {
    same = record { settings = refl; mms = refl; goose = refl; sv = refl };
    sizes = refl;
    few = record { counted = refl; few = omega arith; whole = refl };
    step = λ z. unchanged m m refl;
  }

  pub raw_inspects : (octets : List ℕ) (time : ℕ)
      → Inspects m (inspect_raw_sv m octets time).monitor (inspect_raw_sv m octets time).answer.result (0, 0, frames_read (sv_frame octets time))
  unfolding inspect_raw_sv
  raw_inspects octets time = parsed_inspects (sv_frame octets time)

-- ---- one call

pub stepped : (m : Monitor) (c : Call) → length m.totals ≡ 5 → Step m (called m c) (unless_reset c) (frames_of c) (alerts_of m c)
unfolding reset_monitor new_totals zero_words tabulate
stepped m (setting s) z = unchanged m (setting_made m s) (setting_untouched m s).totals
stepped m (mms f) z = (mms_inspects m f).step z
stepped m (goose f) z = (goose_inspects m f).step z
stepped m (sv f) z = (sv_inspects m f).step z
stepped m (raw_sv octets time) z = (raw_inspects m octets time).step z
stepped m reset z = record { mms = λ n e. refl; goose = λ n e. refl; sv = λ n e. refl; total = λ n e. refl; next = λ n e. refl; numbers = λ n e. refl }

-- every call leaves parts of their sizes
pub called_sized : (m : Monitor) (c : Call) → Sized m → Sized (called m c)
unfolding reset_monitor
called_sized m (setting s) z = sized_kept (setting_untouched m s).sizes z
called_sized m (mms f) z = sized_kept (mms_inspects m f).sizes z
called_sized m (goose f) z = sized_kept (goose_inspects m f).sizes z
called_sized m (sv f) z = sized_kept (sv_inspects m f).sizes z
called_sized m (raw_sv octets time) z = sized_kept (raw_inspects m octets time).sizes z
called_sized m reset z = fresh_sized m.settings z.settings
