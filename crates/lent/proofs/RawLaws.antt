-- Laws of a raw frame that is read where it stands: what the checks read of it, and the verdict.
use Prim.Native.Nat.{ℕ, ◌-◌}
use mathlib.Core.Bool.{false}
use mathlib.Core.List.{List}
use mathlib.Core.Path.{◌≡◌, refl, sym, ap, ◌∙◌}
use lib.ListN.{length, take, drop, replicate, length-replicate}
use Rattle.records.specs.declared.error.VsError.{VsError}
use Rattle.records.specs.declared.error.VsError.TheVariants.{InvalidInput}
use Rattle.records.specs.Alert.{source_sv, no_alert, alert_of}
use Rattle.records.specs.Name.{valid_len, name_of}
use Rattle.records.specs.Result.{clean_result}
use Rattle.records.specs.Verdict.{verdict_of}
use Rattle.std.proofs.Common.{Option, Some, None, Result, Ok, Err}
use Rattle.records.specs.declared.frame.SvFrame.{SvFrame}
use Rattle.wire.specs.declared.element.Part.{Part}
use Rattle.wire.specs.declared.header.Header.{Header}
use Rattle.sv_frame.specs.declared.places.SvPlaces.{SvPlaces}
use Rattle.wire.specs.Element.{elements}
use Rattle.sv_frame.specs.Field.{overlaid}
use Rattle.wire.specs.Header.{header}
use Rattle.sv_frame.specs.Places.{SvReading, reading_at, placed_reading, parsed_reading, places_of}
use Rattle.sv_frame.specs.Sv.{fields_from, empty_frame, asdu_place, apdu_frame, header_frame, sv_frame}
use Rattle.sv_frame.proofs.PlaceLaws.{overlaid_name, places_read, read_frame, read_error}
use Rattle.sv_frame.proofs.SvLaws.{frame_by}
use Rattle.checks.specs.Keys.{plain_key}
use Rattle.monitor.specs.Monitor.{Monitor}
use Rattle.monitor.specs.Totals.{counted_sv}
use Rattle.inspection.specs.Address.{address_of}
use Rattle.inspection.specs.InspectSv.{sv_read_by, sv_binding, inspect_sv, parsed_inspected, inspect_raw_sv}
use Rattle.inspection.specs.Report.{Checked, reported, with_allowed, with_verdict}
use Rattle.inspection.proofs.StageLaws.{counted_checked}
use Rattle.lent.specs.declared.raw.RawVerdict.{RawVerdict}
use Rattle.lent.specs.Raw.{with_raw_verdict, refused_verdict, answered_verdict, read_numbers, checked_reading}

-- the verdict on an unreadable frame: not allowed, and no alert
zeros_refuse : (e : VsError) → (refused_verdict e).verdict ≡ verdict_of (with_allowed (clean_result source_sv) false)
unfolding verdict_of clean_result no_alert alert_of
zeros_refuse e = refl

-- ---- what the checks read

-- a name that is put into 64 octets
pub name_read :
    {content part name : List ℕ} {len : ℕ} → content ≡ part → name ≡ overlaid (replicate 64 0) content → len ≡ valid_len (length content)
    → name_of name len ≡ take 64 part
name_read {content = content} p n l =
    (λ i. name_of (n i) (l i)) ∙ overlaid_name (replicate 64 0) content (length-replicate {A = ℕ} 64 0) ∙ ap (take 64) p

pub checked_reading_lem :
    (m : Monitor) (address : ℕ) (q : SvReading) {svid dataset : List ℕ} {counted : Monitor} {c : Checked}
    → svid ≡ plain_key q.svid → dataset ≡ q.dataset → counted ≡ counted_sv m
    → c ≡ sv_binding counted (sv_read_by svid dataset (read_numbers address q)) → c ≡ checked_reading m address q
checked_reading_lem m address q {counted = counted} k d n e =
    counted_checked (λ x. sv_binding x (sv_read_by (plain_key q.svid) q.dataset (read_numbers address q))) n
    (e ∙ λ i. sv_binding counted (sv_read_by (k i) (d i) (read_numbers address q)))

-- ---- the verdict

-- by what was read
module _ (m : Monitor) {p : Result SvFrame VsError} where
  pub raw_refused :
      {x : VsError} {v : RawVerdict} → p ≡ Err x → v ≡ refused_verdict x → record { monitor = m; answer = v } ≡ with_raw_verdict (parsed_inspected m p)
  raw_refused {x} e r =
      (λ i. record { monitor = m; answer = r i })
      ∙ (λ i. record { monitor = m; answer = record { answer = Err x; verdict = zeros_refuse x i } })
      ∙ ap (λ (p : Result SvFrame VsError). with_raw_verdict (parsed_inspected m p)) (sym e)

  raw_inspected :
      {f : SvFrame} {after : Monitor} {verdict : List ℕ} → p ≡ Ok f → record { monitor = after; answer = verdict } ≡ with_verdict (inspect_sv m f)
      → record { monitor = after; answer = answered_verdict (Ok verdict) } ≡ with_raw_verdict (parsed_inspected m p)
  raw_inspected e v =
      (λ i. record { monitor = (v i).monitor; answer = answered_verdict (Ok ((v i).answer)) })
      ∙ ap (λ (p : Result SvFrame VsError). with_raw_verdict (parsed_inspected m p)) (sym e)

-- an APDU without an ASDU, or by the places of its ASDU
module _ (m : Monitor) (apdu source : List ℕ) (time : ℕ) {r : Result Part VsError} (a : r ≡ asdu_place apdu) where
  pub asdu_refused :
      {x : VsError} → r ≡ Err x
      → record { monitor = m; answer = refused_verdict x } ≡ with_raw_verdict (parsed_inspected m (apdu_frame apdu source time))
  asdu_refused k = raw_refused m (sym (frame_by apdu source time a k)) refl

  module _ {part : Part} (k : r ≡ Ok part) {asdu : List ℕ} (c : asdu ≡ take part.len (drop part.start apdu))
      {places : Result SvPlaces VsError} (e : places ≡ places_of asdu) where
    reading : {x : Result SvPlaces VsError} → places ≡ x → placed_reading source asdu x ≡ parsed_reading (apdu_frame apdu source time)
    reading h =
        ap (placed_reading source asdu) (sym h ∙ e)
        ∙ places_read asdu source time
        ∙ ap (λ (l : List ℕ). parsed_reading (fields_from (empty_frame source time) false (elements l))) c
        ∙ ap parsed_reading (frame_by apdu source time a k)

    pub places_refused :
        {x : VsError} → places ≡ Err x
        → record { monitor = m; answer = refused_verdict x } ≡ with_raw_verdict (parsed_inspected m (apdu_frame apdu source time))
    places_refused h = raw_refused m (read_error (apdu_frame apdu source time) (reading h)) refl

    pub places_inspected :
        {p : SvPlaces} → places ≡ Ok p → {address : ℕ} → address ≡ address_of source
        → {c : Checked} → c ≡ checked_reading m address (reading_at source asdu p)
        → {after : Monitor} {verdict : List ℕ}
        → ((source number time : ℕ) → record { monitor = after; answer = verdict } ≡ with_verdict (reported source number time c))
        → record { monitor = after; answer = answered_verdict (Ok verdict) }
        ≡ with_raw_verdict (parsed_inspected m (apdu_frame apdu source time))
    unfolding inspect_sv
    places_inspected {p} h s k v =
        let r = read_frame (apdu_frame apdu source time) (reading h) in
        let f = r.0 in
        raw_inspected m r.1
        (v source_sv f.smp_cnt f.timestamp_us
        ∙ ap (λ (c : Checked). with_verdict (reported source_sv f.smp_cnt f.timestamp_us c))
        (k
        ∙ ap (λ (a : ℕ). checked_reading m a (reading_at source asdu p)) s
        ∙ ap (λ (q : SvReading). checked_reading m (address_of q.source) q) r.2))

-- by the header
module _ (m : Monitor) (octets : List ℕ) (time : ℕ) {found : Option Header} (e : found ≡ header 0x88BA octets) where
  header_inspected :
      {h : Option Header} → found ≡ h
      → with_raw_verdict (parsed_inspected m (header_frame octets time h)) ≡ with_raw_verdict (inspect_raw_sv m octets time)
  unfolding inspect_raw_sv sv_frame
  header_inspected q = ap (λ (h : Option Header). with_raw_verdict (parsed_inspected m (header_frame octets time h))) (sym q ∙ e)

  pub header_refused :
      found ≡ None → {v : RawVerdict} → v ≡ refused_verdict InvalidInput
      → record { monitor = m; answer = v } ≡ with_raw_verdict (inspect_raw_sv m octets time)
  header_refused q r = raw_refused m refl r ∙ header_inspected q

  pub header_found :
      {h : Header} → found ≡ Some h → {after : Monitor} (r : Result (List ℕ) VsError) {v : RawVerdict} → v ≡ answered_verdict r
      → record { monitor = after; answer = answered_verdict r }
      ≡ with_raw_verdict (parsed_inspected m (apdu_frame (take (h.apdu.end - h.apdu.start) (drop h.apdu.start octets)) h.src_mac time))
      → record { monitor = after; answer = v } ≡ with_raw_verdict (inspect_raw_sv m octets time)
  header_found q {after} r e w = (λ i. record { monitor = after; answer = e i }) ∙ w ∙ header_inspected q
