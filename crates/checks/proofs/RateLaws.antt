-- Laws of rates: the check carried out on the words of the table.
use Prim.Native.Nat.{ℕ}
use mathlib.Core.Bool.{Bool, true, false}
use mathlib.Core.List.{List}
use mathlib.Core.Path.{◌≡◌, refl, ap, ◌∙◌}
use Rattle.records.specs.declared.bucket.BucketCall.{BucketCall}
use Rattle.records.specs.declared.bucket.RateBucket.{RateBucket}
use Rattle.records.specs.Remembered.{after}
use Rattle.tables.proofs.WordTables.{three_laws, numbered_laws, value_read, value_stored}
use Rattle.tables.specs.declared.place.Place.{Place}
use Rattle.tables.specs.Column.{word_of, word_set}
use Rattle.tables.specs.Numbered.{numbered}
use Rattle.tables.specs.Place.{entered, if_known}
use Rattle.tables.specs.Table.{value_of}
use Rattle.tables.specs.WordTable.{three_numbers}
use Rattle.checks.specs.Rate.{bucket_of, bucket_at, bucket_words, buckets, bucket_call, kept_call, new_bucket, next_bucket, rate_checked}

-- a call of the bucket that is kept
kept_call_lem : (known : Bool) (w : (ℕ × ℕ) × ℕ) (request : ℕ × ℕ) → bucket_call (if_known known (bucket_of w)) request ≡ kept_call (if_known known w) request
kept_call_lem true w request = refl
kept_call_lem false w request = refl

bucket_after : (known : Bool) (w : (ℕ × ℕ) × ℕ) (request : ℕ × ℕ)
    → bucket_words (kept_call (if_known known w) request).bucket ≡ after new_bucket next_bucket (if_known known w) request
bucket_after true w request = refl
bucket_after false w request = refl

module _ (t : List ℕ) (key rate time : ℕ) {words first second out : List ℕ} {place : Place} {kept : RateBucket} {call : BucketCall} where
  pub rate_checked_lem : record { table = words; place = place } ≡ entered numbered t key
      → kept ≡ bucket_at words place.slot → call ≡ bucket_call (if_known place.known kept) (rate, time)
      → first ≡ word_set words 18 place.slot call.bucket.tokens → second ≡ word_set first 34 place.slot call.bucket.capacity
      → out ≡ word_set second 50 place.slot call.bucket.last_refill_us
      → record { table = out; allowed = call.allowed } ≡ rate_checked t key rate time
  unfolding rate_checked
  rate_checked_lem e k l x y z =
      let w : (ℕ × ℕ) × ℕ = ((word_of words 18 place.slot, word_of words 34 place.slot), word_of words 50 place.slot) in
      let v : if_known place.known w ≡ value_of buckets t key = value_read numbered numbered_laws three_numbers three_laws t key e in
      let m = l ∙ ap (λ (r : RateBucket). bucket_call (if_known place.known r) (rate, time)) k ∙ kept_call_lem place.known w (rate, time) in
      let n = ap (λ (r : BucketCall). bucket_words r.bucket) m ∙ bucket_after place.known w (rate, time)
      ∙ ap (λ x. after new_bucket next_bucket x (rate, time)) v in
      let o = z ∙ ap (λ (u : List ℕ). word_set u 50 place.slot call.bucket.last_refill_us)
      (y ∙ ap (λ (u : List ℕ). word_set u 34 place.slot call.bucket.capacity) x) in
      let p = value_stored numbered numbered_laws three_numbers three_laws t key e new_bucket next_bucket (rate, time) {w = bucket_words call.bucket} n o in
      let q = ap (λ (r : BucketCall). r.allowed) m ∙ ap (λ x. (kept_call x (rate, time)).allowed) v in
      λ i. record { table = p i; allowed = q i }
