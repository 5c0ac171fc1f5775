-- Rates (01, "Bucket": the key is the invoke id; an existing bucket keeps its capacity).
use Rattle.std.specs.Prelude.{ℕ, min, Bool, true, List}
use Rattle.std.proofs.Math.Option.{Option, none, some}
use Rattle.records.specs.declared.bucket.BucketCall.{BucketCall}
use Rattle.records.specs.declared.bucket.RateBucket.{RateBucket}
use Rattle.records.specs.Bucket.{first_call, next_call}
use Rattle.tables.specs.Numbered.{numbered}
use Rattle.tables.specs.Column.{word_of}
use Rattle.tables.specs.Table.{Columns, value_of, stepped}
use Rattle.tables.specs.WordTable.{three_numbers, word_table}

-- the bucket that is kept as three words: tokens and capacity, 65535 where a word has more, and time of last refill
abbrev pub bucket_of : (ℕ × ℕ) × ℕ → RateBucket
bucket_of w = record { tokens = min w.0.0 65535; capacity = min w.0.1 65535; last_refill_us = w.1 }

-- the bucket of a slot
abbrev pub bucket_at : List ℕ → ℕ → RateBucket
bucket_at t slot = bucket_of ((word_of t 18 slot, word_of t 34 slot), word_of t 50 slot)

abbrev pub bucket_words : RateBucket → (ℕ × ℕ) × ℕ
bucket_words b = ((b.tokens, b.capacity), b.last_refill_us)

-- the buckets as a table by invoke id
abbrev pub buckets : Columns (List ℕ) ℕ ((ℕ × ℕ) × ℕ)
buckets = word_table numbered three_numbers

-- a request: the rule's rate and the frame's time. A new bucket allows it
abbrev pub bucket_call : Option RateBucket → ℕ × ℕ → BucketCall
bucket_call none request = record { bucket = first_call request.0 request.1; allowed = true }
bucket_call (some b) request = next_call b request.1

-- of a bucket that is kept
abbrev pub kept_call : Option ((ℕ × ℕ) × ℕ) → ℕ × ℕ → BucketCall
kept_call none request = bucket_call none request
kept_call (some w) request = bucket_call (some (bucket_of w)) request

-- the bucket of a first request, and of a further one
abbrev pub new_bucket : ℕ × ℕ → (ℕ × ℕ) × ℕ
new_bucket request = bucket_words (kept_call none request).bucket

abbrev pub next_bucket : (ℕ × ℕ) × ℕ → ℕ × ℕ → (ℕ × ℕ) × ℕ
next_bucket w request = bucket_words (kept_call (some w) request).bucket

-- the buckets after a request, and whether it is within its rate; one of a rule without a rate is not asked
pub record RateChecked : Type 0 where
  pub table : List ℕ
  pub allowed : Bool

unfoldable pub rate_checked : List ℕ → ℕ → ℕ → ℕ → RateChecked
rate_checked t invoke_id rate time =
    record {
      table = stepped buckets new_bucket next_bucket t invoke_id (rate, time);
      allowed = (kept_call (value_of buckets t invoke_id) (rate, time)).allowed;
    }
