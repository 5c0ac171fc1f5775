-- The token bucket (01, "Bucket": capacity per second, tokens, time of last refill in µs).
use Rattle.std.specs.Prelude.{ℕ, ◌+◌, ◌-◌, ◌*◌, ◌/◌, ◌^◌, min, cond, ◌==◌, nat_lt}
use Rattle.records.specs.declared.bucket.RateBucket.{RateBucket}
use Rattle.records.specs.declared.bucket.BucketCall.{BucketCall}

-- elapsed × capacity div 1,000,000, the most if the product passes 64 bits
unfoldable pub refill : ℕ → ℕ → ℕ
refill elapsed capacity =
    cond (nat_lt (elapsed * capacity) (2 ^ 64)) (elapsed * capacity / 1000000) (2 ^ 64 - 1)

-- a refill adds tokens, to capacity at most
abbrev pub tokens_with : ℕ → ℕ → ℕ → ℕ
tokens_with tokens added capacity = min (tokens + added) capacity

-- a bucket of other tokens and another time
abbrev pub bucket_with : RateBucket → ℕ → ℕ → RateBucket
bucket_with b tokens time = record { tokens = tokens; capacity = b.capacity; last_refill_us = time }

-- an earlier clock fills it and becomes its time; else only a refill above 0 adds tokens and moves the time
unfoldable pub refilled_by : RateBucket → ℕ → ℕ → RateBucket
refilled_by b time added =
    cond (nat_lt time b.last_refill_us) (bucket_with b b.capacity time)
    (cond (added == 0) b (bucket_with b (tokens_with b.tokens added b.capacity) time))

-- refilled at a time, by the time since the last refill
unfoldable pub refilled : RateBucket → ℕ → RateBucket
refilled b time = refilled_by b time (refill (time - b.last_refill_us) b.capacity)

-- a call takes a token if there is one, and is allowed if there was
abbrev pub token_taken : RateBucket → BucketCall
token_taken b = record { bucket = bucket_with b (b.tokens - 1) b.last_refill_us; allowed = nat_lt 0 b.tokens }

-- a call at a time: after refilling
unfoldable pub next_call : RateBucket → ℕ → BucketCall
next_call b time = token_taken (refilled b time)

-- a new bucket holds capacity − 1 after its first call
abbrev pub first_call : ℕ → ℕ → RateBucket
first_call capacity time = record { tokens = capacity - 1; capacity = capacity; last_refill_us = time }
