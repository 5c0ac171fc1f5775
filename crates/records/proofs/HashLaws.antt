-- Laws of the hash, one octet at a time: what the loop over the octets cites.
use Rattle.std.proofs.Common.{◌≡◌, ℕ, ◌+◌, ◌<◌, ◌≤◌, List, length, get_or, drop, add-one, drop_of_length-le, drop-cons}
use Rattle.records.specs.Hash.{hash_step, hash_from}

module _ (octets : List ℕ) (h i : ℕ) where
  pub hash_more : i < length octets → hash_from h (drop i octets) ≡ hash_from (hash_step h (get_or octets i 0)) (drop (i + 1) octets)
  unfolding hash_from
  hash_more l = rw (add-one, drop-cons octets i 0 l)

  pub hash_end : length octets ≤ i → hash_from h (drop i octets) ≡ h
  unfolding hash_from
  hash_end l = rw (drop_of_length-le octets l)
