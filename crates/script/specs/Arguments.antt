-- What the contracts of the readers of arguments cite.
use Rattle.std.specs.Prelude.{ℕ, List, ◌++◌, drop, replicate, take}

-- The n octets from a place on, of which those that are not there count as 0.
abbrev pub octets_from : ℕ → List ℕ → ℕ → List ℕ
octets_from n arguments at = take n (drop at arguments ++ replicate n 0)
