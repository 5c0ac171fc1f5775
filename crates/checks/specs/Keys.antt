-- The keys of streams, reservations and publishers (01, "Remembered tables", "Rules"), and a flag as a word.
use Rattle.std.specs.Prelude.{ℕ, Bool, cond, List}
use Rattle.tables.specs.Key.{key_of, two_number_key}

-- a flag as a word
abbrev pub flag_word : Bool → ℕ
flag_word flag = cond flag 1 0

-- a name alone: SV streams and SV publishers by svID, GOOSE publishers by control block
abbrev pub plain_key : List ℕ → List ℕ
plain_key name = key_of 0 name

-- GOOSE streams by address and FNV-1a of the name
abbrev pub goose_key : ℕ → ℕ → List ℕ
goose_key address hash = two_number_key address hash

-- reservations by name and kind, 1 for GOOSE and 0 for SV
abbrev pub reservation_key : Bool → List ℕ → List ℕ
reservation_key is_goose name = key_of (flag_word is_goose) name
