-- Flags and answers as numbers: what a caller in another language hands in and gets.
use Rattle.std.specs.Prelude.{ℕ, Bool, not, cond, eqb, get_or, Result}
use Rattle.records.specs.declared.error.VsError.{VsError}
use Rattle.records.specs.Row.{answer_row}

-- a flag handed in: any number but 0 is true
abbrev pub flag_of : ℕ → Bool
flag_of n = not (eqb n 0)

-- a flag handed out: 1 is true
abbrev pub flag_number : Bool → ℕ
flag_number b = cond b 1 0

-- no error: the errors are 0 to 14
abbrev pub no_error : ℕ
no_error = 255

-- the number of an answer's error, the second of its row; 255 where there is none: the rule was added, the frame was read
abbrev pub answer_error : {T : Type 0} → Result T VsError → ℕ
answer_error answer = get_or (answer_row answer) 1 no_error
