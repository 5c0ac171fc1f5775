-- Refusals by their numbers (01, "SV frame"): whatever the octets, a frame that is not read is error 9, InvalidInput, and no other.
use Rattle.std.specs.Prelude.{ℕ, List, [], ◌∷◌, ◌⊎◌, ◌≡◌, Result}
use Rattle.records.specs.declared.error.VsError.{VsError}
use Rattle.records.specs.declared.frame.SvFrame.{SvFrame}
use Rattle.records.specs.Row.{answer_row}
use Rattle.sv_frame.specs.Sv.{sv_frame}

-- refusal 3: a frame is read, or the answer is 9 and no frame
abbrev pub FrameOr9 : Result SvFrame VsError → Type 0
FrameOr9 r = (answer_row r ≡ 1 ∷ []) ⊎ (answer_row r ≡ 0 ∷ 9 ∷ [])

abbrev pub SvRefusals : Type 0
SvRefusals = (octets : List ℕ) (time : ℕ) → FrameOr9 (sv_frame octets time)
