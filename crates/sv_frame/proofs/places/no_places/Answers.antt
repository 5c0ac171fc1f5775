-- `no_places` meets its contract.
use mathlib.Core.Path.{refl}
use Rattle.sv_frame.proofs.places.no_places.Goals as goal

pub returns : goal.returns
returns c = refl
