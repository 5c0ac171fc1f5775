-- `name_octets` meets its contract.
use Rattle.sv_frame.proofs.places.name_octets.Goals as goal

pub returns : goal.returns
returns c = c.overlay.ensures
