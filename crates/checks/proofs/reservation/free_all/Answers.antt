-- `free_all` meets its contract.
use Rattle.checks.proofs.ReservationLaws.{all_freed_lem}
use Rattle.checks.proofs.reservation.free_all.Goals as goal

pub returns : goal.returns
returns c = all_freed_lem _ _ c.freed_word-first.ensures c.freed_word-second.ensures
