-- `enter` meets its contract.
use Rattle.tables.proofs.PlaceLaws.{found_key, entered_known, entered_new, entered_below}
use Rattle.tables.proofs.place.enter.Goals as goal

pub returns-in-Some : goal.returns-in-Some
returns-in-Some g c = record {
  entered = entered_known _ _ _ c.find.ensures (g.met.K.Key.laws.again _ _) c.in-Some.is c.use_slot.ensures;
  below = (found_key _ _ _ c.find.ensures c.in-Some.is).0;
}

pub returns-in-None : goal.returns-in-None
returns-in-None g c =
    let e = entered_new _ _ _ c.find.ensures c.in-None.is c.new_slot-slot.ensures c.store_at.ensures c.use_slot-in-None.ensures in
    record { entered = e; below = entered_below _ _ _ e }
