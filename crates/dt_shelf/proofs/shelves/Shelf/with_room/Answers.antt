use Rattle.std.proofs.Common.{rules}
use Rattle.dt_shelf.proofs.shelves.Shelf.with_room.Goals as goal

-- refused here: shelf_has_no_room
pub invariant_of-result : goal.invariant_of-result
invariant_of-result c = search rules
