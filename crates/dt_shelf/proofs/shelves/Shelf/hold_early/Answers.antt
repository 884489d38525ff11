use Rattle.std.proofs.Common.{rules}
use Rattle.dt_shelf.proofs.shelves.Shelf.hold_early.Goals as goal

-- refused here: a_full_shelf_says_that_it_holds
pub returns-in_default-clause-answer : goal.returns-in_default-clause-answer
returns-in_default-clause-answer c = search rules
