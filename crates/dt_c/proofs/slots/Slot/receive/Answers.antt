use Rattle.std.proofs.Common.{rules}
use Rattle.dt_c.proofs.slots.Slot.receive.Goals as goal

-- refused here: guard_is_not_asked
pub returns-in-Admitted : goal.returns-in-Admitted
returns-in-Admitted c = search rules
