use Rattle.std.proofs.Common.{rules}
use Rattle.dt_world.proofs.refusals.arrival_refusal.Goals as goal

-- refused here: copy_at_its_charge_is_late
pub returns-then-from-held : goal.returns-then-from-held
returns-then-from-held c = search rules
