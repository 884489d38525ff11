use Rattle.std.proofs.Common.{rules}
use Rattle.dt_text.proofs.stages.not_before.Goals as goal

-- refused here: falling_moment
pub returns-in-Run : goal.returns-in-Run
returns-in-Run c = search rules
