use Rattle.dt_calls_laws.proofs.SideBySide.{all_taken}
use Rattle.dt_calls_laws.proofs.messages_are_all_that_was_taken.Goals as goal

pub returns : goal.returns
returns c = all_taken
