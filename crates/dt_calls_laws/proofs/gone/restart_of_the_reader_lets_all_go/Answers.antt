use Rattle.dt_calls_laws.proofs.Calm.{restart_gone}
use Rattle.dt_calls_laws.proofs.gone.restart_of_the_reader_lets_all_go.Goals as goal

pub returns : goal.returns
returns c = restart_gone
