use Rattle.dt_calls_laws.proofs.Calm.{piece_gone, read_calm}
use Rattle.dt_calls_laws.proofs.gone.read_lets_its_piece_go.Goals as goal

pub returns-clause-here : goal.returns-clause-here
returns-clause-here c = piece_gone

pub returns-clause-others : goal.returns-clause-others
returns-clause-others c = read_calm
