use Rattle.dt_calls_laws.proofs.Joining.{piece_joins}
use Rattle.dt_calls_laws.proofs.gone.piece_goes_on_a_message_or_makes_it_whole.Goals as goal

pub returns : goal.returns
returns c = piece_joins
