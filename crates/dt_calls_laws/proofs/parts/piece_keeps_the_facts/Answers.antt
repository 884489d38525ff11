use Rattle.dt_calls_laws.proofs.PieceRead.{piece_keeps}
use Rattle.dt_calls_laws.proofs.parts.piece_keeps_the_facts.Goals as goal

pub returns : goal.returns
returns c = piece_keeps
