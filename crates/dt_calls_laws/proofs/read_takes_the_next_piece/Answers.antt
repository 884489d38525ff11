use Rattle.dt_calls_laws.proofs.Takings.{station_has_read}
use Rattle.dt_calls_laws.proofs.read_takes_the_next_piece.Goals as goal

pub returns : goal.returns
returns c = station_has_read
