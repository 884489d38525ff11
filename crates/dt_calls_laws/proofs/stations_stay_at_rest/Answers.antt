use Rattle.dt_calls_laws.proofs.StayingAtRest.{stays_at_rest}
use Rattle.dt_calls_laws.proofs.stations_stay_at_rest.Goals as goal

pub returns : goal.returns
returns c = λ w e m limits facts np can clear h. stays_at_rest w limits facts m h e np can clear
