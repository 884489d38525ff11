use Rattle.dt_world_laws.proofs.Reported.{ack_tag, act_tag}
use Rattle.dt_world_laws.proofs.reports.tag_is_place_and_birth.Goals as goal

-- src/reports.rt
pub returns-clause-sent : goal.returns-clause-sent
returns-clause-sent c = λ p s f me x after node place items all host act q octets limits sender is facts chosen later made frame stands rows. act_tag p s f me x after limits sender is facts node place items all host act q octets chosen later made stands rows frame

-- src/reports.rt
pub returns-clause-acknowledgement : goal.returns-clause-acknowledgement
returns-clause-acknowledgement c = ack_tag
