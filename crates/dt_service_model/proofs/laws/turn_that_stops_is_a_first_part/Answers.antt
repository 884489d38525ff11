use Rattle.dt_service_model.proofs.Going.{arrive_part, call_part, close_keeps, forget_part, reply_part, tick_part}
use Rattle.dt_service_model.proofs.laws.turn_that_stops_is_a_first_part.Goals as goal

pub returns-clause-call : goal.returns-clause-call
returns-clause-call c = call_part

pub returns-clause-reply : goal.returns-clause-reply
returns-clause-reply c = reply_part

pub returns-clause-forget : goal.returns-clause-forget
returns-clause-forget c = forget_part

pub returns-clause-tick : goal.returns-clause-tick
returns-clause-tick c = tick_part

pub returns-clause-arrive : goal.returns-clause-arrive
returns-clause-arrive c = arrive_part

pub returns-clause-close : goal.returns-clause-close
returns-clause-close c = close_keeps
