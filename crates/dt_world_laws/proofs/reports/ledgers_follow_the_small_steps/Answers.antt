use Rattle.dt_world_laws.proofs.Reported.{acked_followed, act_followed, data_followed, meet_followed, reading_followed, receiver_followed, taking_followed}
use Rattle.dt_world_laws.proofs.reports.ledgers_follow_the_small_steps.Goals as goal

-- src/reports.rt
pub returns-clause-act : goal.returns-clause-act
returns-clause-act c = act_followed

-- src/reports.rt
pub returns-clause-taken : goal.returns-clause-taken
returns-clause-taken c = taking_followed

-- src/reports.rt
pub returns-clause-acknowledged : goal.returns-clause-acknowledged
returns-clause-acknowledged c = acked_followed

-- src/reports.rt
pub returns-clause-data : goal.returns-clause-data
returns-clause-data c = data_followed

-- src/reports.rt
pub returns-clause-rendezvous : goal.returns-clause-rendezvous
returns-clause-rendezvous c = meet_followed

-- src/reports.rt
pub returns-clause-read : goal.returns-clause-read
returns-clause-read c = reading_followed

-- src/reports.rt
pub returns-clause-receiver : goal.returns-clause-receiver
returns-clause-receiver c = receiver_followed
