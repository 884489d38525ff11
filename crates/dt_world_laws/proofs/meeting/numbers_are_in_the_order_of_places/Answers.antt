use Rattle.dt_world_laws.proofs.Numbered.{ack_in_order, data_in_order}
use Rattle.dt_world_laws.proofs.meeting.numbers_are_in_the_order_of_places.Goals as goal

pub returns-clause-data : goal.returns-clause-data
returns-clause-data c = data_in_order

pub returns-clause-acknowledged : goal.returns-clause-acknowledged
returns-clause-acknowledged c = ack_in_order
