use Rattle.dt_orders_octets.proofs.Again.{lane_again, request_again}
use Rattle.dt_orders_octets.proofs.laws.written_is_read.Goals as goal

pub returns-clause-request : goal.returns-clause-request
returns-clause-request c = λ q. request_again q.lane q.called.number q.called.tag q.called.since q.called.attempt q.called.kind q.called.knows q.called.is_only

pub returns-clause-lane : goal.returns-clause-lane
returns-clause-lane c = λ l. lane_again l.number l.lane.last l.lane.record_number l.lane.order l.lane.is_fresh l.lane.is_cancelled l.lane.is_calling
