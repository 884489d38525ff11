use Rattle.dt_service_laws.proofs.Readings.{network_messages}
use Rattle.dt_service_laws.proofs.Wholes.{in_order}
use Rattle.dt_service_laws.proofs.messages.whole_messages_come_once_and_in_order.Goals as goal

pub returns-clause-network : goal.returns-clause-network
returns-clause-network c = λ setup steps f longest limits does keeps. network_messages longest steps f (c.what_is_read_is_what_was_sent.ensures setup steps f limits does keeps)

pub returns-clause-octets : goal.returns-clause-octets
returns-clause-octets c = λ read taken h. in_order read taken h
