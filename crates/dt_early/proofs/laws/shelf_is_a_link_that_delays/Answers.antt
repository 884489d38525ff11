use Rattle.dt_endpoint.specs.Calls as endpoint_calls
use Rattle.dt_service.specs.Calls as service_calls
use Rattle.dt_early.specs.Early.{data_at, host_of, host_of_service}
use Rattle.dt_early.proofs.Delaying.{delays}
use Rattle.dt_early.proofs.laws.shelf_is_a_link_that_delays.Goals as goal

pub returns-clause-endpoint : goal.returns-clause-endpoint
returns-clause-endpoint c answer now link octets waited s t e f on = delays host_of endpoint_calls.Arrives (data_at e link octets waited) answer now link octets waited s t e f on

pub returns-clause-service : goal.returns-clause-service
returns-clause-service c answer now link octets waited s t n m on = delays host_of_service service_calls.Arrives (data_at n.endpoint link octets waited) answer now link octets waited s t n m on
