use Rattle.std.proofs.Common.{rules}
use Rattle.dt_c.proofs.service_events.take_event.Goals as goal

-- refused here: event_that_fills_the_buffer_is_left_out
pub returns-in-Some : goal.returns-in-Some
returns-in-Some c = search rules
