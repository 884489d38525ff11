use Rattle.std.proofs.Common.{rules}
use Rattle.dt_scenario.proofs.world_events.world_event.Goals as goal

-- refused here: tick_starts_the_station_again
pub returns-in-Tick-clause-event : goal.returns-in-Tick-clause-event
returns-in-Tick-clause-event c = search rules
