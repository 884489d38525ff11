-- The sides of a flow with a call, as the definitions have them.
use Rattle.dt_calls_model.specs.Calls as calls
use Rattle.dt_call_parts.specs.declared.flow_sides.Side.{Side}
use Rattle.dt_call_parts.specs.declared.flow_sides.Side.TheVariants.{Server, Client}

abbrev pub side_seen : Side → calls.Side
side_seen Server = calls.Server
side_seen Client = calls.Client
