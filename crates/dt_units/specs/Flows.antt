-- Flows.
use Rattle.std.specs.Prelude.{◌<◌, ◌^◌}
use Rattle.dt_units.specs.declared.endpoints.Flow.{Flow}

-- The nodes of a flow are numbers of 32 bits, and its ports of 16. Every flow of the code is one; a
-- variable of a definition may be any.
pub record IsFlow (f : Flow) : Type 0 where
  pub from : f.from.0 < 2 ^ 32
  pub from_port : f.from_port < 2 ^ 16
  pub to : f.to.0 < 2 ^ 32
  pub to_port : f.to_port < 2 ^ 16
