use Rattle.std.proofs.Common.{◌≡◌, ◌++◌}
use Rattle.dt_world_model.specs.Setup.{routes_of}
use Rattle.dt_notes.specs.Setups.{stated_routes}
use Rattle.dt_world.proofs.starts.routes_of.Given as goal

abbrev pub invariant-loop-way : goal.invariant-loop-way
invariant-loop-way l = l.routes.items ++ routes_of l.node (stated_routes l.way-iterator) ≡ routes_of l.node (stated_routes l.ways.entries)
