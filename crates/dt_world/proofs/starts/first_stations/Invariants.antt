use Rattle.dt_world.proofs.Beginning.{Begun}
use Rattle.dt_world.proofs.starts.first_stations.Given as goal

abbrev pub invariant-loop-node : goal.invariant-loop-node
invariant-loop-node l = Begun l.setup.params l.setup l.stations.entries l.node-iterator l.setup.stations
