use Rattle.std.proofs.Common.{◌≡◌, List, ℕ, Result, Ok, Err}
use Rattle.dt_edges.specs.Sinks.{Puts, SinkSight}
use Rattle.dt_node.specs.Logging.{Gathers, shown}
use Rattle.dt_node.proofs.recorders.put_line.Goals as goal

gathers : {K T E : Type 0} (sight : K → SinkSight) (text : List ℕ) (result : Result T E) (old new : K) → Puts sight text result old new → Gathers text result (shown (sight old)) (shown (sight new)) × ((sight new).identity ≡ (sight old).identity)
gathers sight text (Ok done) old new h = ((h.held, h.reached, h.faults), h.identity)
gathers sight text (Err fault) old new h = (((h.count, h.held), h.reached, h.faults), h.identity)

pub returns-clause-gathers : goal.returns-clause-gathers
returns-clause-gathers g c = (gathers g.K.Sink.sight _ c.put_input.result c.args.out.now c.put_input.new.out c.put_input.ensures).0

pub returns-clause-same_sink : goal.returns-clause-same_sink
returns-clause-same_sink g c = (gathers g.K.Sink.sight _ c.put_input.result c.args.out.now c.put_input.new.out c.put_input.ensures).1
