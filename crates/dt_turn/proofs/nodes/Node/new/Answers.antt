use Rattle.std.proofs.Common.{refl}
use Rattle.dt_turn.proofs.Readying.{ready_first}
use Rattle.dt_turn.proofs.nodes.Node.new.Goals as goal

pub returns-clause-ready : goal.returns-clause-ready
returns-clause-ready c =
    ready_first c.args.orders.now _ c.restart-again.result c.deref.result.now c.deref-2.result.now c.deref-3.result.now c.restart-again.ensures c.deref-2.ensures.value c.in_ok-station.ensures refl c.in_ok-resize.ensures.len
