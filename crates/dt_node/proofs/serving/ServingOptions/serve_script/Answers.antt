use Rattle.std.proofs.Common.{sym}
use Rattle.dt_script.specs.Codes.{orders_seen}
use Rattle.dt_node.specs.Serving.{edges}
use Rattle.dt_node.proofs.Endings.{answers_memory, answers_refused, answers_served, answers_write, orders_good, orders_there}
use Rattle.dt_node.proofs.serving.ServingOptions.serve_script.Goals as goal

pub serve_orders-requires : goal.serve_orders-requires
serve_orders-requires g c =
    orders_good c.args.script.now c.new-draft.result c.new-draft.ensures c.fold_input.new.lines (orders_seen c.in-Some.orders) c.requires c.in-Ok-true.ensures.state c.in-Some.ensures

pub returns-in-Some : goal.returns-in-Some
returns-in-Some g c =
    answers_served c.args.script.now c.new-draft.result c.new-draft.ensures c.args.self.form (g.W.Wire.sight c.args.wire.now) (g.C.Clock.sight c.args.clock.now) (g.K.Sink.sight c.args.out.now) (g.K.Sink.sight c.fold_input.new.out)
    c.in-Ok-true.field-0 c.fold_input.new.lines (orders_seen c.in-Some.orders) c.serve_orders.result (edges (g.W.Wire.sight c.serve_orders.new.wire) (g.C.Clock.sight c.serve_orders.new.clock) (g.K.Sink.sight c.serve_orders.new.out))
    c.in-Ok-true.field-0-test c.in-Ok-true.ensures.accepted c.in-Ok-true.ensures.state c.in-Some.ensures c.in-Ok-true.ensures.logs c.serve_orders.ensures

pub unreachable-requires : goal.unreachable-requires
unreachable-requires g c =
    orders_there c.args.script.now c.new-draft.result c.new-draft.ensures c.in-Ok-true.field-0 c.fold_input.new.lines c.in-Ok-true.field-0-test c.in-Ok-true.ensures.accepted c.in-Ok-true.ensures.state (sym c.in-None.ensures)

pub returns-in-Ok-false : goal.returns-in-Ok-false
returns-in-Ok-false g c =
    answers_refused c.args.script.now c.new-draft.result c.new-draft.ensures c.args.self.form (g.W.Wire.sight c.args.wire.now) (g.C.Clock.sight c.args.clock.now) (g.K.Sink.sight c.args.out.now) (g.K.Sink.sight c.fold_input.new.out)
    c.in-Ok-false.field-0 c.in-Ok-false.field-0-test c.in-Ok-false.ensures.accepted c.in-Ok-false.ensures.logs

pub returns-in-Err-NoMemory : goal.returns-in-Err-NoMemory
returns-in-Err-NoMemory g c =
    answers_memory c.args.script.now c.new-draft.result c.new-draft.ensures c.args.self.form (g.W.Wire.sight c.args.wire.now) (g.C.Clock.sight c.args.clock.now) (g.K.Sink.sight c.args.out.now) (g.K.Sink.sight c.fold_input.new.out)
    (rw c.in-Err-NoMemory.field-0-is at c.in-Err-NoMemory.ensures.logs)

pub returns : goal.returns
returns g c =
    answers_write c.args.script.now c.new-draft.result c.new-draft.ensures c.args.self.form (g.W.Wire.sight c.args.wire.now) (g.C.Clock.sight c.args.clock.now) (g.K.Sink.sight c.args.out.now) (g.K.Sink.sight c.fold_input.new.out)
    (rw c.in-Err-WriteFault.field-0-is at c.in-Err-WriteFault.ensures.logs)
