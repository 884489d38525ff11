use Rattle.std.proofs.Common.{rules, List, ℕ, subst}
use Rattle.dt_fold.specs.Logging.{PassesRest, with_waiting}
use Rattle.dt_trace.specs.Inputs.{Reading}
use Rattle.dt_turn.specs.Codes.{node_seen}
use Rattle.dt_node.specs.Deeds.{scene}
use Rattle.dt_node.specs.Logging.{noted_text}
use Rattle.dt_node.specs.TurnScripts.{TakesTurn, turn_script}
use Rattle.dt_node.proofs.Gathered.{gathered}
use Rattle.dt_node.proofs.Logged.{leaves_put}
use Rattle.dt_node.proofs.node_runs.NodeRun.take_turn.Goals as goal

pub returns-clause-ends : goal.returns-clause-ends
returns-clause-ends g c =
    let t = c.args.turn in
    let writer = c.args.self.now.recorder.writer in
    let after = c.play-stopped.new.writer in
    let w = g.W.Wire.sight c.args.wire.now in
    let v = g.W.Wire.sight c.play-stopped.new.wire in
    let a = g.K.Sink.sight c.args.out.now in
    let mid = g.K.Sink.sight c.play-stopped.new.out.out.now in
    let waits = c.play-stopped.new.out.buffer.now in
    let end = g.K.Sink.sight c.pass_rest.new.out in
    let old = c.args.self.now.node in
    let new = c.play-stopped.new.node in
    let into = subst (λ (b : List ℕ). TakesTurn writer.form t c.play-stopped.result old new (scene writer.gives w (with_waiting a b)) (scene after.gives v (with_waiting mid waits))) c.requires.empty c.play-stopped.ensures.ends in
    let puts : PassesRest c.play-stopped.result c.pass_rest.result waits mid end = search rules in
    gathered writer.form t.orders.now.setup.me.0 t.moment writer.gives after.gives (noted_text writer.form (Reading t.reading)) (turn_script t old) w v a mid end waits c.play-stopped.ensures.reached c.play-stopped.result c.pass_rest.result (node_seen t.orders.now new) into puts

pub returns-clause-leaves : goal.returns-clause-leaves
returns-clause-leaves g c = leaves_put c.args.turn.orders.now c.args.turn.moment c.play-stopped.result c.pass_rest.result c.play-stopped.new.node c.pass_rest.ensures.same c.pass_rest.ensures.memory c.play-stopped.ensures.leaves
