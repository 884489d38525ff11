use Rattle.std.proofs.Common.{Bool, Result, ◌∙◌, ap, refl, subst, sym}
use Rattle.std.proofs.lemmas.Result.{err_from_is_err_and}
use Rattle.dt_edges.proofs.Puts.{grows_then}
use Rattle.dt_fold.specs.declared.stops.Stop.{Stop}
use Rattle.dt_trace.specs.Inputs.{Reading}
use Rattle.dt_turn.specs.Codes.{node_seen}
use Rattle.dt_node.specs.Deeds.{log_scene}
use Rattle.dt_node.specs.Logging.{Fixed, log_sight}
use Rattle.dt_node.specs.TurnScripts.{Leaves, PlaysTurn, ended_by, turn_script}
use Rattle.dt_node.proofs.Beginning.{noted_fails, noted_takes, turn_begun, turn_not_begun}
use Rattle.dt_node.proofs.Logged.{ends_fixed, ends_sink, leaves_ended, leaves_fault, turn_ends}
use Rattle.dt_node.proofs.node_logs.NodeLog.take_turn.Goals as goal

pub returns-in_err-note-clause-ends : goal.returns-in_err-note-clause-ends
returns-in_err-note-clause-ends g c =
    let p = err_from_is_err_and c.from_residual.result c.from_residual.ensures.1 in
    let v = c.args.self.now in
    let a = g.K.Sink.sight v.out.now in
    let b = g.K.Sink.sight c.note.new.out in
    rw (p.1, p.2) (turn_not_begun v.writer.form v.me v.moment c.args.turn c.args.node.now v.writer.gives (g.W.Wire.sight v.wire.now) a b
    (noted_fails _ g.K.Sink.sight v.writer.form (Reading c.args.turn.reading) c.in_err-note.field-0.0 v.out.now c.note.new.out c.in_err-note.ensures))

pub returns-in_err-note-clause-leaves : goal.returns-in_err-note-clause-leaves
returns-in_err-note-clause-leaves g c =
    let p = err_from_is_err_and c.from_residual.result c.from_residual.ensures.1 in
    rw (p.1, p.2) (leaves_fault c.args.turn.orders.now c.args.turn.moment c.args.node.now)

pub returns-clause-ends : goal.returns-clause-ends
returns-clause-ends g c =
    let wire = g.W.Wire.sight in
    let sink = g.K.Sink.sight in
    let v = c.args.self.now in
    let w = c.turn-done.new.visitor in
    let t = c.args.turn in
    let form = v.writer.form in
    let old = c.args.node.now in
    let new = c.turn-done.new.node in
    let first = noted_takes _ sink form (Reading c.args.turn.reading) c.in_ok-note.field-0 v.out.now c.note.new.out c.in_ok-note.ensures in
    subst (λ (r : Result Bool Stop). PlaysTurn form v.me v.moment t r old new (log_scene wire sink v) (log_scene wire sink w)) {x = ended_by w.failed c.turn-done.result} (sym c.ended.ensures)
    (turn_begun form v.me v.moment t old v.writer.gives (wire v.wire.now) (sink v.out.now) (sink c.note.new.out) (ended_by w.failed c.turn-done.result) new (log_scene wire sink w) first
    (turn_ends (log_sight wire sink) w.failed c.turn-done.result (turn_script t old) _ w (node_seen t.orders.now new) c.turn-done.ensures.ends c.requires.fine refl))

pub returns-clause-same_form : goal.returns-clause-same_form
returns-clause-same_form g c = ap (λ (f : Fixed). f.form) (ends_fixed (log_sight g.W.Wire.sight g.K.Sink.sight) c.turn-done.result _ _ _ _ c.turn-done.ensures.ends c.requires.fine)

pub returns-clause-same_wire : goal.returns-clause-same_wire
returns-clause-same_wire g c = ap (λ (f : Fixed). f.wire) (ends_fixed (log_sight g.W.Wire.sight g.K.Sink.sight) c.turn-done.result _ _ _ _ c.turn-done.ensures.ends c.requires.fine)

pub returns-clause-same_out : goal.returns-clause-same_out
returns-clause-same_out g c = ap (λ (f : Fixed). f.out) (ends_fixed (log_sight g.W.Wire.sight g.K.Sink.sight) c.turn-done.result _ _ _ _ c.turn-done.ensures.ends c.requires.fine)

pub returns-clause-same_sink : goal.returns-clause-same_sink
returns-clause-same_sink g c =
    let first = noted_takes _ g.K.Sink.sight c.args.self.now.writer.form (Reading c.args.turn.reading) c.in_ok-note.field-0 c.args.self.now.out.now c.note.new.out c.in_ok-note.ensures in
    (ends_sink (log_sight g.W.Wire.sight g.K.Sink.sight) c.turn-done.result _ _ _ _ c.turn-done.ensures.ends c.requires.fine).0 ∙ first.identity

pub returns-clause-reached : goal.returns-clause-reached
returns-clause-reached g c =
    let first = noted_takes _ g.K.Sink.sight c.args.self.now.writer.form (Reading c.args.turn.reading) c.in_ok-note.field-0 c.args.self.now.out.now c.note.new.out c.in_ok-note.ensures in
    grows_then _ _ _ first.reached (ends_sink (log_sight g.W.Wire.sight g.K.Sink.sight) c.turn-done.result _ _ _ _ c.turn-done.ensures.ends c.requires.fine).1

pub returns-clause-leaves : goal.returns-clause-leaves
returns-clause-leaves g c =
    let o = c.args.turn.orders.now in
    let now = c.args.turn.moment in
    let node = c.turn-done.new.node in
    subst (λ (r : Result Bool Stop). Leaves o now r node) (sym c.ended.ensures) (leaves_ended o now c.turn-done.new.visitor.failed c.turn-done.result node c.turn-done.ensures.ready c.turn-done.ensures.going c.turn-done.ensures.memory)
