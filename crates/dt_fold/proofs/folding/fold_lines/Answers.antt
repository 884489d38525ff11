use Rattle.std.proofs.Common.{sym, ◌∙◌, arith}
use Rattle.std.proofs.lemmas.Bool.{eqb-true}
use Rattle.std.proofs.lemmas.Result.{err_from_is_err_and}
use Rattle.dt_fold.proofs.Lines.{begun, ends_on, ends_refused, ends_stopped, refused_on, stops_on, turned_on}
use Rattle.dt_fold.proofs.folding.fold_lines.Goals as goal

pub loop-rest-init : goal.loop-rest-init
loop-rest-init g c = record { on = begun _ _; few = omega arith }

pub returns-in_err-fault : goal.returns-in_err-fault
returns-in_err-fault g c =
    let p = err_from_is_err_and c.from_residual.result c.from_residual.ensures.1 in
    rw (p.1, p.2) (stops_on g.K.Sink.sight g.T.LineTurns.turns c.loop-rest.number (g.T.LineTurns.state c.loop-rest.lines) (g.T.LineTurns.state c.turn.new.self) c.split_line.result.0.now c.loop-rest.rest.now c.split_line.result.1.now c.loop-rest.out c.turn.new.out c.in_err-fault.field-0.0 c.split_line.ensures.lines c.loop-rest.invariant.on c.in_err-fault.ensures)

pub returns-in-Some : goal.returns-in-Some
returns-in-Some g c =
    let t = rw c.in-Some.is at c.in_ok-fault.ensures in
    refused_on g.K.Sink.sight g.T.LineTurns.turns c.loop-rest.number (g.T.LineTurns.state c.loop-rest.lines) (g.T.LineTurns.state c.turn.new.self) c.split_line.result.0.now c.loop-rest.rest.now c.split_line.result.1.now c.loop-rest.out c.turn.new.out c.in-Some.fault c.split_line.ensures.lines c.loop-rest.invariant.on t

pub overflow_add-number : goal.overflow_add-number
overflow_add-number g c = omega (arith, c.requires.few, c.loop-rest.invariant.few, c.split_line.ensures.fewer)

pub loop-rest-smaller : goal.loop-rest-smaller
loop-rest-smaller g c = c.split_line.ensures.fewer

pub loop-rest-preserved : goal.loop-rest-preserved
loop-rest-preserved g c =
    let t = rw c.in_default.is at c.in_ok-fault.ensures in
    record {
      on = turned_on g.K.Sink.sight g.T.LineTurns.turns c.loop-rest.number (g.T.LineTurns.state c.loop-rest.lines) (g.T.LineTurns.state c.turn.new.self) c.split_line.result.0.now c.loop-rest.rest.now c.split_line.result.1.now c.loop-rest.out c.turn.new.out c.split_line.ensures.lines c.loop-rest.invariant.on t;
      few = omega (arith, c.loop-rest.invariant.few, c.split_line.ensures.fewer);
    }

pub returns-in_err-fault-2 : goal.returns-in_err-fault-2
returns-in_err-fault-2 g c =
    let p = err_from_is_err_and c.from_residual-in_err-fault-2.result c.from_residual-in_err-fault-2.ensures.1 in
    rw (p.1, p.2) (ends_stopped g.K.Sink.sight g.T.LineTurns.turns c.loop-rest.number (g.T.LineTurns.state c.loop-rest.lines) c.loop-rest.rest.now c.loop-rest.out c.close.new.out c.in_err-fault-2.field-0.0 (omega (arith, eqb-true _ _ (sym c.is_empty.ensures ∙ c.loop-rest-test.false))) c.loop-rest.invariant.on c.in_err-fault-2.ensures)

pub returns-in-Some-2 : goal.returns-in-Some-2
returns-in-Some-2 g c =
    let t = rw c.in-Some-2.is at c.in_ok-fault-2.ensures in
    ends_refused g.K.Sink.sight g.T.LineTurns.turns c.loop-rest.number (g.T.LineTurns.state c.loop-rest.lines) c.loop-rest.rest.now c.loop-rest.out c.close.new.out c.in-Some-2.fault (omega (arith, eqb-true _ _ (sym c.is_empty.ensures ∙ c.loop-rest-test.false))) c.loop-rest.invariant.on t

pub returns-in-None : goal.returns-in-None
returns-in-None g c =
    let t = rw c.in-None.is at c.in_ok-fault-2.ensures in
    ends_on g.K.Sink.sight g.T.LineTurns.turns c.loop-rest.number (g.T.LineTurns.state c.loop-rest.lines) c.loop-rest.rest.now c.loop-rest.out c.close.new.out (omega (arith, eqb-true _ _ (sym c.is_empty.ensures ∙ c.loop-rest-test.false))) c.loop-rest.invariant.on t
