use Rattle.std.proofs.Common.{Option, Result, reverse, sym, subst}
use Rattle.dt_reports.specs.declared.faults.Fault.{Fault}
use Rattle.dt_fold.specs.declared.stops.Stop.{Stop}
use Rattle.dt_fold.specs.Logging.{TurnsTo}
use Rattle.dt_calls_model.specs.CallStep.{call_step}
use Rattle.dt_calls_input.specs.CallInputs.{by_calls}
use Rattle.dt_calls.specs.CallOutcomes.{call_event}
use Rattle.dt_calls_input.proofs.CallTurns.{step_same, step_turns}
use Rattle.dt_calls_input.proofs.calling.step_logged.Goals as goal

pub returns-clause-turns : goal.returns-clause-turns
returns-clause-turns g c =
    let before = c.args.calls.now in
    let new = c.step-answer.new.self in
    let e = call_event c.args.event.now in
    subst (λ (a : Result (Option Fault) Stop). TurnsTo g.K.Sink.sight (by_calls (call_step reverse before.calls e)) a before.calls new.calls c.args.log.now.log.out.now c.step-answer.new.lines.log.out.now) (sym c.stepped.ensures)
    (step_turns g.K.Sink.sight before.calls e new.calls c.args.log.now c.step-answer.new.lines c.requires.fine c.step-answer.result c.step-answer.ensures.steps)

pub returns-clause-same : goal.returns-clause-same
returns-clause-same g c =
    step_same g.K.Sink.sight c.args.calls.now.calls (call_event c.args.event.now) c.step-answer.new.self.calls c.args.log.now c.step-answer.new.lines c.requires.fine c.step-answer.result c.step-answer.ensures.steps
