use Rattle.std.proofs.Common.{Option, Result, sym, subst}
use Rattle.dt_reports.specs.declared.faults.Fault.{Fault}
use Rattle.dt_fold.specs.declared.stops.Stop.{Stop}
use Rattle.dt_fold.specs.Logging.{TurnsTo}
use Rattle.dt_notes.specs.Events.{event_of}
use Rattle.dt_world_model.specs.WorldStep.{world_step}
use Rattle.dt_replay.specs.Schedules.{by_step}
use Rattle.dt_replay.proofs.Steps.{step_same, step_turns}
use Rattle.dt_replay.proofs.running.step_logged.Goals as goal

pub returns-clause-turns : goal.returns-clause-turns
returns-clause-turns g c =
    let w = c.args.world.now in
    let new = c.step-answer.new.self in
    let e = event_of c.args.event.now in
    subst (λ (a : Result (Option Fault) Stop). TurnsTo g.K.Sink.sight (by_step (world_step w.state e)) a w.state new.state c.args.log.now.out.now c.step-answer.new.lines.out.now) (sym c.stepped.ensures)
    (step_turns g.K.Sink.sight w e new c.args.log.now c.step-answer.new.lines c.requires.fine c.step-answer.result c.step-answer.ensures)

pub returns-clause-same : goal.returns-clause-same
returns-clause-same g c =
    step_same g.K.Sink.sight c.args.world.now (event_of c.args.event.now) c.step-answer.new.self c.args.log.now c.step-answer.new.lines c.requires.fine c.step-answer.result c.step-answer.ensures
