use Rattle.std.proofs.Common.{sym, subst}
use Rattle.dt_scenario.specs.Parts.{scene_in}
use Rattle.dt_replay.specs.declared.outcomes.Outcome.{Outcome}
use Rattle.dt_replay.specs.declared.schedules.ScheduledWorld.{ScheduledWorld}
use Rattle.dt_replay.specs.Replays.{Replays}
use Rattle.dt_replay.proofs.Ends.{replay_ends}
use Rattle.dt_replay.proofs.Scenes.{all_safe, lines_safe}
use Rattle.dt_replay.proofs.replaying.replay.Goals as goal

pub returns-clause-safe : goal.returns-clause-safe
returns-clause-safe g c = λ count. lines_safe count c.args.bytes.now

pub returns-clause-whole : goal.returns-clause-whole
returns-clause-whole g c = all_safe c.args.bytes.now

pub returns-clause-ends : goal.returns-clause-ends
returns-clause-ends g c =
    subst (λ (o : Outcome). Replays o c.args.bytes.now (g.K.Sink.sight c.args.out.now) (g.K.Sink.sight c.fold_behind_buffer-folded.new.out)) (sym c.outcome_of.ensures)
    (replay_ends c.args.bytes.now (scene_in (λ (s : ScheduledWorld). s.world.state) c.new-schedule.result) c.fold_behind_buffer-folded.result (g.K.Sink.sight c.args.out.now) (g.K.Sink.sight c.fold_behind_buffer-folded.new.out) c.new-schedule.ensures c.fold_behind_buffer-folded.ensures)
