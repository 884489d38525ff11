use Rattle.std.proofs.lemmas.Result.{err_from_is_err_and}
use Rattle.dt_edges.proofs.Puts.{takes_nothing}
use Rattle.dt_replay.proofs.schedules.ScheduledWorld.use_node.Goals as goal

-- no line was told yet
pub returns-in_err-flow : goal.returns-in_err-flow
returns-in_err-flow g c =
    let p = err_from_is_err_and c.from_residual.result c.from_residual.ensures.1 in
    rw (p.1, p.2) (0, takes_nothing _)
