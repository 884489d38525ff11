use Rattle.std.proofs.Common.{◌≡◌, length, take}
use Rattle.dt_edges.specs.Sinks.{Takes}
use Rattle.dt_log.specs.Logs.{log_text}
use Rattle.dt_world_model.specs.World.{last_lines}
use Rattle.dt_replay.proofs.running.close_world.Given as goal

-- the lines of the flows before this one were put
abbrev pub invariant-loop-i : goal.invariant-loop-i
invariant-loop-i g l = record {
  taken : Takes (log_text (take l.i (last_lines l.world.state))) (g.K.Sink.sight l.fn.out) (g.K.Sink.sight l.out);
  flows : l.i-end ≡ length l.world.state.ledgers.rows;
}
