use Rattle.std.proofs.Common.{ap}
use Rattle.dt_top.proofs.Owing.{by_audit, by_calls, by_node, by_replay, by_retrace, by_trace}
use Rattle.dt_top.proofs.serving.serve_input.Goals as goal
use Rattle.dt_top.proofs.serving.serve_input.Goals.{in-Replay, in-Node, in-Trace, in-Retrace, in-Calls, in-Audit}

pub returns-clause-owed : goal.returns-clause-owed
returns-clause-owed g c =
    elim c.match-job.branch [
      | in-Replay w ↦ by_replay _ _ _ _ _ _ _ w.in-Replay.is w.result-is w.replay_ending.ensures (ap g.K.Sink.sight w.out-is) w.replay.ensures.ends
      | in-Node w ↦ by_node _ _ _ _ _ _ _ _ _ w.in-Node.is w.result-is w.node_ending.ensures (ap g.W.Wire.sight w.wire-is) (ap g.C.Clock.sight w.clock-is) (ap g.K.Sink.sight w.out-is) w.serve.ensures.answers w.serve.ensures.completes
      | in-Trace w ↦ by_trace _ _ _ _ _ _ _ _ _ w.in-Trace.is w.result-is w.node_ending-in-Trace.ensures (ap g.W.Wire.sight w.wire-is) (ap g.C.Clock.sight w.clock-is) (ap g.K.Sink.sight w.out-is) w.serve_traced.ensures.answers w.serve_traced.ensures.completes
      | in-Retrace w ↦ by_retrace _ _ _ _ _ _ _ w.in-Retrace.is w.result-is w.node_ending-in-Retrace.ensures (ap g.K.Sink.sight w.out-is) w.retrace.ensures
      | in-Calls w ↦ by_calls _ _ _ _ _ _ _ w.in-Calls.is w.result-is w.calls_ending.ensures (ap g.K.Sink.sight w.out-is) w.calls.ensures.ends
      | in-Audit w ↦ by_audit _ _ _ _ _ _ _ w.in-Audit.is w.result-is w.audit_ending.ensures (ap g.K.Sink.sight w.out-is) w.audit.ensures.ends
    ]
