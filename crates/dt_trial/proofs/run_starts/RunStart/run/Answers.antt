use Rattle.std.proofs.Common.{rules, map, refl, string_bytes}
use Rattle.dt_edges.specs.Clocks.{clock_in_memory}
use Rattle.dt_edges.specs.Sources.{source_in_memory}
use Rattle.dt_trial.specs.Trials.{StartSeen, start_seen}
use Rattle.dt_trial.proofs.Running.{is_run, is_start}
use Rattle.dt_trial.proofs.run_starts.RunStart.run.Goals as goal

pub returns : goal.returns
returns c =
    let start : StartSeen = start_seen c.args.self in
    let begun : StartSeen = record { words = map string_bytes c.deref.result.now; source = start.source; clock = start.clock; out = start.out; err = start.err } in
    is_run start begun c.args.wire.now c.run-status.new.wire
    (record { status = c.run-status.result; out = c.run-status.new.out; err = c.run-status.new.err })
    (source_in_memory c.run-status.new.source) (clock_in_memory c.run-status.new.clock)
    (is_start begun start (search rules) refl refl refl refl) c.run-status.ensures.answers c.run-status.ensures.same_wire
