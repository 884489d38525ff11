use Rattle.std.proofs.Common.{◌≡◌, map, take}
use Rattle.dt_trial.specs.Trials.{entry_of, wire_of}
use Rattle.dt_trial.proofs.trials.wire_of.Given as goal

abbrev pub invariant-loop-take : goal.invariant-loop-take
invariant-loop-take l = l.wire ≡ record (wire_of l.trial) { entries = map entry_of (take l.take-index l.trial.takes.now) }
