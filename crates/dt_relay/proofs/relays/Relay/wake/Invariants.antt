use Rattle.std.proofs.Common.{◌≡◌, drop}
use Rattle.dt_units.specs.Moments.{earlier}
use Rattle.dt_world_model.specs.Relay.{relay_wake}
use Rattle.dt_relay.proofs.relays.Relay.wake.Given as goal

abbrev pub invariant-loop-queue : goal.invariant-loop-queue
invariant-loop-queue g l = earlier l.least (relay_wake (drop l.queue-index l.self.outs)) ≡ relay_wake l.self.outs
