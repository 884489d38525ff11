use Rattle.std.proofs.Common.{◌≡◌, map, take}
use Rattle.dt_world_model.specs.Relay.{empty_out}
use Rattle.dt_relay.proofs.relays.empty_queues.Given as goal

abbrev pub invariant-loop-out : goal.invariant-loop-out
invariant-loop-out g l = l.queues.items ≡ map (λ o. empty_out o.link o.pace) (take l.out-index l.outs)
