use Rattle.std.proofs.Common.{◌≡◌, map, nat_eq, take}
use Rattle.std.specs.HashMap.{get}
use Rattle.dt_relay.proofs.relays.firsts_of.Given as goal

abbrev pub invariant-loop-out : goal.invariant-loop-out
invariant-loop-out l = l.firsts.items ≡ map (λ o. get nat_eq l.places o.link) (take l.out-index l.outs)
