use Rattle.std.proofs.Common.{◌≡◌, ◌+◌, take, ◌==◌, cond, Some, None, arith}
use Rattle.std.proofs.lemmas.Grind.{common_steps}
use Rattle.dt_relay.specs.Places.{place_of}
use Rattle.dt_relay.proofs.Lookups.{first_told, place_more}
use Rattle.dt_relay.proofs.first_places.places_in.Goals as goal

pub loop-i-preserved : goal.loop-i-preserved
loop-i-preserved g c = λ k.
    let more : place_of g.T.Keyed.key k (take (c.loop-i.i + 1) c.args.list.now) ≡ first_told (place_of g.T.Keyed.key k (take c.loop-i.i c.args.list.now)) (cond (c.key.result == k) (Some c.loop-i.i) None) = rw c.key.ensures (place_more g.T.Keyed.key k c.loop-i.i c.args.list.now c.index-list-i.result (omega arith) c.index-list-i.is) in
    grind (arith, common_steps, c.loop-i.invariant k, c.loop-i.invariant c.key.result)
