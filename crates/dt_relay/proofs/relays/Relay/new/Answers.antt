use Rattle.dt_relay.proofs.Lookups.{firsts_queues, tells_queues}
use Rattle.dt_relay.proofs.relays.Relay.new.Goals as goal

pub invariant_of-result : goal.invariant_of-result
invariant_of-result g c = record {
  by_out_link = tells_queues c.args.outs.now c.in_ok-empty_queues.field-0.items c.in_ok-out_places.out_places c.in_ok-empty_queues.ensures c.in_ok-out_places.ensures;
  by_in_link = rw c.in_ok-from_slice.ensures.items c.in_ok-places_in.ensures;
  by_node = rw c.in_ok-from_slice-2.ensures.items c.in_ok-places_in-2.ensures;
  by_place = firsts_queues c.args.outs.now c.in_ok-empty_queues.field-0.items c.in_ok-firsts.firsts.items c.in_ok-out_places.out_places c.in_ok-empty_queues.ensures (tells_queues c.args.outs.now c.in_ok-empty_queues.field-0.items c.in_ok-out_places.out_places c.in_ok-empty_queues.ensures c.in_ok-out_places.ensures) c.in_ok-firsts.ensures;
}
