use Rattle.std.proofs.Common.{subst, sym, ◌/◌, ◌+◌, ◌-◌, ◌^◌, ◌≤◌, ◌<◌}
use Rattle.dt_network.specs.Network.{clock_of}
use Rattle.dt_watch.specs.Ages.{age_of, waited_of}
use Rattle.dt_world_model.specs.Relay.{charge_of}
use Rattle.dt_watch_laws.proofs.InTime.{under_way}
use Rattle.dt_watch_laws.proofs.watched_datagram_is_in_time.Goals as goal

pub returns : goal.returns
returns c = λ setup net n now link e datagram waited time w.
    let charge = charge_of link e.state.relay.ins in
    let wait = waited_of (age_of (w.clock w.came) w.sure w.uncertain) charge in
    let alive = subst (λ x. x < 2 ^ 32 - 1) w.waits w.alive in
    let age = c.datagram_is_no_older_than_charge_and_wait.ensures.millis w.clock w.sure w.made w.came w.uncertain charge w.is_made alive in
    record {
      flight = w.flight;
      left = w.left;
      octets = w.octets;
      in_time = subst (λ x. net.now - w.flight.put ≤ charge + x) (sym w.waits)
          (under_way net.now w.flight.put (clock_of setup n) (w.clock w.came / 1000) (w.clock w.made / 1000) now (charge + wait) time.clock w.before w.told age);
    }
