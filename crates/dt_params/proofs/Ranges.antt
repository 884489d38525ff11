-- A network whose numbers were tested has each in its range.
use Rattle.std.proofs.Common.{◌≡◌, Bool, true, false, arith, refl}
use Rattle.dt_params.specs.declared.networks.Network.{Network}
use Rattle.dt_params.specs.Networks.{IsNetwork, IsNetworkIf, has_counts, has_sizes, has_times, is_network}

pub ranges : (n : Network) → is_network n ≡ true → IsNetwork n
ranges n told = record {
  delay = grind (arith, told);
  round_trip = grind (arith, told);
  hops = (grind (arith, told), grind (arith, told));
  drift = grind (arith, told);
  tries = (grind (arith, told), grind (arith, told));
  mtu = (grind (arith, told), grind (arith, told));
  room = (grind (arith, told), grind (arith, told));
  wait = grind (arith, told);
  shelved = grind (arith, told);
}
