-- Datagrams whose age is measured.
use Rattle.std.specs.Prelude.{◌≡◌, ℕ, ◌+◌, ◌-◌, ◌/◌, ◌^◌, ◌≤◌, ◌<◌, Contains, List}
use Rattle.dt_endpoint.specs.Endpoints.{EndpointValue}
use Rattle.dt_network.specs.Network.{Flight, Network, Setup, clock_of}
use Rattle.dt_watch.specs.Ages.{IsMade, age_of, waited_of}
use Rattle.dt_world_model.specs.Relay.{charge_of}

-- A DATAGRAM THAT COMES TO A NODE, of a frame that left some node, with the wait that is computed of its age
pub record IsWatched (setup : Setup) (net : Network) (n now link : ℕ) (e : EndpointValue) (datagram : List ℕ) (waited : ℕ) : Type 0 where
  pub flight : Flight
  pub left : Contains net.left flight
  pub octets : flight.frame.octets ≡ datagram
  -- the node's clock, in microseconds, at the true moments. A reading of it had surely passed when the stamp was read, and the datagram came not before
  pub clock : ℕ → ℕ
  pub sure : ℕ
  pub made : ℕ
  pub came : ℕ
  pub is_made : IsMade clock sure made came
  -- the stamp was read not after the frame left its node, and the node is told the millisecond in which the datagram came
  pub before : clock made / 1000 ≤ flight.put + clock_of setup n
  pub told : clock came / 1000 ≡ now
  -- the wait has what is counted for stops of the clock, and is less than the most that can be said, which no life reaches
  pub uncertain : ℕ
  pub waits : waited ≡ waited_of (age_of (clock came) sure uncertain) (charge_of link e.state.relay.ins)
  pub alive : waited < 2 ^ 32 - 1
