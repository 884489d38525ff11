-- Stations of the world beside a network: the links and routes that their nodes are handed.
use Rattle.std.specs.Prelude.{◌==◌, ℕ, List, [], ◌∷◌, map, option_map, unwrap_or}
use Rattle.dt_world_model.specs.Host.{first_host}
use Rattle.dt_world_model.specs.Relay.{Relay, new_relay}
use Rattle.dt_world_model.specs.declared.links.InLink.{InLink}
use Rattle.dt_world_model.specs.declared.links.Link.{Link}
use Rattle.dt_world_model.specs.declared.links.Route.{Route}
use Rattle.dt_world_model.specs.Station.{station_with}
use Rattle.dt_world_model.specs.Tables.{look, write}
use Rattle.dt_world_model.specs.World.{Placed, World}
use Rattle.dt_network.specs.Network.{NodeSetup, Options, Setup}

-- A STATION'S ROUTES are others from then on, and nothing else of the world. Packets that wait stay where they are
abbrev pub routed : {T : Type 0} → List Route → Relay T → Relay T
routed routes relay = record { outs = relay.outs; ins = relay.ins; routes = routes }

abbrev pub rerouted : List Route → Placed → Placed
rerouted routes at = record { zero = at.zero; life = at.life; station = station_with at.station.host (routed routes at.station.relay) }

abbrev pub reroute : World → ℕ → Placed → List Route → World
reroute w n at routes = record w { stations = write ◌==◌ n (rerouted routes at) w.stations }

-- A STATION HAS OTHER LINKS AND ROUTES, and no packet waits there
abbrev pub relay_with : {T : Type 0} → Options → Relay T
relay_with options = new_relay options.outs options.ins options.routes

abbrev pub relinked : Options → Placed → Placed
relinked options at = record { zero = at.zero; life = at.life; station = station_with at.station.host (relay_with options) }

-- the links of a world by which its own step of an arrival finds the station and the charge: each that comes to some station. Where two stations have one number, it is the first one's
abbrev pub links_to : ℕ → List InLink → List Link → List Link
links_to n [] rest = rest
links_to n (i ∷ ins) rest = (record { link = i.link; from = n; to = n; charge = i.charge; pace = 0 }) ∷ links_to n ins rest

abbrev pub ins_in : List (ℕ × Placed) → ℕ → List InLink
ins_in all n = unwrap_or (option_map (λ at. at.station.relay.ins) (look ◌==◌ n all)) []

abbrev pub links_of : List (ℕ × Placed) → List (ℕ × Placed) → List Link
links_of all [] = []
links_of all (s ∷ ss) = links_to s.0 (ins_in all s.0) (links_of all ss)

abbrev pub with_stations : World → List (ℕ × Placed) → World
with_stations w stations = record w { stations = stations; links = links_of stations stations }

abbrev pub relink : World → ℕ → Placed → Options → World
relink w n at options = with_stations w (write ◌==◌ n (relinked options at) w.stations)

-- THE WORLD OF A SETUP: each of its nodes is a station that starts for the first time
abbrev pub first_placed : ℕ × NodeSetup → ℕ × Placed
first_placed s = (s.0, record { zero = s.1.ahead; life = 0; station = station_with (first_host s.0) (relay_with s.1.options) })

abbrev pub first_world : Setup → World
first_world setup =
    let stations = map first_placed setup.nodes in
    record { params = setup.params; now = 0; stations = stations; links = links_of stations stations; copies = []; ledgers = record { rows = []; runs = [] } }
