-- A node between two turns.
use Rattle.std.specs.Prelude.{ℕ, Bool, true, false, List, Option, Some, None, option_map}
use Rattle.dt_world_model.specs.Relay.{new_relay}
use Rattle.dt_world_model.specs.Station.{Station, station_with}
use Rattle.dt_station.specs.Stations.{host_started}
use Rattle.dt_shelf.specs.Shelves.{Shelf, empty_shelf}
use Rattle.dt_script.specs.Orders.{Command, Orders, Setup}

-- a node between two turns: its station, the commands that aren't done yet, and its shelf, if it has one
pub record Node : Type 0 where
  pub station : Station (Unit {0})
  pub commands : List Command
  pub shelf : Option Shelf

abbrev pub node_with : Station (Unit {0}) → List Command → Option Shelf → Node
node_with station commands shelf = record { station = station; commands = commands; shelf = shelf }

-- the moment at which a host is restarted, if it is
abbrev pub restart_of : Bool → Option ℕ
restart_of true = Some 0
restart_of false = None

abbrev pub first_station : Setup → Station (Unit {0})
first_station s = station_with (host_started s.params s.me (restart_of s.again)) (new_relay s.outs s.ins s.routes)

-- the node before its first turn
abbrev pub first_node : Orders → Node
first_node o = node_with (first_station o.setup) o.commands (option_map empty_shelf o.setup.shelf)
