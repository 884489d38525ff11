-- A turn of a node.
use Rattle.std.specs.Prelude.{ℕ, nat_le, if◌then◌else◌, List, [], ◌∷◌, Option, Some, None}
use Rattle.dt_units.specs.declared.parameters.Params.{Params}
use Rattle.dt_edges.specs.Wires.{Datagram}
use Rattle.dt_layout.specs.declared.faults.LayoutFault.{LayoutFault}
use Rattle.dt_layout.specs.Reading.{gram_fault}
use Rattle.dt_reports.specs.declared.reports.Report.TheVariants as report
use Rattle.dt_world_model.specs.Script.{Script, Done, Tell, ◌>>=◌}
use Rattle.dt_world_model.specs.Station.{Station, Event, Send, Read, Tick, station_event}
use Rattle.dt_shelf.specs.Shelves.{Shelf}
use Rattle.dt_script.specs.Drafts.{has_link}
use Rattle.dt_script.specs.Orders.{Command, Orders}
use Rattle.dt_text.specs.Tasks.{Task, Sends, Reads}
use Rattle.dt_turn.specs.Nodes.{Node, node_with}
use Rattle.dt_turn.specs.Shelving.{arrive}

-- a datagram of a peer that reads as a Deltagram arrives; another gives its line and no event
abbrev pub comes : Params → ℕ → Datagram → Option LayoutFault → Station (Unit {0}) → Option Shelf → Script (Unit {0}) (Station (Unit {0}) × Option Shelf)
comes p now d None station shelf = arrive p now d station shelf
comes p now d (Some fault) station shelf = Tell (report.Bad fault) (Done (station, shelf))

-- what the last turn took is handed in. A datagram on a link that no peer has counts as none
abbrev pub hand_in : Params → ℕ → Option Datagram → Station (Unit {0}) → Option Shelf → Script (Unit {0}) (Station (Unit {0}) × Option Shelf)
hand_in p now None station shelf = Done (station, shelf)
hand_in p now (Some d) station shelf = if has_link d.link station.relay.ins then comes p now d (gram_fault d.octets) station shelf else Done (station, shelf)

abbrev pub event_of : Task → Event (Unit {0})
event_of (Sends flow begin end octets) = Send flow octets begin end
event_of (Reads flow most) = Read flow most

-- the commands that are due are done in order, each as one event
abbrev pub do_due : Params → ℕ → Option Shelf → List Command → Station (Unit {0}) → Script (Unit {0}) Node
do_due p now shelf [] station = Done (node_with station [] shelf)
do_due p now shelf (c ∷ cs) station =
    if nat_le c.at now then (station_event p now (event_of c.task) station >>= λ after. do_due p now shelf cs after)
    else Done (node_with station (c ∷ cs) shelf)

-- A stop that is due ends the run. Else the station ticks.
abbrev pub finish : Orders → ℕ → Node → Script (Unit {0}) (Option Node)
finish o now node =
    if nat_le o.stop now then Tell report.End (Done None)
    else (station_event o.setup.params now Tick node.station >>= λ after. Done (Some (node_with after node.commands node.shelf)))

-- A turn at a moment: it hands in what came, does the commands that are due, and ticks. It answers the node after it, or nothing where
-- the stop was due.
abbrev pub turn : Orders → ℕ → Option Datagram → Node → Script (Unit {0}) (Option Node)
turn o now came node =
    hand_in o.setup.params now came node.station node.shelf >>= λ r. do_due o.setup.params now r.1 node.commands r.0 >>= λ done. finish o now done
