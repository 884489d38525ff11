-- The node of the code, and what came for it, as the definitions have them.
use Rattle.std.specs.Prelude.{◌≡◌, ℕ, ◌+◌, ◌*◌, ◌≤◌, Bool, true, false, List, map, drop, vec_len, Option, Some, None, Result, Ok, Err, option_map}
use Rattle.dt_flow_model.specs.Keeping.{most_moment}
use Rattle.dt_edges.specs.Wires.{Datagram}
use Rattle.dt_layout.specs.Carried.{IsGram}
use Rattle.dt_station.specs.Stations.{StationValue}
use Rattle.dt_world_laws.specs.Counting.{HasTakenAtMost}
use Rattle.dt_script.specs.declared.orders.Orders.{Orders}
use Rattle.dt_text.specs.Tasks.{most_octets}
use Rattle.dt_script.specs.Codes.{IsGood, command_seen, orders_seen}
use Rattle.dt_script.specs.Orders as model
use Rattle.dt_turn.specs.declared.datagrams.LinkDatagram.{LinkDatagram}
use Rattle.dt_turn.specs.declared.handed_in.HandedIn.{HandedIn}
use Rattle.dt_turn.specs.declared.handed_in.HandedIn.TheVariants as handed
use Rattle.dt_turn.specs.declared.incoming.Incoming.{Incoming}
use Rattle.dt_turn.specs.declared.nodes.Node.{Node}
use Rattle.dt_turn.specs.Nodes as nodes
use Rattle.dt_turn.specs.Shelving.{datagram}

-- the commands that aren't done yet
abbrev pub left_of : Orders → ℕ → List model.Command
left_of o next = map command_seen (drop next o.commands.items)

abbrev pub node_seen : Orders → Node → nodes.Node
node_seen o node = nodes.node_with node.io.station.state (left_of o node.next) node.shelf

-- a station that an event may happen to, at a moment
pub record MayGo (now : ℕ) (station : StationValue (Unit {0})) : Type 0 where
  pub unspent : station.spent ≡ false
  pub past : station.latest ≤ now
  pub moment : now ≤ most_moment

-- what a station keeps over events at a moment in which it takes at most so many octets to send
pub record GoesOn (now octets : ℕ) (before after : StationValue (Unit {0})) : Type 0 where
  pub rules : after.rules ≡ before.rules
  pub unspent : after.spent ≡ false
  pub me : after.state.host.me ≡ before.state.host.me
  pub ins : after.state.relay.ins ≡ before.state.relay.ins
  pub past : after.latest ≤ now
  pub taken : (bound : ℕ) → HasTakenAtMost bound before.state.host → HasTakenAtMost (bound + octets) after.state.host

-- a node that can do what its orders say, at a moment
pub record IsReady (o : Orders) (now : ℕ) (node : Node) : Type 0 where
  pub rules : node.io.station.rules ≡ o.setup.rules
  pub unspent : node.io.station.spent ≡ false
  pub me : node.io.station.state.host.me ≡ o.setup.me.0
  pub ins : node.io.station.state.relay.ins ≡ o.setup.ins.items
  pub past : node.io.station.latest ≤ now
  pub taken : HasTakenAtMost (node.next * most_octets) node.io.station.state.host
  pub buf : vec_len node.buf ≡ most_octets
  pub next : node.next ≤ vec_len o.commands

-- a turn may be taken at a moment
pub record MayTurn (o : Orders) (now : ℕ) (node : Node) : Type 0 where
  pub good : IsGood (orders_seen o)
  pub ready : IsReady o now node
  pub moment : now ≤ most_moment

-- what came for a turn
abbrev pub arrival_seen : LinkDatagram → Datagram
arrival_seen a = record { link = a.link; octets = a.octets.now }

abbrev pub arrived : Option LinkDatagram → Option Datagram
arrived came = option_map arrival_seen came

-- the same where it reads as a Deltagram
abbrev pub incoming_seen : Incoming → Datagram
incoming_seen incoming = record { link = incoming.link; octets = incoming.gram.octets.now }

-- a packet that is handed in, where these octets were taken from the shelf last
abbrev pub handed_seen : List ℕ → HandedIn → Datagram
handed_seen taken (handed.Came incoming) = incoming_seen incoming
handed_seen taken (handed.Again link) = datagram link taken

-- what was taken reads as a Deltagram, where it is handed in
abbrev pub IsTaken : List ℕ → HandedIn → Type 0
IsTaken taken (handed.Came incoming) = Unit {0}
IsTaken taken (handed.Again link) = IsGram taken

-- what was taken from the shelf, by its link, and what is handed in next, where nothing failed
abbrev pub again_seen : List ℕ → Option ℕ → Option Datagram
again_seen taken link = option_map (λ link. datagram link taken) link

abbrev pub next_seen : {E : Type 0} → List ℕ → Result (Option ℕ) E → Option Datagram
next_seen taken (Ok next) = again_seen taken next
next_seen taken (Err stop) = None

-- what a turn answers: nothing where it met the stop
abbrev pub turned : {E : Type 0} → Result Bool E → nodes.Node → Option nodes.Node
turned (Ok true) node = None
turned (Ok false) node = Some node
turned (Err stop) node = None
