-- The script and the orders of the code, as the definitions have them.
use Rattle.std.specs.Prelude.{◌≡◌, ◌≢◌, ℕ, ◌<◌, ◌≤◌, ◌^◌, List, [], ◌∷◌, length, map, Option, Some, None, Result, Ok, Err, IsOkAnd, AllPairs, All}
use Rattle.dt_units.specs.Limits.{IsWithinLimits}
use Rattle.dt_edges.specs.declared.addresses.Peer.{Peer}
use Rattle.dt_items.specs.declared.memory.NoMemory.{NoMemory}
use Rattle.dt_reports.specs.declared.faults.Fault.{Fault}
use Rattle.dt_text.specs.Tasks.{Task, Sends, Reads, most_octets, task_seen}
use Rattle.dt_text.specs.InputLines.{most_input}
use Rattle.dt_fold.specs.Folds.{Turned}
use Rattle.dt_world_model.specs.declared.links.InLink.{InLink}
use Rattle.dt_script.specs.declared.orders.TimedCommand.{TimedCommand}
use Rattle.dt_script.specs.declared.orders.NodeSetup.{NodeSetup}
use Rattle.dt_script.specs.declared.orders.Orders.{Orders}
use Rattle.dt_script.specs.declared.drafts.DraftPhase.{DraftPhase}
use Rattle.dt_script.specs.declared.drafts.DraftPhase.TheVariants as part
use Rattle.dt_script.specs.Drafts.{Draft, Empty, Ruled, Named, Prepares, Collects, Complete}
use Rattle.dt_script.specs.Orders as model

-- ORDERS

abbrev pub command_seen : TimedCommand → model.Command
command_seen c = record { at = c.at; task = task_seen c.task }

abbrev pub setup_seen : NodeSetup → model.Setup
setup_seen s = record {
  params = s.rules;
  me = s.me.0;
  again = s.again;
  local = s.local;
  peers = s.peers.items;
  outs = s.outs.items;
  ins = s.ins.items;
  routes = s.routes.items;
  shelf = s.shelf;
}

abbrev pub orders_seen : Orders → model.Orders
orders_seen o = record { setup = setup_seen o.setup; commands = map command_seen o.commands.items; stop = o.stop }

-- THE SCRIPT SO FAR

abbrev pub draft_seen : DraftPhase → Draft
draft_seen part.Nothing = Empty
draft_seen (part.Ruled rules) = Ruled rules
draft_seen (part.Named rules me again) = Named rules me.0 again
draft_seen (part.Preparing setup) = Prepares (setup_seen setup)
draft_seen (part.Collecting setup commands last) = Collects (setup_seen setup) (map command_seen commands.items) last
draft_seen (part.Complete orders) = Complete (orders_seen orders)

-- A line leads to the draft that its turn says, or is refused and changes nothing. Where memory runs out nothing more is said.
abbrev pub LeadsTo : Result (Turned Draft) Fault → Result (Option Fault) NoMemory → Draft → Draft → Type 0
LeadsTo turn (Ok None) before after = IsOkAnd turn (λ t. (t.state ≡ after) × (t.text ≡ []))
LeadsTo turn (Ok (Some fault)) before after = (turn ≡ Err fault) × (after ≡ before)
LeadsTo turn (Err fault) before after = Unit {0}

-- ORDERS THAT A NODE CAN CARRY OUT

-- the most commands of a script
abbrev pub most_commands : ℕ
most_commands = most_input

abbrev pub IsTaskOf : ℕ → Task → Type 0
IsTaskOf me (Sends flow begin end octets) = (flow.from.0 ≡ me) × (flow.to.0 ≢ me) × (0 < length octets) × (length octets ≤ most_octets)
IsTaskOf me (Reads flow most) = (flow.to.0 ≡ me) × (flow.from.0 ≢ me) × (0 < most) × (most ≤ most_octets)

abbrev pub IsCommandOf : ℕ → model.Command → Type 0
IsCommandOf me c = IsTaskOf me c.task

-- the links of the peers are those on which packets come
abbrev pub SameLinks : List Peer → List InLink → Type 0
SameLinks [] [] = Unit {0}
SameLinks (p ∷ ps) (i ∷ is) = (p.link ≡ i.link) × SameLinks ps is
SameLinks [] (i ∷ is) = ⊥
SameLinks (p ∷ ps) [] = ⊥

pub record IsGoodSetup (s : model.Setup) : Type 0 where
  pub limits : IsWithinLimits s.params
  pub differ : AllPairs (λ (p : Peer) (q : Peer). p.link ≢ q.link) s.peers
  pub same : SameLinks s.peers s.ins

pub record IsGood (o : model.Orders) : Type 0 where
  pub setup : IsGoodSetup o.setup
  pub tasks : All (IsCommandOf o.setup.me) o.commands
  pub few : length o.commands ≤ most_commands
  pub stop : o.stop < 2 ^ 32
