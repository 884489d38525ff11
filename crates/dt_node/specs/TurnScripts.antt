-- What a turn of the code plays, and how it ends before a log.
use Rattle.std.specs.Prelude.{◌≡◌, ◌<◌, ℕ, Bool, true, false, Option, Result, Ok, Err, IfOk, OnOk}
use Rattle.dt_items.specs.declared.memory.NoMemory.{NoMemory}
use Rattle.dt_fold.specs.declared.stops.Stop.{Stop}
use Rattle.dt_fold.specs.declared.stops.Stop.TheVariants as stops
use Rattle.dt_fold.specs.Logging.{wants_memory}
use Rattle.dt_world_model.specs.Script.{Script}
use Rattle.dt_script.specs.declared.orders.Orders.{Orders}
use Rattle.dt_script.specs.Codes.{orders_seen}
use Rattle.dt_turn.specs.declared.nodes.Node.{Node}
use Rattle.dt_turn.specs.Codes.{IsReady, arrived, node_seen}
use Rattle.dt_turn.specs.Codes as codes
use Rattle.dt_turn.specs.Nodes as model
use Rattle.dt_turn.specs.Turns.{turn}
use Rattle.dt_trace.specs.Inputs.{Reading}
use Rattle.dt_node.specs.declared.output_forms.OutputForm.{OutputForm}
use Rattle.dt_node.specs.declared.turns.Turn.{Turn}
use Rattle.dt_node.specs.Deeds.{Scene, TurnEnds}
use Rattle.dt_node.specs.Logging.{noted_text}

abbrev pub turn_script : Turn → Node → Script (Unit {0}) (Option model.Node)
turn_script t node = turn (orders_seen t.orders.now) t.moment (arrived t.came) (node_seen t.orders.now node)

-- A turn before a log that couldn't write a line ends by that, and any other by its own answer.
abbrev pub ended_by : Bool → Result Bool NoMemory → Result Bool Stop
ended_by true done = Err stops.WriteFault
ended_by false (Ok stopped) = Ok stopped
ended_by false (Err fault) = Err stops.NoMemory

-- what it answers: nothing where it met the stop
abbrev pub turned : Result Bool Stop → model.Node → Option model.Node
turned result node = codes.turned {E = Stop} result node

-- A TURN THAT IS TAKEN, by what it leaves of its node and of what surrounds it: in this form the line of its reading was written, and then all was done that its script says, or a first part, where it stopped. It is the turn of this node at this moment
abbrev pub PlaysTurn : OutputForm → (me now : ℕ) → Turn → Result Bool Stop → (old new : Node) → (before after : Scene) → Type 0
PlaysTurn form me now t result old new before after =
    TurnEnds result form me now (noted_text form (Reading t.reading)) (turn_script t old) (turned result (node_seen t.orders.now new)) before after

-- at its own
abbrev pub TakesTurn : OutputForm → Turn → Result Bool Stop → (old new : Node) → (before after : Scene) → Type 0
TakesTurn form t result old new before after = PlaysTurn form t.orders.now.setup.me.0 t.moment t result old new before after

-- what a turn at a moment leaves of its node: one that can take the next turn, before the stop where the run goes on; and where memory ran out, one that is used no more
pub record Leaves (o : Orders) (now : ℕ) (result : Result Bool Stop) (node : Node) : Type 0 where
  pub ready : OnOk result (IsReady o now node)
  pub going : IfOk result (λ stopped. stopped ≡ false → now < o.stop)
  pub memory : wants_memory result ≡ true → node.io.station.spent ≡ true
