-- A script, read line by line: first its parameters, then the node's number, its address, its peers and routes, then what it is to do, and the stop.
use Rattle.std.specs.Prelude.{ℕ, ◌==◌, ◌||◌, Bool, not, if◌then◌else◌, List, [], ◌∷◌, ◌++◌, Option, Some, None, Result, Ok, Err}
use Rattle.std.specs.List.{list_any}
use Rattle.dt_units.specs.declared.parameters.Params.{Params}
use Rattle.dt_units.specs.declared.parameters.Field.{Field}
use Rattle.dt_units.specs.Limits.{value_of, first_out_of_range}
use Rattle.dt_edges.specs.declared.addresses.Address.{Address}
use Rattle.dt_reports.specs.declared.faults.Fault.{Fault}
use Rattle.dt_reports.specs.declared.faults.Fault.TheVariants as faults
use Rattle.dt_reports.specs.declared.faults.LineFault.{LineFault}
use Rattle.dt_reports.specs.declared.faults.LineFault.TheVariants.{Order}
use Rattle.dt_reports.specs.declared.faults.SetupFault.{SetupFault}
use Rattle.dt_reports.specs.declared.faults.SetupFault.TheVariants.{Twice, Unknown, Stray}
use Rattle.dt_reports.specs.declared.faults.StepFault.TheVariants.{BadFlow}
use Rattle.dt_text.specs.declared.lines.Form.TheVariants.{Script}
use Rattle.dt_text.specs.declared.stages.Stage.{Stage}
use Rattle.dt_text.specs.declared.stages.Stage.TheVariants as stages
use Rattle.dt_text.specs.declared.lines.Line.TheVariants as said
use Rattle.dt_text.specs.declared.lines.NodeLine.{NodeLine}
use Rattle.dt_text.specs.declared.lines.NodeLine.TheVariants as nodes
use Rattle.dt_text.specs.declared.lines.ScriptLine.{ScriptLine}
use Rattle.dt_text.specs.declared.lines.ScriptLine.TheVariants as scripts
use Rattle.dt_text.specs.Lines.{line_of}
use Rattle.dt_text.specs.Said.{Said}
use Rattle.dt_text.specs.Stages.{stage_after}
use Rattle.dt_text.specs.Tasks.{Task, Sends, Reads, task_of}
use Rattle.dt_fold.specs.Folds.{Folded, Turned, Turns, fold_input}
use Rattle.dt_world_model.specs.declared.links.InLink.{InLink}
use Rattle.dt_world_model.specs.declared.links.Route.{Route}
use Rattle.dt_script.specs.Orders.{Command, Orders, Setup}

-- what the lines so far have led to
pub data Draft : Type 0 where
  -- nothing yet
  Empty : Draft
  -- the parameters were read
  Ruled : Params → Draft
  -- the node's number was read, and whether it begins again
  Named : Params → (me : ℕ) → (again : Bool) → Draft
  -- its address was read, and peers and routes are added
  Prepares : Setup → Draft
  -- commands are added, of which the last has this moment
  Collects : Setup → List Command → (last : ℕ) → Draft
  -- the stop was read
  Complete : Orders → Draft

abbrev pub stage_of : Draft → Stage
stage_of Empty = stages.Start
stage_of (Ruled p) = stages.Params
stage_of (Named p me again) = stages.Me
stage_of (Prepares s) = stages.Setup
stage_of (Collects s cs last) = stages.Run last
stage_of (Complete o) = stages.Ended

-- of a line that isn't refused nothing is logged
abbrev pub to_draft : Draft → Result (Turned Draft) Fault
to_draft draft = Ok (record { text = []; state = draft })

-- a line that stands elsewhere: it was refused before, since its stage doesn't allow it
abbrev pub misplaced : Result (Turned Draft) Fault
misplaced = Err (faults.Line Order)

-- THE PARTS OF A SCRIPT: what a line does where its part is being read

-- the parameters, of which the first that is out of its range refuses the line
abbrev pub by_params : Params → Option Field → Result (Turned Draft) Fault
by_params p None = to_draft (Ruled p)
by_params p (Some field) = Err (faults.Param (record { field = field; value = value_of p field }))

abbrev pub by_me : Draft → ℕ → Bool → Result (Turned Draft) Fault
by_me Empty me again = misplaced
by_me (Ruled p) me again = to_draft (Named p me again)
by_me (Named p other before) me again = misplaced
by_me (Prepares s) me again = misplaced
by_me (Collects s cs last) me again = misplaced
by_me (Complete o) me again = misplaced

abbrev pub by_local : Draft → Address → Result (Turned Draft) Fault
by_local Empty local = misplaced
by_local (Ruled p) local = misplaced
by_local (Named p me again) local = to_draft (Prepares (record { params = p; me = me; again = again; local = local; peers = []; outs = []; ins = []; routes = []; shelf = None }))
by_local (Prepares s) local = misplaced
by_local (Collects s cs last) local = misplaced
by_local (Complete o) local = misplaced

abbrev pub in_setup : Draft → (Setup → Result (Turned Draft) Fault) → Result (Turned Draft) Fault
in_setup Empty does = misplaced
in_setup (Ruled p) does = misplaced
in_setup (Named p me again) does = misplaced
in_setup (Prepares s) does = does s
in_setup (Collects s cs last) does = misplaced
in_setup (Complete o) does = misplaced

abbrev pub in_commands : Draft → (Setup → List Command → Result (Turned Draft) Fault) → Result (Turned Draft) Fault
in_commands Empty does = misplaced
in_commands (Ruled p) does = misplaced
in_commands (Named p me again) does = misplaced
in_commands (Prepares s) does = misplaced
in_commands (Collects s cs last) does = does s cs
in_commands (Complete o) does = misplaced

-- a link of that number stands, and a route to that node
abbrev pub has_link : ℕ → List InLink → Bool
has_link link ins = list_any (λ i. i.link == link) ins

abbrev pub has_route : ℕ → List Route → Bool
has_route to routes = list_any (λ r. r.to == to) routes

-- a peer is a link of its number in both directions
abbrev pub by_peer : (link : ℕ) → Address → (charge pace : ℕ) → Setup → Result (Turned Draft) Fault
by_peer link address charge pace s =
    if has_link link s.ins then Err (faults.Setup (Twice link)) else
    to_draft (Prepares (record s {
      peers = s.peers ++ (record { link = link; address = address }) ∷ [];
      outs = s.outs ++ (record { link = link; pace = pace }) ∷ [];
      ins = s.ins ++ (record { link = link; charge = charge }) ∷ [];
    }))

-- why a route is refused: first that there is one to its node, then that its node is this one, then that its link isn't there
abbrev pub route_fault : (to link : ℕ) → Setup → Option SetupFault
route_fault to link s =
    if has_route to s.routes then Some (Twice to)
    else if to == s.me then Some (Stray link)
    else if has_link link s.ins then None
    else Some (Unknown link)

abbrev pub route_unless : (to link : ℕ) → Setup → Option SetupFault → Result (Turned Draft) Fault
route_unless to link s None = to_draft (Prepares (record s { routes = s.routes ++ (record { to = to; link = link }) ∷ [] }))
route_unless to link s (Some fault) = Err (faults.Setup fault)

abbrev pub by_route : (to link : ℕ) → Setup → Result (Turned Draft) Fault
by_route to link s = route_unless to link s (route_fault to link s)

-- a shelf for so many packets. There is one at most
abbrev pub shelf_unless : (room : ℕ) → Setup → Option ℕ → Result (Turned Draft) Fault
shelf_unless room s None = to_draft (Prepares (record s { shelf = Some room }))
shelf_unless room s (Some other) = Err (faults.Setup (Twice room))

abbrev pub by_shelf : (room : ℕ) → Setup → Result (Turned Draft) Fault
by_shelf room s = shelf_unless room s s.shelf

-- the node that does a task, and the other end of its flow
abbrev pub ends_of : Task → ℕ × ℕ
ends_of (Sends flow begin end octets) = (flow.from.0, flow.to.0)
ends_of (Reads flow most) = (flow.to.0, flow.from.0)

-- what is sent goes from this node to another, and what is read came to it from another
abbrev pub by_command : (at : ℕ) → Task → Setup → List Command → Result (Turned Draft) Fault
by_command at task s cs =
    if not ((ends_of task).0 == s.me) || ((ends_of task).1 == s.me) then Err (faults.Step BadFlow) else
    to_draft (Collects s (cs ++ (record { at = at; task = task }) ∷ []) at)

-- WHAT A LINE DOES where it is allowed

-- before `go` a line sets up the node, one row a line
abbrev pub by_node : NodeLine → Setup → Result (Turned Draft) Fault
by_node (nodes.Peer link address charge pace) s = by_peer link address charge pace s
by_node (nodes.Route to link) s = by_route to link s
by_node (nodes.Shelf room) s = by_shelf room s

-- after it: what the node's user does at a moment, and the stop
abbrev pub by_script : Draft → ScriptLine → Result (Turned Draft) Fault
by_script draft (scripts.Me n again) = by_me draft n again
by_script draft (scripts.Local address) = by_local draft address
by_script draft (scripts.Node line) = in_setup draft (by_node line)
by_script draft (scripts.At at does) = in_commands draft (by_command at (task_of does))
by_script draft (scripts.Stop at) = in_commands draft (λ s cs. to_draft (Complete (record { setup = s; commands = cs; stop = at })))

abbrev pub done_by : Draft → Said → Result (Turned Draft) Fault
done_by draft said.Blank = to_draft draft
done_by draft (said.Params p) = by_params p (first_out_of_range p)
done_by draft said.Go = in_setup draft (λ s. to_draft (Collects s [] 0))
done_by draft (said.Setup line) = misplaced
done_by draft (said.Run line) = misplaced
done_by draft (said.Script line) = by_script draft line

-- A LINE IS TURNED: it is read, then its place is tested, and then it is done. The first of the three that refuses it tells the fault.
abbrev pub done_if : Option Stage → Draft → Said → Result (Turned Draft) Fault
done_if None draft line = Err (faults.Line Order)
done_if (Some stage) draft line = done_by draft line

abbrev pub turn_read : Draft → Result Said LineFault → Result (Turned Draft) Fault
turn_read draft (Err fault) = Err (faults.Line fault)
turn_read draft (Ok line) = done_if (stage_after Script (stage_of draft) line) draft line

abbrev pub turn_line : Draft → List ℕ → Result (Turned Draft) Fault
turn_line draft line = turn_read draft (line_of Script line)

-- after the last line: the stop must have been read
abbrev pub orders_in : Draft → Option Orders
orders_in Empty = None
orders_in (Ruled p) = None
orders_in (Named p me again) = None
orders_in (Prepares s) = None
orders_in (Collects s cs last) = None
orders_in (Complete o) = Some o

abbrev pub closed_with : Option Orders → Result (List ℕ) Fault
closed_with None = Err (faults.Line Order)
closed_with (Some o) = Ok []

abbrev pub script_turns : Turns Draft
script_turns = record { turn = turn_line; close = λ draft. closed_with (orders_in draft) }

-- A WHOLE SCRIPT
unfoldable pub read_script : List ℕ → Folded Draft
read_script octets = fold_input script_turns Empty octets

-- its orders, where no line is refused and the stop is there
abbrev pub script_of : List ℕ → Option Orders
script_of octets = if (read_script octets).accepted then orders_in (read_script octets).state else None

-- the line of what is refused
abbrev pub refusal_text : List ℕ → List ℕ
refusal_text octets = (read_script octets).text
