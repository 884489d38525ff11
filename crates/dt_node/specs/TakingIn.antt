-- What a run takes in from its clock and its wire, turn by turn, in the order in which it happens.
use Rattle.std.specs.Prelude.{ℕ, Bool, if◌then◌else◌, List, [], ◌∷◌, ◌++◌, length, map, take, drop, Option, Some, None}
use Rattle.dt_edges.specs.Wires.{Datagram}
use Rattle.dt_trace.specs.Inputs.{Input, Reading, Taken, FailedTake, FailedGive, FailedOpen}
use Rattle.dt_node.specs.declared.watch.Watch.{Watch}
use Rattle.dt_script.specs.Orders.{Orders}
use Rattle.dt_turn.specs.Nodes.{Node, first_node}
use Rattle.dt_node.specs.Acts.{Deed, acts_of, answer_of, fates}
use Rattle.dt_node.specs.Deeds.{counted, lost_numbers}
use Rattle.dt_node.specs.Runs.{first_watch, moment, next_watch}
use Rattle.dt_turn.specs.Turns.{turn}

-- the gives of these deeds that failed, after so many gives
abbrev pub failed_gives : ℕ → List Deed → List Input
failed_gives gives deeds = map FailedGive (lost_numbers gives (fates deeds))

-- What stands after a turn: nothing, where it met the stop or no take answered after it; else what its take found, and then the next turn.
abbrev pub take_then : Option Node → List (Option Datagram) → (Option Datagram → Node → List (Option Datagram) → List Input) → List Input
take_then None takes next = []
take_then (Some node) [] next = []
take_then (Some node) (found ∷ takes) next = Taken found ∷ next found node takes

-- A turn: its reading, the gives that failed in it, and what its take found. Its deeds are as many of those that are left as it has acts.
abbrev pub turn_inputs : Orders → Watch → Option Datagram → Node → (reading : ℕ) → List (Option Datagram) → (gives : ℕ) → List Deed → (Option Datagram → Node → List (Option Datagram) → ℕ → List Deed → List Input) → List Input
turn_inputs o watch came node reading takes gives deeds next =
    let script = turn o (moment watch) came node in
    let count = length (acts_of (moment watch) script) in
    let own = take count deeds in
    Reading reading ∷ (failed_gives gives own ++ take_then (answer_of script) takes (λ found after more. next found after more (counted gives (fates own)) (drop count deeds)))

-- the turn with this watch and this reading, and those of the readings that are left
unfoldable pub inputs_from : Orders → Watch → Option Datagram → Node → (reading : ℕ) → List ℕ → List (Option Datagram) → (gives : ℕ) → List Deed → List Input
inputs_from o watch came node r [] takes gives deeds = turn_inputs o watch came node r takes gives deeds (λ t n ts g ds. [])
inputs_from o watch came node r (q ∷ rs) takes gives deeds = turn_inputs o watch came node r takes gives deeds (λ t n ts g ds. inputs_from o (next_watch q watch) t n q rs ts g ds)

-- all turns of a run with these readings, takes and deeds
unfoldable pub inputs_in : Orders → List ℕ → List (Option Datagram) → List Deed → List Input
inputs_in o [] takes deeds = []
inputs_in o (r ∷ rs) takes deeds = inputs_from o (first_watch r) None (first_node o) r rs takes 0 deeds

-- THE INPUTS OF A RUN: an open that failed comes before all turns, and a take that failed is the last of all
abbrev pub run_inputs : Orders → List ℕ → List (Option Datagram) → List Deed → (failing : List ℕ) → (unopened : Bool) → List Input
run_inputs o readings takes deeds failing unopened = (if unopened then FailedOpen ∷ [] else []) ++ (inputs_in o readings takes deeds ++ map (λ number. FailedTake) failing)
