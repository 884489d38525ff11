-- For how long the takes of a run are to wait, turn by turn, and how often its wire is opened.
use Rattle.std.specs.Prelude.{◌≡◌, ◌⊎◌, ℕ, ◌+◌, ◌<◌, ◌≤◌, List, [], ◌∷◌, length, take, Option, Some, None, IfSome, IsSomeAnd}
use Rattle.dt_edges.specs.Counts.{next_count}
use Rattle.dt_edges.specs.Wires.{Datagram, WireSight}
use Rattle.dt_world_model.specs.Station.{station_wake}
use Rattle.dt_node.specs.declared.outcomes.NodeOutcome.{NodeOutcome}
use Rattle.dt_node.specs.declared.outcomes.NodeOutcome.TheVariants.{Done, Refused, NoMemory, WireFault, ClockStill, WriteFault}
use Rattle.dt_node.specs.declared.watch.Watch.{Watch}
use Rattle.dt_script.specs.Orders.{Orders}
use Rattle.dt_turn.specs.Nodes.{Node, first_node}
use Rattle.dt_node.specs.Acts.{answer_of}
use Rattle.dt_node.specs.Runs.{first_watch, moment, next_moment, next_watch, wait_until, wakes_by}
use Rattle.dt_turn.specs.Turns.{turn}

-- How it stands when a take is called: the turn's moment, the station's wake after the turn, and the moment of the next command or of the stop.
pub record Pause : Type 0 where
  pub now : ℕ
  pub wake : Option ℕ
  pub next : ℕ

-- for how long the take is to wait, in ms
abbrev pub wait_in : Pause → ℕ
wait_in p = wait_until (wakes_by p.wake p.next) p.now

-- It waits to what is due first and no longer, 1 to 1,000 ms. What is due already counts as due in 1 ms.
pub record IsShort (p : Pause) (wait : ℕ) : Type 0 where
  pub some : 1 ≤ wait
  pub most : wait ≤ 1000
  pub to_next : p.now < p.next → p.now + wait ≤ p.next
  pub to_wake : IfSome p.wake (λ wake. p.now < wake → p.now + wait ≤ wake)
  pub due_next : p.next ≤ p.now → wait ≡ 1
  pub due_wake : IfSome p.wake (λ wake. wake ≤ p.now → wait ≡ 1)
  -- a shorter wait than 1,000 ms has a cause
  pub no_sooner : wait < 1000 → (p.next ≤ p.now + wait) ⊎ IsSomeAnd p.wake (λ wake. wake ≤ p.now + wait)

-- THE PAUSES OF A RUN
abbrev pub pause_of : Orders → Watch → Node → Pause
pause_of o watch node = record { now = moment watch; wake = station_wake o.setup.params node.station; next = next_moment o.stop node.commands }

-- those after a turn: none, where it met the stop; else that of its take, and those after the take where it answered
abbrev pub pauses_then : Orders → Watch → Option Node → List (Option Datagram) → (Option Datagram → Node → List (Option Datagram) → List Pause) → List Pause
pauses_then o watch None takes next = []
pauses_then o watch (Some node) [] next = pause_of o watch node ∷ []
pauses_then o watch (Some node) (found ∷ takes) next = pause_of o watch node ∷ next found node takes

-- the turn with this watch, and those of the readings that are left
unfoldable pub pauses_from : Orders → Watch → Option Datagram → Node → List ℕ → List (Option Datagram) → List Pause
pauses_from o watch came node [] takes = pauses_then o watch (answer_of (turn o (moment watch) came node)) takes (λ t n ts. [])
pauses_from o watch came node (r ∷ rs) takes = pauses_then o watch (answer_of (turn o (moment watch) came node)) takes (λ t n ts. pauses_from o (next_watch r watch) t n rs ts)

-- all turns of a run with these readings and takes
unfoldable pub node_pauses : Orders → List ℕ → List (Option Datagram) → List Pause
node_pauses o [] takes = []
node_pauses o (r ∷ rs) takes = pauses_from o (first_watch r) None (first_node o) rs takes

-- WHAT IS ASKED OF THE WIRE

-- the last wait, after takes were called in these pauses
abbrev pub last_asked : Option ℕ → List Pause → Option ℕ
last_asked before [] = before
last_asked before (p ∷ ps) = last_asked (Some (wait_in p)) ps

-- how many takes were called: those that answered Ok, and the one that failed
abbrev pub CountsPauses : NodeOutcome → (readings takes pauses : ℕ) → Type 0
CountsPauses Done readings takes pauses = pauses ≡ takes
CountsPauses ClockStill readings takes pauses = pauses ≡ takes
CountsPauses NoMemory readings takes pauses = pauses ≡ takes
CountsPauses Refused readings takes pauses = pauses ≡ takes
CountsPauses WireFault readings takes pauses = ((readings ≡ 0) × (pauses ≡ 0)) ⊎ ((0 < readings) × (pauses ≡ takes + 1))
CountsPauses WriteFault readings takes pauses = (pauses ≡ takes) ⊎ ((0 < readings) × (pauses ≡ takes + 1))

-- The wire was opened once. Where there was no reading, memory may have run out or a put may have failed before that.
abbrev pub OpensOnce : NodeOutcome → (readings before after : ℕ) → Type 0
OpensOnce Done readings before after = after ≡ next_count before
OpensOnce ClockStill readings before after = after ≡ next_count before
OpensOnce WireFault readings before after = after ≡ next_count before
OpensOnce NoMemory readings before after = (after ≡ next_count before) ⊎ ((readings ≡ 0) × (after ≡ before))
OpensOnce WriteFault readings before after = (after ≡ next_count before) ⊎ ((readings ≡ 0) × (after ≡ before))
OpensOnce Refused readings before after = after ≡ before

-- The wire is opened once, and each take is to wait as its pause says. Of the pauses of the run those are the first in which a take was called. Each take may be the last, where the wire then fails.
pub record Asks (o : Orders) (outcome : NodeOutcome) (readings : List ℕ) (takes : List (Option Datagram)) (before after : WireSight) : Type 0 where
  pub pauses : List Pause
  pub first : pauses ≡ take (length pauses) (node_pauses o readings takes)
  pub counted : CountsPauses outcome (length readings) (length takes) (length pauses)
  pub last_wait : IfSome after.last_wait (λ wait. Some wait ≡ last_asked before.last_wait pauses)
  pub opens : OpensOnce outcome (length readings) before.opens after.opens
