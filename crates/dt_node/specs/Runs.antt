-- A run of a node: turn after turn, by the readings of a clock and by what takes hand over.
use Rattle.std.specs.Prelude.{ℕ, ◌+◌, ◌-◌, ◌^◌, ◌==◌, if◌then◌else◌, nat_lt, max, min, List, [], ◌∷◌, ◌++◌, Option, Some, None}
use Rattle.dt_edges.specs.Wires.{Datagram}
use Rattle.dt_node.specs.declared.watch.Watch.{Watch}
use Rattle.dt_script.specs.Orders.{Command, Orders}
use Rattle.dt_turn.specs.Nodes.{Node, first_node}
use Rattle.dt_node.specs.Acts.{Act, acts_of, answer_of}
use Rattle.dt_turn.specs.Turns.{turn}

abbrev pub capped : ℕ → ℕ
capped reading = min reading (2 ^ 62)

abbrev pub first_watch : ℕ → Watch
first_watch reading = record { first = capped reading; greatest = capped reading; equal = 1 }

abbrev pub next_watch : ℕ → Watch → Watch
next_watch reading w =
    if nat_lt w.greatest (capped reading) then record { first = w.first; greatest = capped reading; equal = 1 }
    else record { first = w.first; greatest = w.greatest; equal = w.equal + 1 }

-- the moment of a turn
abbrev pub moment : Watch → ℕ
moment w = w.greatest - w.first

-- how many turns running may have one moment
abbrev pub most_equal : ℕ
most_equal = 100000

-- HOW LONG A TAKE MAY WAIT at a moment: to the station's wake and to the next command or the stop, 1 to 1,000 ms. A wake that isn't after the moment counts as 1 ms after it.
abbrev pub next_moment : (stop : ℕ) → List Command → ℕ
next_moment stop [] = stop
next_moment stop (c ∷ cs) = c.at

abbrev pub wakes_by : Option ℕ → ℕ → ℕ
wakes_by None next = next
wakes_by (Some wake) next = min wake next

abbrev pub wait_until : (due now : ℕ) → ℕ
wait_until due now = min (max (due - now) 1) 1000

pub data Ending : Type 0 where
  -- a turn met a due stop
  Stopped : Ending
  -- so many turns running had the same moment, and none of them met a due stop
  StoodStill : Ending
  -- the readings or the takes are used up
  Unfinished : Ending
  -- there are readings or takes that no turn of the run has used
  LeftOver : Ending

pub record Run : Type 0 where
  pub acts : List Act
  pub ending : Ending

abbrev pub ends : Ending → Run
ends ending = record { acts = []; ending = ending }

abbrev pub behind : List Act → Run → Run
behind acts run = record { acts = acts ++ run.acts; ending = run.ending }

-- how a run ends, where no readings and no takes are left
abbrev pub ends_at : List ℕ → List (Option Datagram) → Ending → Run
ends_at [] [] ending = ends ending
ends_at [] (t ∷ ts) ending = ends LeftOver
ends_at (r ∷ rs) ts ending = ends LeftOver

-- what a turn leads to: the run has ended, or the turn's take has found something and the next turn comes
abbrev pub after_turn : Watch → Option Node → List ℕ → List (Option Datagram) → (Option Datagram → Node → List (Option Datagram) → Run) → Run
after_turn watch None rs takes next = ends_at rs takes Stopped
after_turn watch (Some node) rs [] next = ends_at rs [] Unfinished
after_turn watch (Some node) rs (t ∷ ts) next = if watch.equal == most_equal then ends_at rs ts StoodStill else next t node ts

abbrev pub turn_then : Orders → Watch → Option Datagram → Node → List ℕ → List (Option Datagram) → (Option Datagram → Node → List (Option Datagram) → Run) → Run
turn_then o watch came node rs takes next =
    let script = turn o (moment watch) came node in
    behind (acts_of (moment watch) script) (after_turn watch (answer_of script) rs takes next)

-- The turn with this watch, and those of the readings that are left.
unfoldable pub run_from : Orders → Watch → Option Datagram → Node → List ℕ → List (Option Datagram) → Run
run_from o watch came node [] takes = turn_then o watch came node [] takes (λ t n ts. ends Unfinished)
run_from o watch came node (r ∷ rs) takes = turn_then o watch came node (r ∷ rs) takes (λ t n ts. run_from o (next_watch r watch) t n rs ts)

-- The run of a node by its orders, the readings, and what the takes handed over.
unfoldable pub node_run : Orders → List ℕ → List (Option Datagram) → Run
node_run o [] takes = ends Unfinished
node_run o (r ∷ rs) takes = run_from o (first_watch r) None (first_node o) rs takes
