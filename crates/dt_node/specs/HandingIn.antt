-- What a run hands in: what the takes have handed over, and what comes from the shelf.
use Rattle.std.specs.Prelude.{◌≡◌, ℕ, zero, suc, ◌+◌, ◌<◌, ◌≤◌, ◌==◌, if◌then◌else◌, List, [], ◌∷◌, ◌++◌, length, map, Option, Some, None}
use Rattle.std.specs.List.{Contains}
use Rattle.std.specs.Option.{option_to_list}
use Rattle.dt_units.specs.declared.parameters.Params.{Params}
use Rattle.dt_edges.specs.Wires.{Datagram}
use Rattle.dt_layout.specs.declared.faults.LayoutFault.{LayoutFault}
use Rattle.dt_layout.specs.Carried.{IsGram, life_of, lowered}
use Rattle.dt_layout.specs.Reading.{gram_fault}
use Rattle.dt_world_model.specs.Station.{Station}
use Rattle.dt_shelf.specs.Shelves.{Shelf}
use Rattle.dt_node.specs.declared.watch.Watch.{Watch}
use Rattle.dt_node.specs.Acts.{answer_of}
use Rattle.dt_script.specs.Drafts.{has_link}
use Rattle.dt_script.specs.Orders.{Orders}
use Rattle.dt_turn.specs.Nodes.{Node, first_node}
use Rattle.dt_node.specs.Runs.{first_watch, moment, most_equal, next_watch}
use Rattle.dt_turn.specs.Shelving.{Round, first_round, round}
use Rattle.dt_turn.specs.Turns.{turn}

-- a frame, and the moment at which it is handed in
pub record HandIn : Type 0 where
  pub moment : ℕ
  pub datagram : Datagram

abbrev pub hand_in_at : ℕ → Datagram → HandIn
hand_in_at now d = record { moment = now; datagram = d }

-- WHAT THE TAKES HANDED OVER, each at the moment of the turn after its take, which hands it in
abbrev pub handed_from : Watch → List ℕ → List (Option Datagram) → List HandIn
handed_from watch [] takes = []
handed_from watch (r ∷ rs) [] = []
handed_from watch (r ∷ rs) (None ∷ takes) = handed_from (next_watch r watch) rs takes
handed_from watch (r ∷ rs) (Some d ∷ takes) = hand_in_at (moment (next_watch r watch)) d ∷ handed_from (next_watch r watch) rs takes

abbrev pub handed_over : List ℕ → List (Option Datagram) → List HandIn
handed_over [] takes = []
handed_over (r ∷ rs) takes = handed_from (first_watch r) rs takes

-- WHAT IS HANDED IN AGAIN: all that the rounds of an arrival take from the shelf
abbrev pub again_on : (Round → List Datagram) → Params → ℕ → Option Datagram → Round → List Datagram
again_on again p now None r = []
again_on again p now (Some d) r = let after = answer_of (round p now d r.station r.shelf) in option_to_list after.next ++ again after

abbrev pub again_in : ℕ → Params → ℕ → Round → List Datagram
again_in zero p now r = []
again_in (suc most) p now r = again_on (again_in most p now) p now r.next r

abbrev pub again_arriving : Params → ℕ → Datagram → Option LayoutFault → Station (Unit {0}) → Option Shelf → List Datagram
again_arriving p now d (Some fault) station shelf = []
again_arriving p now d None station None = []
again_arriving p now d None station (Some shelf) = again_in (suc (length shelf.held)) p now (first_round d station shelf)

-- by a turn
abbrev pub again_by : Params → ℕ → Option Datagram → Node → List Datagram
again_by p now None node = []
again_by p now (Some d) node = if has_link d.link node.station.relay.ins then again_arriving p now d (gram_fault d.octets) node.station node.shelf else []

-- by a run, turn after turn
abbrev pub again_after : Watch → Option Node → List (Option Datagram) → (Option Datagram → Node → List (Option Datagram) → List HandIn) → List HandIn
again_after watch None takes next = []
again_after watch (Some node) [] next = []
again_after watch (Some node) (t ∷ ts) next = if watch.equal == most_equal then [] else next t node ts

abbrev pub again_then : Orders → Watch → Option Datagram → Node → List (Option Datagram) → (Option Datagram → Node → List (Option Datagram) → List HandIn) → List HandIn
again_then o watch came node takes next =
    map (hand_in_at (moment watch)) (again_by o.setup.params (moment watch) came node) ++ again_after watch (answer_of (turn o (moment watch) came node)) takes next

unfoldable pub again_from : Orders → Watch → Option Datagram → Node → List ℕ → List (Option Datagram) → List HandIn
again_from o watch came node [] takes = again_then o watch came node takes (λ t n ts. [])
again_from o watch came node (r ∷ rs) takes = again_then o watch came node takes (λ t n ts. again_from o (next_watch r watch) t n rs ts)

unfoldable pub handed_again : Orders → List ℕ → List (Option Datagram) → List HandIn
handed_again o [] takes = []
handed_again o (r ∷ rs) takes = again_from o (first_watch r) None (first_node o) rs takes

-- ITS LIFE IS LESS by so many milliseconds in all, and nothing else has changed.
pub data Lowered : ℕ → List ℕ → List ℕ → Type 0 where
  as_it_was : (octets : List ℕ) → Lowered 0 octets octets
  once_more : (by charge : ℕ) (first octets : List ℕ) → Lowered by first octets → charge < life_of octets → Lowered (by + charge) first (lowered charge octets)

-- What is handed in again is a frame that a take handed over. Its life is less by more than the time since that frame was handed in first. So its life and its age together don't grow.
pub record IsOld (first again : HandIn) : Type 0 where
  pub by : ℕ
  pub link : again.datagram.link ≡ first.datagram.link
  pub lowered : Lowered by first.datagram.octets again.datagram.octets
  pub earlier : first.moment ≤ again.moment
  pub charged : again.moment + 1 ≤ first.moment + by
  pub life : IsGram first.datagram.octets → life_of again.datagram.octets + by ≡ life_of first.datagram.octets

-- one of these is that frame
abbrev pub IsAgainOf : List HandIn → HandIn → Type 0
IsAgainOf handed again = (first : HandIn) × Contains handed first × IsOld first again
