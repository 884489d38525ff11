-- A tournament: a tree that lies in a list. Its places are the second half of the list, and each node between holds the sooner of the two below it: of the nodes k + k and k + k + 1 it is the node k. So the node 1 is the soonest of all.
use Rattle.std.specs.Prelude.{ℕ, ◌+◌, ◌≡◌, ◌≢◌, ◌<◌, ◌≤◌, List, length, slice_index_or, option_map, Option, None}
use Rattle.dt_timers.specs.declared.deadline.Deadline.{Deadline}
use Rattle.dt_timers.specs.Order.{IsBy, sooner_of}

-- the deadline of a place, where it has a moment
abbrev pub deadline_in : ℕ → Option ℕ → Option Deadline
deadline_in place moment = option_map (λ (m : ℕ). let d : Deadline = record { moment = m; place = place } in d) moment

abbrev pub node : List (Option Deadline) → ℕ → Option Deadline
node nodes k = slice_index_or nodes k None

-- every node was played, but for one
abbrev pub ArePlayedBut : ℕ → List (Option Deadline) → Type 0
ArePlayedBut but nodes = (k : ℕ) → 1 ≤ k → k + k + 1 < length nodes → k ≢ but → node nodes k ≡ sooner_of (node nodes (k + k)) (node nodes (k + k + 1))

abbrev pub ArePlayed : List (Option Deadline) → Type 0
ArePlayed nodes = ArePlayedBut 0 nodes

-- The soonest of the places: it stands in one, and none has a sooner. There is none where all are empty.
abbrev pub IsSoonestOf : List (Option Deadline) → Option Deadline → Type 0
IsSoonestOf places soonest = ((i : ℕ) × (node places i ≡ soonest)) × ((i : ℕ) → IsBy soonest (node places i))
