-- What a user of a node asks of it, by a line: octets are sent along a flow, or what came along one is read.
use Rattle.std.specs.Prelude.{ℕ, ◌<◌, ◌≤◌, Bool, List, length, IsTrue}
use Rattle.dt_units.specs.declared.endpoints.Flow.{Flow}
use Rattle.dt_units.specs.Flows.{IsFlow}
use Rattle.dt_text.specs.Hexadecimal.{are_pairs, octets_of_hex}
use Rattle.dt_text.specs.declared.lines.UserLine.{UserLine}
use Rattle.dt_text.specs.declared.lines.UserLine.TheVariants as users
use Rattle.dt_text.specs.declared.tasks.Task as code
use Rattle.dt_text.specs.declared.tasks.Task.TheVariants as tasks

pub data Task : Type 0 where
  Sends : (flow : Flow) → (begin end : Bool) → (octets : List ℕ) → Task
  Reads : (flow : Flow) → (most : ℕ) → Task

abbrev pub task_seen : code.Task → Task
task_seen (tasks.Send flow begin end octets) = Sends flow begin end octets.items
task_seen (tasks.Read flow max) = Reads flow max

-- the most octets of one send, and of one read
abbrev pub most_octets : ℕ
most_octets = 65536

-- its flow has its numbers in their ranges, and its octets are 1 to 65,536
abbrev pub IsTask : Task → Type 0
IsTask (Sends flow begin end octets) = IsFlow flow × (0 < length octets) × (length octets ≤ most_octets)
IsTask (Reads flow most) = IsFlow flow × (0 < most) × (most ≤ most_octets)

-- WHAT A LINE ASKS, one row a line
abbrev pub task_of : UserLine → Task
task_of (users.Send flow begin end hex) = Sends flow begin end (octets_of_hex hex.now)
task_of (users.Read flow max) = Reads flow max

-- it lends digits of octets, for which memory is taken
abbrev pub HasOctets : UserLine → Type 0
HasOctets (users.Send flow begin end hex) = Unit {0}
HasOctets (users.Read flow max) = ⊥

-- the digits that it lends are pairs
abbrev pub HasPairs : UserLine → Type 0
HasPairs (users.Send flow begin end hex) = IsTrue (are_pairs hex.now)
HasPairs (users.Read flow max) = Unit {0}
