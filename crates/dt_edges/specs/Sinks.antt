-- What contracts see of a sink, and what puts do to it.
use Rattle.std.specs.Prelude.{ℕ, ◌≡◌, ◌++◌, List, [], take, drop, Option, Some, Result, Ok, Err}
use Rattle.std.specs.Borrow.{GName}
use Rattle.std.specs.Io.KnownBytes.{Appends}
use Rattle.dt_edges.specs.declared.failures.Failed.{Failed}
use Rattle.dt_edges.specs.Counts.{HasRisen, next_count, as_count}

pub record SinkSight : Type 0 where
  -- the octets that it holds, where they are told
  pub held : Option (List ℕ)
  -- those of them that have reached their end. A sink that keeps octets back for another has those reached that the other holds
  pub reached : Option (List ℕ)
  -- how many puts failed
  pub faults : ℕ
  -- which sink it is: the names of the loans that it passes its octets on through
  pub identity : List GName

-- Octets that are told stay, and others may stand after them.
abbrev pub Grows : Option (List ℕ) → Option (List ℕ) → Type 0
Grows before after = (part : List ℕ) × Appends before after part

-- The sink took these octets: they stand after those that it held, where it told them. What had reached
-- its end stays there, and nothing else changed.
pub record Takes (octets : List ℕ) (before after : SinkSight) : Type 0 where
  pub held : Appends before.held after.held octets
  pub reached : Grows before.reached after.reached
  pub faults : after.faults ≡ before.faults
  pub identity : after.identity ≡ before.identity

-- The sink took a first part of these octets, and its count of faults rose. It is the same sink.
pub record TakesPart (octets : List ℕ) (before after : SinkSight) : Type 0 where
  pub count : ℕ
  pub held : Appends before.held after.held (take count octets)
  pub reached : Grows before.reached after.reached
  pub faults : HasRisen before.faults after.faults
  pub identity : after.identity ≡ before.identity

-- A call that puts octets: with Ok the sink took all of them, with any other answer a first part.
abbrev pub Puts : {S T E : Type 0} → (S → SinkSight) → List ℕ → Result T E → S → S → Type 0
Puts sight octets (Ok _) old new = Takes octets (sight old) (sight new)
Puts sight octets (Err _) old new = TakesPart octets (sight old) (sight new)

-- Of the octets that waited, a first part was put on a sink, and the others still wait.
abbrev pub PassesOn : List ℕ → List ℕ → Option (List ℕ) → Option (List ℕ) → Type 0
PassesOn waiting still before after = (n : ℕ) × (still ≡ drop n waiting) × Appends before after (take n waiting)

-- IN MEMORY

pub record SinkInMemory : Type 0 where
  pub held : List ℕ
  -- how many octets it has room for
  pub room : ℕ
  -- the numbers of the puts that fail, the first of which is number 1
  pub failing : List ℕ
  -- how many puts were called, and how many failed
  pub calls : ℕ
  pub faults : ℕ

-- it tells all that it holds
abbrev pub sink_in_memory : SinkInMemory → SinkSight
sink_in_memory sink = record { held = Some sink.held; reached = Some sink.held; faults = as_count sink.faults; identity = [] }

-- a sink in memory after a put of these octets
abbrev pub sink_after : Result ℕ Failed → List ℕ → SinkInMemory → SinkInMemory
sink_after (Ok n) octets sink = record sink { held = sink.held ++ take n octets; calls = next_count sink.calls }
sink_after (Err _) octets sink = record sink { calls = next_count sink.calls; faults = next_count sink.faults }
