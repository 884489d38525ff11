-- What is kept of calls and of their world.
use Rattle.std.specs.Prelude.{◌≤◌, List, [], ◌∷◌, map}
use Rattle.dt_units.specs.declared.endpoints.Flow.{Flow}
use Rattle.dt_units.specs.Limits.{IsWithinLimits}
use Rattle.dt_world_model.specs.World.{World}
use Rattle.dt_world_model.specs.WorldFacts.{WorldFacts}
use Rattle.dt_calls_model.specs.declared.calls.Call.{Call}
use Rattle.dt_calls_model.specs.declared.calls.Posted.{Posted}
use Rattle.dt_calls_model.specs.declared.calls.Posted.TheVariants.{Refused, Taken}

-- what is kept of the world, by which each read takes octets that were unread
pub record IsKeptWorld (w : World) : Type 0 where
  pub limits : IsWithinLimits w.params
  pub facts : WorldFacts w

-- A REQUEST that was taken is a message of 65,536 octets at most: the number of its call in eight of them, and a payload that a handler takes.
abbrev pub IsShort : Posted → Type 0
IsShort (Taken place count) = count ≤ 65536
IsShort Refused = Unit {0}

abbrev pub AreShort : List Call → Type 0
AreShort [] = Unit {0}
AreShort (call ∷ calls) = IsShort call.request × AreShort calls

-- the flows, in the order of first calls
abbrev pub keys_in : {A : Type 0} → List (Flow × A) → List Flow
keys_in es = map (λ e. e.0) es
