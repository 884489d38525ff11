-- Calls over the flows of a world.
use Rattle.std.specs.Prelude.{ℕ, ◌<◌, Bool, ◌&&◌, if◌then◌else◌, List, [], ◌∷◌, ◌++◌, length, slice_index_or, set, nat_lt, unwrap_or, Option, Some, None}
use Rattle.dt_units.specs.declared.endpoints.Flow.{Flow}
use Rattle.dt_world_model.specs.Tables.{has_key, look, same_flow, write}
use Rattle.dt_world_model.specs.World.{World}
use Rattle.dt_calls_model.specs.declared.calls.Call.{Call}
use Rattle.dt_calls_model.specs.declared.calls.CallState.TheVariants as state
use Rattle.dt_calls_model.specs.declared.calls.Posted.TheVariants as posted
use Rattle.dt_calls_model.specs.Messages.{reversed}

-- At a flow with a call two sides read: the server's reads requests, and the client's reads replies.
pub data Side : Type 0 where
  Server : Side
  Client : Side

-- the flow that a side reads
abbrev pub flow_read : Side → Flow → Flow
flow_read Server f = f
flow_read Client f = reversed f

-- what each side has read of a message that isn't whole yet
pub record Begun : Type 0 where
  pub request : Option (List ℕ)
  pub reply : Option (List ℕ)

abbrev pub begun_at : Side → Begun → Option (List ℕ)
begun_at Server b = b.request
begun_at Client b = b.reply

abbrev pub with_begun : Side → Option (List ℕ) → Begun → Begun
with_begun Server octets b = record b { request = octets }
with_begun Client octets b = record b { reply = octets }

abbrev pub none_begun : Begun
none_begun = record { request = None; reply = None }

-- THE CALLS of a world. They are numbered from 0. Each flow with a call has an entry, in the order of first calls.
pub record Calls : Type 0 where
  pub world : World
  pub calls : List Call
  pub flows : List (Flow × Begun)

abbrev pub new_calls : World → Calls
new_calls w = record { world = w; calls = []; flows = [] }

-- the call of a number, and whether there is one, on such a flow. What stands for one that isn't there is met by no message
abbrev pub no_call : Call
no_call = record { flow = record { from = record { 0 = 0 }; from_port = 0; to = record { 0 = 0 }; to_port = 0 }; state = state.Declined; served = 0; request = posted.Refused; reply = None }

abbrev pub call_in : List Call → ℕ → Call
call_in calls n = slice_index_or calls n no_call

abbrev pub is_call_in : List Call → Flow → ℕ → Bool
is_call_in calls f n = nat_lt n (length calls) && same_flow (call_in calls n).flow f

abbrev pub call_at : Calls → ℕ → Call
call_at c n = call_in c.calls n

abbrev pub is_call : Calls → Flow → ℕ → Bool
is_call c f n = is_call_in c.calls f n

abbrev pub with_call : ℕ → Call → Calls → Calls
with_call n call c = record c { calls = set c.calls n call }

-- what the sides of a flow have begun
abbrev pub begun_of : Calls → Flow → Begun
begun_of c f = unwrap_or (look same_flow f c.flows) none_begun

abbrev pub with_sides : Flow → Begun → Calls → Calls
with_sides f b c = record c { flows = write same_flow f b c.flows }

-- a flow gets its entry with its first call
abbrev pub with_flow : Flow → List (Flow × Begun) → List (Flow × Begun)
with_flow f flows = if has_key same_flow f flows then flows else flows ++ (f, none_begun) ∷ []
