-- What the code keeps of calls, as the definitions have it.
use Rattle.std.specs.Prelude.{ℕ, ◌≡◌, false, List, Option, Some, Result, Ok, Err}
use Rattle.dt_units.specs.declared.endpoints.Flow.{Flow}
use Rattle.dt_calls_model.specs.declared.calls.Posted.{Posted}
use Rattle.dt_calls_model.specs.Messages.{Piece, begun_with, whole_with}
use Rattle.dt_calls_model.specs.Calls as model
use Rattle.dt_calls_model.specs.Calls.{Calls}
use Rattle.dt_calls_model.specs.Reads as reads
use Rattle.dt_calls.specs.declared.call_courses.CallsParts.{CallsParts}
use Rattle.dt_call_parts.specs.Flows.{flows_seen}
use Rattle.dt_call_parts.specs.Waiting.{Covers}
use Rattle.dt_call_parts.specs.Kept.{AreShort, IsKeptWorld}

module _ {H : Type 0} where
  abbrev pub calls_seen : CallsParts H → Calls
  calls_seen p = record { world = p.world.state; calls = p.calls.items; flows = flows_seen p.flows.entries }

  -- nothing failed, so that it may be gone on with
  pub record IsWhole (p : CallsParts H) : Type 0 where
    pub unspent : p.world.spent ≡ false
    pub heard : p.heard.failed ≡ false
    pub world : IsKeptWorld p.world.state
    pub waiting : Covers 0 p.waiting.items p.calls.items
    pub requests : AreShort p.calls.items

  -- A MESSAGE WAS HANDED IN: only the world and what was heard of it have changed. Where memory ran out the calls are what they were.
  pub record HasPosted (flow : Flow) (p : CallsParts H) (posted : Posted) (after : CallsParts H) : Type 0 where
    pub posts : reads.post flow p.message.items p.world.state ≡ (posted, after.world.state)
    pub same : after ≡ record p { world = after.world; heard = after.heard }
    pub unspent : after.world.spent ≡ false
    pub heard : after.heard.failed ≡ false

  abbrev pub Posts : {E : Type 0} → Result Posted E → Flow → CallsParts H → CallsParts H → Type 0
  Posts (Ok posted) flow p after = HasPosted flow p posted after
  Posts (Err e) flow p after = after ≡ record p { world = after.world; heard = after.heard }

  -- A PIECE WAS JOINED to what a side of the flow has begun: it answers the message that it makes whole.
  pub record HasJoined (side : model.Side) (flow : Flow) (p : CallsParts H) (whole : Option (List ℕ)) (after : CallsParts H) : Type 0 where
    pub piece : Piece
    pub heard : p.heard.piece ≡ Some piece
    pub whole_is : whole ≡ whole_with (model.begun_at side (model.begun_of (calls_seen p) flow)) piece
    pub flows : flows_seen after.flows.entries ≡ (model.with_sides flow (model.with_begun side (begun_with (model.begun_at side (model.begun_of (calls_seen p) flow)) piece) (model.begun_of (calls_seen p) flow)) (calls_seen p)).flows
    pub same : after ≡ record p { flows = after.flows }
