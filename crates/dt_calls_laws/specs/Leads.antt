-- WHAT A PART OF A STEP COMES TO: the facts still hold and what was told is right, calls have gone on, what rested rests, and no flow has got its entry and no call was made.
use Rattle.std.specs.Prelude.{ℕ, ◌≡◌, List, [], ◌∷◌, length, map, Some}
use Rattle.dt_units.specs.declared.endpoints.Flow.{Flow}
use Rattle.dt_world_model.specs.World.{World, view}
use Rattle.dt_calls_model.specs.Calls.{Begun, Calls, Client, Server, Side, begun_at, flow_read}
use Rattle.dt_calls_model.specs.CallFacts.{CourseFacts}
use Rattle.dt_calls_model.specs.Messages.{Piece, whole_with}
use Rattle.dt_calls_model.specs.Reads.{Course}
use Rattle.dt_calls_model.specs.Rests.{RestsIn}
use Rattle.dt_calls_laws.specs.Comes.{MessageComes}
use Rattle.dt_calls_laws.specs.Onward.{Onward, StaysQuiet}
use Rattle.dt_calls_laws.specs.Told.{IsOn}

-- the names of flows with a call, in their order
abbrev pub names : Calls → List Flow
names c = map (λ (e : Flow × Begun). e.0) c.flows

-- what is unread of every flow stays
abbrev pub SameUnread : World → World → Type 0
SameUnread w after = (g : Flow) → (view after g).unread ≡ (view w g).unread

-- A side is done that has read all and whose station rests.
pub record IsDone (side : Side) (w : World) (f : Flow) : Type 0 where
  pub read : (view w (flow_read side f)).unread ≡ []
  pub rests : RestsIn w (flow_read side f).to.0

abbrev pub AreDone : Side → World → List Flow → Type 0
AreDone side w [] = Unit {0}
AreDone side w (f ∷ fs) = IsDone side w f × AreDone side w fs

module _ (answer : List ℕ → List ℕ) where
  pub record Leads (c after : Course) : Type 0 where
    pub on : IsOn answer after
    pub onward : Onward c.calls after.calls
    pub quiet : StaysQuiet c.calls.world after.calls.world
    pub names : names after.calls ≡ names c.calls
    pub count : length after.calls.calls ≡ length c.calls.calls

  -- The calls after a piece: the facts hold, and a message that it makes whole comes for the first time.
  pub record PieceKeeps (side : Side) (f : Flow) (b : Begun) (p : Piece) (next : Calls) : Type 0 where
    pub facts : CourseFacts answer next
    pub comes : (message : List ℕ) → whole_with (begun_at side b) p ≡ Some message → MessageComes answer side next f message

  -- THE SERVERS' SIDES are read, and then the clients'
  pub record AllRead (c after : Course) : Type 0 where
    pub leads : Leads c after
    pub servers : AreDone Server after.calls.world (names after.calls)
    pub clients : AreDone Client after.calls.world (names after.calls)
