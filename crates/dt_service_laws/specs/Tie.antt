-- A network of services as a network of endpoints.
use Rattle.std.specs.Prelude.{◌≡◌, ◌⊎◌, ◌++◌, ℕ, Bool, true, false, List, [], ◌∷◌, map}
use Rattle.dt_items.specs.declared.item.Item.{Item}
use Rattle.dt_units.specs.declared.endpoints.Flow.{Flow}
use Rattle.dt_calls_laws.specs.Wholes.{items_of_all}
use Rattle.dt_network.specs.Network.{Setup}
use Rattle.dt_network.specs.Duties.{KeepsDuties}
use Rattle.dt_network.specs.Octets.{AreTaken}
use Rattle.dt_network.specs.Steps.{AreSteps, Step}
use Rattle.dt_service_model.specs.Turns.{Node}
use Rattle.dt_service_laws.specs.Histories.{Message, call_by, in_turn, spelled}
use Rattle.dt_service_laws.specs.Services.{Arrives, Closes, CountsFlow, Deed, Does, FindsNoMemory, Forgets, GetsRoute, GivesKind, GivesReply, MakesCall, OpensAgain, Passes, PullsFrame, Raises, Services, TakesHappening, Ticks, Turn, services_after}

-- what is done at a node and finds memory
abbrev pub finds_memory : Deed → Bool
finds_memory (FindsNoMemory deed after) = false
finds_memory (GivesKind port kind) = true
finds_memory (MakesCall now f payload patience) = true
finds_memory (GivesReply now token payload) = true
finds_memory (Forgets now token) = true
finds_memory (Ticks now) = true
finds_memory (Arrives now link datagram waited) = true
finds_memory (Raises life) = true
finds_memory TakesHappening = true
finds_memory PullsFrame = true
finds_memory (GetsRoute route answer added) = true
finds_memory (CountsFlow flow counted) = true
finds_memory Closes = true
finds_memory (OpensAgain again options most life) = true

abbrev pub has_memory : Turn → Bool
has_memory (Passes by) = true
has_memory (Does n deed) = finds_memory deed

-- WHAT IS TAKEN of the messages of a turn: all of them, or of one that found no memory all or none
abbrev pub IsSentOf : (memory : Bool) → (messages sent : List Message) → Type 0
IsSentOf true messages sent = sent ≡ messages
IsSentOf false messages sent = (sent ≡ messages) ⊎ (sent ≡ [])

-- and over all turns, in their order
abbrev pub AreSentOf : (ℕ → Deed → Node → List Message) → Setup → List Turn → Services → List Message → Type 0
AreSentOf some setup [] s sent = sent ≡ []
AreSentOf some setup (t ∷ turns) s sent = (first : List Message) × (rest : List Message) × IsSentOf (has_memory t) (in_turn some t s) first × AreSentOf some setup turns (services_after setup t s) rest × (sent ≡ first ++ rest)

-- THE CALLS OF ENDPOINTS that turns come to keep the duties, and what a flow took in them are messages of the calls that were made on it, side by side: of each call its message, and only of one that found no memory it isn't known
pub record TakesCallsAlone (setup : Setup) (f : Flow) (turns : List Turn) (s : Services) : Type 0 where
  pub steps : List Step
  pub are : AreSteps setup steps s.network
  pub keep : KeepsDuties setup steps s.network
  pub taken : (taken : List Item) → AreTaken f steps taken → (sent : List Message) × AreSentOf (λ n. call_by f) setup turns s sent × (taken ≡ items_of_all (map spelled sent))
