-- How the calls of a node end, over all its lives: what turns tell of it, and which calls nobody is told of.
use Rattle.std.specs.Prelude.{ℕ, drop, List, [], length, if◌then◌else◌}
use Rattle.dt_world_model.specs.WorldStep.{first_refusal}
use Rattle.dt_network.specs.Network.{Setup}
use Rattle.dt_service_model.specs.declared.calls.OpenCall.{OpenCall}
use Rattle.dt_service_model.specs.declared.happenings.Happening.{Happening}
use Rattle.dt_service_model.specs.Asked.{call, call_refusals, next_number}
use Rattle.dt_service_model.specs.Ends.{told_by}
use Rattle.dt_service_model.specs.CallBook.{CallBook}
use Rattle.dt_service_model.specs.Turns.{Node}
use Rattle.dt_service_laws.specs.Histories.{Message, asked_as, at_the, in_turns, made_as}
use Rattle.dt_service_laws.specs.Services.{Arrives, Closes, CountsFlow, Deed, FindsNoMemory, Forgets, GetsRoute, GivesKind, GivesReply, MakesCall, OpensAgain, PullsFrame, Raises, Services, TakesHappening, Ticks, Turn, node_after}

-- THE CALLS that are made at a node, on whatever flow. One that found no memory may have been made
abbrev pub all_asked : Deed → Node → List Message
all_asked (MakesCall now f payload patience) x = asked_as (first_refusal (call_refusals x f payload patience)) (next_number x.book) payload
all_asked (GivesKind port kind) x = []
all_asked (GivesReply now token payload) x = []
all_asked (Forgets now token) x = []
all_asked (Ticks now) x = []
all_asked (Arrives now link datagram waited) x = []
all_asked (Raises life) x = []
all_asked TakesHappening x = []
all_asked PullsFrame x = []
all_asked (GetsRoute route answer added) x = []
all_asked (CountsFlow flow counted) x = []
all_asked Closes x = []
all_asked (OpensAgain again options most life) x = []
all_asked (FindsNoMemory deed after) x = all_asked deed x

abbrev pub all_by : Deed → Node → List Message
all_by (MakesCall now f payload patience) x = made_as (call now f payload patience x).0 payload
all_by (GivesKind port kind) x = []
all_by (GivesReply now token payload) x = []
all_by (Forgets now token) x = []
all_by (Ticks now) x = []
all_by (Arrives now link datagram waited) x = []
all_by (Raises life) x = []
all_by TakesHappening x = []
all_by PullsFrame x = []
all_by (GetsRoute route answer added) x = []
all_by (CountsFlow flow counted) x = []
all_by Closes x = []
all_by (OpensAgain again options most life) x = []
all_by (FindsNoMemory deed after) x = all_asked deed x

abbrev pub calls_at : ℕ → Setup → List Turn → Services → List Message
calls_at c setup turns s = in_turns (at_the c (λ n. all_by)) setup turns s

-- WHAT A TURN TELLS: all that its node has told after what it had told before. Where it closes these are the ends of its calls
abbrev pub told_in : Setup → (node : ℕ) → Deed → Node → List Happening
told_in setup n deed x = drop (length (told_by x.book)) (told_by (node_after setup n deed x).book)

abbrev pub told_at : ℕ → Setup → List Turn → Services → List Happening
told_at c setup turns s = in_turns (at_the c (told_in setup)) setup turns s

-- the calls of which some may wait. At a node that is closed none does: it has told the end of each
abbrev pub still_in : CallBook → List OpenCall
still_in h = if h.closed then [] else h.calls

-- THE CALLS THAT NOBODY IS TOLD OF: their program died, and its node opened again
abbrev pub lost_by : Deed → Node → List OpenCall
lost_by (OpensAgain again options most life) x = still_in x.book
lost_by (GivesKind port kind) x = []
lost_by (MakesCall now f payload patience) x = []
lost_by (GivesReply now token payload) x = []
lost_by (Forgets now token) x = []
lost_by (Ticks now) x = []
lost_by (Arrives now link datagram waited) x = []
lost_by (Raises life) x = []
lost_by TakesHappening x = []
lost_by PullsFrame x = []
lost_by (GetsRoute route answer added) x = []
lost_by (CountsFlow flow counted) x = []
lost_by Closes x = []
lost_by (FindsNoMemory deed after) x = []

abbrev pub lost_at : ℕ → Setup → List Turn → Services → List OpenCall
lost_at c setup turns s = in_turns (at_the c (λ n. lost_by)) setup turns s
