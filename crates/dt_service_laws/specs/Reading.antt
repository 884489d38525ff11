-- How a program puts messages together from what it reads of a flow.
use Rattle.std.specs.Prelude.{ℕ, ◌==◌, Bool, true, false, List, [], ◌∷◌, ◌++◌, take, Option, Some, None, if◌then◌else◌}
use Rattle.dt_units.specs.declared.endpoints.Flow.{Flow}
use Rattle.dt_world_model.specs.Tables.{same_flow}
use Rattle.dt_calls_model.specs.Messages.{Piece}
use Rattle.dt_messages.specs.Joining.{begun_within, whole_within}
use Rattle.dt_endpoint.specs.declared.answers.Delivered.{Delivered as Answer}
use Rattle.dt_endpoint.specs.declared.answers.Delivered.TheVariants as answer
use Rattle.dt_network.specs.Steps.{AddRoute, Call, CallArrive, CallRead, CallSend, CallTick, Calls, Follow, OpenAgain, Pass, PullFrame, PullReport, Step}
use Rattle.dt_service_laws.specs.Wholes.{listed}

-- the piece that a read answered, if it did. It has an octet at least
abbrev pub piece_of : (run begin end : Bool) → List ℕ → Option Piece
piece_of run begin end [] = None
piece_of run begin end (octet ∷ octets) = Some (record { run = run; begin = begin; end = end; octets = octet ∷ octets })

abbrev pub piece_answered : Answer → (buf : List ℕ) → Option Piece
piece_answered (answer.Read len run begin end) buf = piece_of run begin end (take len buf)
piece_answered answer.Nothing buf = None
piece_answered answer.NoMemory buf = None
piece_answered answer.Spent buf = None
piece_answered answer.BadFlow buf = None
piece_answered answer.NoRoom buf = None

-- WHAT A CALL FINDS of a flow: the piece that it reads of it, if it does, and what was begun of it. With the endpoint of its reader that is lost
abbrev pub piece_if : Bool → Option Piece → Option Piece
piece_if true piece = piece
piece_if false piece = None

abbrev pub found_by : Flow → (node : ℕ) → Call → (begun : Option (List ℕ)) → Option Piece × Option (List ℕ)
found_by f n (CallRead now flow room buf answer) begun = (piece_if (same_flow flow f) (piece_answered answer buf), begun)
found_by f n (OpenAgain again options) begun = (None, if n == f.to.0 then None else begun)
found_by f n (CallTick now answer) begun = (None, begun)
found_by f n (CallSend now flow octets begin end answer) begun = (None, begun)
found_by f n (CallArrive now link datagram waited answer) begun = (None, begun)
found_by f n PullFrame begun = (None, begun)
found_by f n PullReport begun = (None, begun)
found_by f n (AddRoute route answer) begun = (None, begun)
found_by f n (Follow flow done) begun = (None, begun)

abbrev pub found_in : Flow → Step → (begun : Option (List ℕ)) → Option Piece × Option (List ℕ)
found_in f (Pass by) begun = (None, begun)
found_in f (Calls n call after) begun = found_by f n call begun

-- no message is put together that is longer than the longest, if there is one
abbrev pub whole_of : (longest : Option ℕ) → Option Piece × Option (List ℕ) → Option (List ℕ)
whole_of longest (None, begun) = None
whole_of longest (Some p, begun) = whole_within longest begun p

abbrev pub begun_of : (longest : Option ℕ) → Option Piece × Option (List ℕ) → Option (List ℕ)
begun_of longest (None, begun) = begun
begun_of longest (Some p, begun) = begun_within longest begun p

-- ALL MESSAGES that are put together from the reads of a flow over a list of steps, in their order, over all openings
abbrev pub messages_read : (longest : Option ℕ) → Flow → (begun : Option (List ℕ)) → List Step → List (List ℕ)
messages_read longest f begun [] = []
messages_read longest f begun (s ∷ steps) = let found = found_in f s begun in listed (whole_of longest found) ++ messages_read longest f (begun_of longest found) steps
