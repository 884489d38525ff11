-- A node while it turns, and where it stops for want of memory.
use Rattle.std.specs.Prelude.{◌≡◌, ℕ, List, take, ◌⊎◌, Option, Some, None}
use Rattle.dt_units.specs.declared.endpoints.Flow.{Flow}
use Rattle.dt_world_model.specs.Station.{Event}
use Rattle.dt_calls_model.specs.Messages.{Piece}
use Rattle.dt_messages.specs.Joining.{piece_with}
use Rattle.dt_endpoint.specs.declared.answers.Received.{Received}
use Rattle.dt_endpoint.specs.Calls.{arrive_event}
use Rattle.dt_endpoint.specs.Endpoints.{Breaks, EndpointValue, after_event, with_refused}
use Rattle.dt_service_model.specs.CallBook.{CallBook}
use Rattle.dt_service_model.specs.Stopping.{EndStops, ReadStops, heard_in_part}
use Rattle.dt_service_model.specs.Turns.{Node, hears, read_times}
use Rattle.dt_service.specs.declared.service_parts.ServiceParts.{ServiceParts}
use Rattle.dt_service.specs.declared.reading.FoundPiece.{FoundPiece}

abbrev pub node_of : EndpointValue → CallBook → Node
node_of e h = record { endpoint = e; book = h }

abbrev pub node_in : ServiceParts → Node
node_in p = node_of p.endpoint p.book

-- what one read found in the buffer
abbrev pub piece_found : Option FoundPiece → List ℕ → Option Piece
piece_found None buf = None
piece_found (Some found) buf = Some (piece_with found.marks (take found.len buf))

abbrev pub len_found : Option FoundPiece → ℕ
len_found None = 0
len_found (Some found) = found.len

-- the endpoint after a datagram: one that is refused is counted
abbrev pub came_to : Option Received → (now link : ℕ) → List ℕ → (waited : ℕ) → EndpointValue → EndpointValue
came_to None now link octets waited e = after_event now (arrive_event link octets waited) e
came_to (Some refusal) now link octets waited e = with_refused e

-- AS IS ASKED: what is answered and what is left
abbrev pub Is : {A : Type 0} → A → Node → A × Node → Type 0
Is answer m done = (answer ≡ done.0) × (m ≡ done.1)

-- EACH CALL answers and leaves what the definition says, or there was no memory
abbrev pub Ends : {A : Type 0} → (answer no_memory : A) → Node → A × Node → (broken : Type 0) → Type 0
Ends answer no_memory m done broken = Is answer m done ⊎ ((answer ≡ no_memory) × broken)

-- AN EVENT of the endpoint that found no memory broke off, or nothing of it was done
abbrev pub IsCutOff : (now : ℕ) → Event (Unit {0}) → (e f : EndpointValue) → Type 0
IsCutOff now event e f = (f ≡ e) ⊎ Breaks now event e f

-- what was heard of it stops, or the end of its turn does
abbrev pub HearingStops : (n m : Node) → Type 0
HearingStops n m = (count : ℕ) × (m ≡ heard_in_part count n)

abbrev pub RestStops : (now : ℕ) → (n m : Node) → Type 0
RestStops now n m = HearingStops n m ⊎ EndStops now (hears n) m

-- a flow is read so often, and then its reading stops
abbrev pub FlowStops : (now : ℕ) → Flow → (n m : Node) → Type 0
FlowStops now f n m = (times : ℕ) × ReadStops now f (read_times times now f n) m
