-- What a node has beside its endpoint: the open calls of a caller and the open requests of a service. Nothing of it outlives the endpoint.
use Rattle.std.specs.Prelude.{ℕ, ◌+◌, ◌-◌, ◌^◌, ◌==◌, ◌&&◌, ◌||◌, Bool, true, false, min, nat_lt, List, [], count_by, length, find, option_map, Option, Some, None}
use Rattle.dt_units.specs.declared.endpoints.Flow.{Flow}
use Rattle.dt_world_model.specs.Tables.{same_flow}
use Rattle.dt_service_model.specs.declared.calls.OpenCall.{OpenCall}
use Rattle.dt_service_model.specs.declared.call_counts.CallCounts.{CallCounts}
use Rattle.dt_service_model.specs.declared.happenings.Happening.{Happening}
use Rattle.dt_service_model.specs.declared.happenings.Happening.TheVariants.{Answered, ReplyUncertain, Request, Unsure}
use Rattle.dt_service_model.specs.declared.names.Token.{Token}
use Rattle.dt_service_model.specs.declared.ports.PortKind.{PortKind}
use Rattle.dt_service_model.specs.declared.ports.PortKind.TheVariants.{Caller, Service}
use Rattle.dt_service_model.specs.declared.ports.Most.{Most}
use Rattle.dt_service_model.specs.declared.ports.Port.{Port}

-- what happens at a node: a request is handed out, a call ends, or a reply is given up
abbrev pub is_request : Happening → Bool
is_request (Request token payload) = true
is_request (Answered call answer) = false
is_request (Unsure call cause) = false
is_request (ReplyUncertain flow) = false

abbrev pub is_end : Happening → Bool
is_end (Request token payload) = false
is_end (Answered call answer) = true
is_end (Unsure call cause) = true
is_end (ReplyUncertain flow) = false

pub record CallBook : Type 0 where
  pub most : Most
  -- it was closed, or found no memory
  pub closed : Bool
  -- the ports that have a kind; any other is plain
  pub ports : List Port
  -- the number of the next call
  pub life : ℕ
  pub count : ℕ
  -- in the order of making: the calls that wait, and those that ended with octets that have no fate yet
  pub calls : List OpenCall
  -- those that are open: the names of the requests that were handed out and have no reply yet
  pub tokens : List Token
  -- for each flow that is read, what was read of a message that isn't whole yet
  pub begun : List (Flow × List ℕ)
  -- the flows at which something may be unread, in the order in which they came in
  pub unread : List Flow
  pub counts : CallCounts
  -- what was told and wasn't taken
  pub happenings : List Happening

abbrev pub no_counts : CallCounts
no_counts = record { late = 0; old = 0; strange = 0; reused = 0; cut = 0; long = 0; short = 0 }

-- AT AN OPENING
abbrev pub new_book : Most → (life : ℕ) → CallBook
new_book most life = record { most = most; closed = false; ports = []; life = life; count = 0; calls = []; tokens = []; begun = []; unread = []; counts = no_counts; happenings = [] }

-- no longer message is put together
abbrev pub longest_message : ℕ
longest_message = 65536

-- so many more, or one, and 2^64 - 1 at most
abbrev pub counted_by : (more : ℕ) → ℕ → ℕ
counted_by more n = min (n + more) (2 ^ 64 - 1)

abbrev pub counted_up : ℕ → ℕ
counted_up n = counted_by 1 n

-- THE KIND OF A PORT
abbrev pub kind_in : ℕ → List Port → Option PortKind
kind_in port ports = option_map (λ p. p.kind) (find (λ p. p.port == port) ports)

abbrev pub is_caller : Option PortKind → Bool
is_caller None = false
is_caller (Some Caller) = true
is_caller (Some Service) = false

abbrev pub is_service : Option PortKind → Bool
is_service None = false
is_service (Some Caller) = false
is_service (Some Service) = true

-- how many calls wait or have ends that weren't taken
abbrev pub calls_held : CallBook → ℕ
calls_held h = count_by (λ (call : OpenCall). call.waits) h.calls + count_by is_end h.happenings

-- WHETHER THERE IS ROOM for a request of a flow
abbrev pub has_room : Flow → CallBook → Bool
has_room f h =
    nat_lt (length h.tokens) h.most.requests
    && nat_lt (count_by (λ (token : Token). same_flow token.flow f) h.tokens) h.most.of_a_flow
    && nat_lt (count_by is_request h.happenings) h.most.requests

-- whether a flow to this node may be read: one to a caller always, one to a service while there is room
abbrev pub may_read : Flow → CallBook → Bool
may_read f h = let kind = kind_in f.to_port h.ports in is_caller kind || (is_service kind && has_room f h)
