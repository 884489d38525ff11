-- The calls of a service. Each answers and leaves what its definition says, or finds no memory, and then it is told where its turn stopped.
use Rattle.std.specs.Prelude.{ℕ, List}
use Rattle.dt_units.specs.declared.endpoints.Flow.{Flow}
use Rattle.dt_endpoint.specs.declared.answers.Received.{Received}
use Rattle.dt_endpoint.specs.declared.answers.Received.TheVariants as arrived
use Rattle.dt_endpoint.specs.declared.answers.Ticked.{Ticked}
use Rattle.dt_endpoint.specs.declared.answers.Ticked.TheVariants as ticked
use Rattle.dt_service_model.specs.declared.answers.Forgot.{Forgot}
use Rattle.dt_service_model.specs.declared.answers.Forgot.TheVariants as forgot
use Rattle.dt_service_model.specs.declared.answers.Made.{Made}
use Rattle.dt_service_model.specs.declared.answers.Made.TheVariants as made
use Rattle.dt_service_model.specs.declared.answers.Replied.{Replied}
use Rattle.dt_service_model.specs.declared.answers.Replied.TheVariants as replied
use Rattle.dt_service_model.specs.declared.names.Token.{Token}
use Rattle.dt_service_model.specs.Asked.{arrive, call, forget, reply, tick}
use Rattle.dt_service_model.specs.Stopping.{ArriveStops, CallStops, Closed, ForgetStops, ReplyStops, TickStops}
use Rattle.dt_service_model.specs.Turns.{Node}
use Rattle.dt_service.specs.Nodes.{Ends}

-- A CALL. Where there was no memory its request may have been made before that, and then its end is reported too
pub record Calls (answer : Made) (now : ℕ) (flow : Flow) (payload : List ℕ) (patience : ℕ) (n m : Node) : Type 0 where
  pub ends : Ends answer made.NoMemory m (call now flow payload patience n) (Closed (CallStops now flow payload patience n) m)

-- A REPLY
pub record Replies (answer : Replied) (now : ℕ) (token : Token) (payload : List ℕ) (n m : Node) : Type 0 where
  pub ends : Ends answer replied.NoMemory m (reply now token payload n) (Closed (ReplyStops now token payload n) m)

-- A TOKEN IS FORGOTTEN
pub record Forgets (answer : Forgot) (now : ℕ) (token : Token) (n m : Node) : Type 0 where
  pub ends : Ends answer forgot.NoMemory m (forget now token n) (Closed (ForgetStops now token n) m)

-- A TICK
pub record Ticks (answer : Ticked) (now : ℕ) (n m : Node) : Type 0 where
  pub ends : Ends answer ticked.NoMemory m (tick now n) (Closed (TickStops now n) m)

-- A DATAGRAM
pub record Arrives (answer : Received) (now link : ℕ) (octets : List ℕ) (waited : ℕ) (n m : Node) : Type 0 where
  pub ends : Ends answer arrived.NoMemory m (arrive now link octets waited n) (Closed (ArriveStops now link octets waited n) m)
