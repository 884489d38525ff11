-- A whole message that a side has read: the request of a call that wasn't served, or its reply.
use Rattle.std.specs.Prelude.{ℕ, ◌≡◌, ◌≢◌, true, List}
use Rattle.dt_units.specs.declared.endpoints.Flow.{Flow}
use Rattle.dt_flow_model.specs.Ledger.{is_given}
use Rattle.dt_calls_model.specs.declared.calls.Posted.TheVariants.{Refused}
use Rattle.dt_calls_model.specs.Calls.{Calls, Client, Server, Side, call_at, is_call}
use Rattle.dt_calls_model.specs.CallFacts.{last_of, rows_gone}
use Rattle.dt_calls_model.specs.Messages.{message_of}
use Rattle.dt_calls_model.specs.Promises.{payload_of}

pub record RequestComes (c : Calls) (f : Flow) (message : List ℕ) : Type 0 where
  pub call : ℕ
  pub is_call : is_call c f call ≡ true
  pub is : message ≡ message_of call (payload_of c.world (call_at c call))
  pub unserved : (call_at c call).served ≡ 0
  pub taken : (call_at c call).request ≢ Refused
  pub gone : is_given (rows_gone c.world f) (last_of (call_at c call).request) ≡ true

pub record ReplyComes (answer : List ℕ → List ℕ) (c : Calls) (f : Flow) (message : List ℕ) : Type 0 where
  pub call : ℕ
  pub is_call : is_call c f call ≡ true
  pub is : message ≡ message_of call (answer (payload_of c.world (call_at c call)))
  pub served : (call_at c call).served ≡ 1

abbrev pub MessageComes : (List ℕ → List ℕ) → Side → Calls → Flow → List ℕ → Type 0
MessageComes answer Server c f message = RequestComes c f message
MessageComes answer Client c f message = ReplyComes answer c f message
