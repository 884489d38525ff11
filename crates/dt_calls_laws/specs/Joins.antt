-- What a piece does to what a side has begun.
use Rattle.std.specs.Prelude.{ℕ, ◌+◌, ◌-◌, ◌≡◌, true, false, List, Contains, Option, Some}
use Rattle.dt_units.specs.declared.endpoints.Flow.{Flow}
use Rattle.dt_flow_model.specs.Ledger.{is_given}
use Rattle.dt_world_model.specs.World.{World}
use Rattle.dt_calls_model.specs.CallFacts.{AreBegun, Span, rows_gone}
use Rattle.dt_calls_model.specs.Messages.{Piece, begun_with, message_of, whole_with}

-- A WHOLE MESSAGE is that of a span, and its last octet is gone with this piece, and wasn't before.
pub record IsWhole (w after : World) (f : Flow) (spans : List Span) (carried : Span → List ℕ) (message : List ℕ) : Type 0 where
  pub span : Span
  pub there : Contains spans span
  pub is : message ≡ message_of span.call (carried span)
  pub new : is_given (rows_gone w f) (span.place + span.count - 1) ≡ false
  pub gone : is_given (rows_gone after f) (span.place + span.count - 1) ≡ true

-- What waits is still the first part of a message; what became whole is a message.
pub record Joins (w after : World) (f : Flow) (spans : List Span) (carried : Span → List ℕ) (begun : Option (List ℕ)) (p : Piece) : Type 0 where
  pub waits : AreBegun after f spans (begun_with begun p)
  pub whole : (message : List ℕ) → whole_with begun p ≡ Some message → IsWhole w after f spans carried message
