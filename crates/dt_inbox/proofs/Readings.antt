-- A read, by what its piece does.
use Rattle.std.proofs.Common.{ℕ, Option, Some, None}
use Rattle.dt_units.specs.declared.endpoints.Flow.{Flow}
use Rattle.dt_calls_model.specs.Messages.{Piece}
use Rattle.dt_messages.specs.Joining.{JoinerValue}
use Rattle.dt_endpoint.specs.Endpoints.{EndpointValue}
use Rattle.dt_inbox.specs.Inboxes.{Ends, JoinerTakes, Joins, Reading, ReadsOn, ReadsPiece}
use Rattle.dt_inbox.specs.declared.inboxes.TakenMessage.{TakenMessage}
use Rattle.dt_inbox.specs.declared.inboxes.TakenMessage.TheVariants as taken

module _ (now : ℕ) (flow : Flow) (room : ℕ) where
  pub piece_read : (answer : Option TakenMessage) (p : Piece) (j k : JoinerValue) {e f : EndpointValue} → ReadsPiece now flow room p e f → Joins answer p j k → Reading answer now flow room j k e f
  piece_read None p j k reads joins = record { piece = p; reads = reads; unfinished = joins.0; after = joins.1 }
  piece_read (Some (taken.Whole message)) p j k reads joins = record { piece = p; reads = reads; ends = joins }
  piece_read (Some taken.Lost) p j k reads joins = record { piece = p; reads = reads; ends = joins }
  piece_read (Some taken.Nothing) p j k reads joins = absurd joins
  piece_read (Some taken.NoMemory) p j k reads joins = absurd joins
  piece_read (Some taken.Spent) p j k reads joins = absurd joins
  piece_read (Some taken.BadFlow) p j k reads joins = absurd joins
  piece_read (Some taken.NoRoom) p j k reads joins = absurd joins
  piece_read (Some taken.Unfinished) p j k reads joins = absurd joins

  -- the last read ends the taking
  pub ended : (answer : TakenMessage) (most n : ℕ) {j : JoinerValue} (k l : JoinerValue) {e : EndpointValue} (f g : EndpointValue) → ReadsOn now flow room j e n k f → Ends answer now flow room k l f g → JoinerTakes answer most now flow room j l e g
  ended (taken.Whole message) most n k l f g on ends = record { count = n; before = k; host = f; reads = on; ends = ends }
  ended taken.Lost most n k l f g on ends = record { count = n; before = k; host = f; reads = on; ends = ends }
  ended taken.Nothing most n k l f g on ends = record { count = n; before = k; host = f; reads = on; ends = ends }
  ended taken.NoMemory most n k l f g on ends = record { count = n; before = k; host = f; reads = on; ends = ends }
  ended taken.Spent most n k l f g on ends = record { count = n; before = k; host = f; reads = on; ends = ends }
  ended taken.BadFlow most n k l f g on ends = record { count = n; before = k; host = f; reads = on; ends = ends }
  ended taken.NoRoom most n k l f g on ends = record { count = n; before = k; host = f; reads = on; ends = ends }
  ended taken.Unfinished most n k l f g on ends = absurd ends
