-- What the lines of the world's events tell of messages: the piece that was read, that a send was taken or refused, that data of a flow was accepted, and that octets of a flow were given up.
use Rattle.std.specs.Prelude.{ℕ, Bool, true, false, ◌||◌, List, [], ◌∷◌, Option, Some, None}
use Rattle.dt_units.specs.declared.endpoints.Flow.{Flow}
use Rattle.dt_reports.specs.Matters as matter
use Rattle.dt_reports.specs.Matters.{Matter, matter_of}
use Rattle.dt_reports.specs.Told.{Told}
use Rattle.dt_reports.specs.Entries.{Entry}
use Rattle.dt_calls_model.specs.Messages.{Piece}

pub data Heard : Type 0 where
  APiece : (piece : Piece) → Heard
  ATaking : Heard
  ARefusal : Heard
  AnAcceptance : (flow : Flow) → Heard
  ALoss : (flow : Flow) → Heard
  NoMessage : Heard

abbrev pub heard_by : Matter → Heard
heard_by (matter.Taken f count) = ATaking
heard_by (matter.Refused f fault) = ARefusal
heard_by (matter.Transmitted f number count) = NoMessage
heard_by (matter.Retransmitted f) = NoMessage
heard_by (matter.GivenUp f count) = ALoss f
heard_by (matter.Acknowledged f count window) = NoMessage
heard_by (matter.Accepted f number count run) = AnAcceptance f
heard_by (matter.Replied f number) = NoMessage
heard_by (matter.Dropped f) = NoMessage
heard_by (matter.ReadOut f run begin end octets) = APiece (record { run = run; begin = begin; end = end; octets = octets })
heard_by (matter.NothingRead f) = NoMessage
heard_by (matter.Left link life) = NoMessage
heard_by (matter.Begun life) = NoMessage
heard_by matter.Neither = NoMessage

abbrev pub heard : Told → Heard
heard told = heard_by (matter_of told)

abbrev pub or_later : Heard → Option Piece → Option Piece
or_later (APiece piece) later = Some piece
or_later ATaking later = later
or_later ARefusal later = later
or_later (AnAcceptance flow) later = later
or_later (ALoss flow) later = later
or_later NoMessage later = later

-- the piece that the lines of a read tell, if they tell one
abbrev pub piece_in : List Entry → Option Piece
piece_in [] = None
piece_in (e ∷ es) = or_later (heard e.told) (piece_in es)

abbrev pub is_refusal : Heard → Bool
is_refusal (APiece piece) = false
is_refusal ATaking = false
is_refusal ARefusal = true
is_refusal (AnAcceptance flow) = false
is_refusal (ALoss flow) = false
is_refusal NoMessage = false

-- whether the lines of a send tell that it was refused
abbrev pub tells_refusal : List Entry → Bool
tells_refusal [] = false
tells_refusal (e ∷ es) = is_refusal (heard e.told) || tells_refusal es
