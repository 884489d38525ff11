-- What is heard of the world's lines in an event.
use Rattle.std.specs.Prelude.{ℕ, ◌≡◌, ◌||◌, not, Bool, true, false, List, [], ◌∷◌, Option, Some, None, option_map}
use Rattle.dt_units.specs.declared.endpoints.Flow.{Flow}
use Rattle.dt_world_model.specs.Tables.{same_flow}
use Rattle.dt_reports.specs.Entries.{Entry}
use Rattle.dt_calls_model.specs.Messages.{Piece}
use Rattle.dt_calls_model.specs.Heard.{ALoss, APiece, ARefusal, ATaking, AnAcceptance, Heard, NoMessage, heard}
use Rattle.dt_messages.specs.declared.joiners.Marks.{Marks}
use Rattle.dt_messages.specs.Joining.{piece_with}

pub record HeardValue : Type 0 where
  -- of the last event: the piece that was read, whether a send was refused, the last flow of which data was accepted, and whether that was so of several
  pub piece : Option Piece
  pub refused : Bool
  pub accepted : Option Flow
  pub several : Bool
  -- whether there was no memory for a line
  pub failed : Bool

abbrev pub piece_seen : List ℕ → Option Marks → Option Piece
piece_seen octets marks = option_map (λ m. piece_with m octets) marks

-- as an event begins
abbrev pub for_event : HeardValue → HeardValue
for_event h = record { piece = None; refused = false; accepted = None; several = false; failed = h.failed }

-- the first piece of an event is kept
abbrev pub first_piece : Piece → Option Piece → Option Piece
first_piece piece None = Some piece
first_piece piece (Some kept) = Some kept

-- whether another flow was accepted before
abbrev pub is_other : Flow → Option Flow → Bool
is_other flow None = false
is_other flow (Some before) = not (same_flow before flow)

-- WHAT A LINE ADDS to what was heard
abbrev pub heard_with : Heard → HeardValue → HeardValue
heard_with (APiece piece) h = record h { piece = first_piece piece h.piece }
heard_with ATaking h = h
heard_with ARefusal h = record h { refused = true }
heard_with (AnAcceptance flow) h = record h { accepted = Some flow; several = h.several || is_other flow h.accepted }
heard_with (ALoss flow) h = h
heard_with NoMessage h = h

-- A line is heard, unless there was no memory for it, or for one before it.
pub record Hears (s : HeardValue) (e : Entry) (t : HeardValue) : Type 0 where
  pub whole : t.failed ≡ false → (s.failed ≡ false) × (t ≡ heard_with (heard e.told) s)

-- what all lines of an event add
abbrev pub heard_all : List Entry → HeardValue → HeardValue
heard_all [] h = h
heard_all (e ∷ es) h = heard_all es (heard_with (heard e.told) h)
