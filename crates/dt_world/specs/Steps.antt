-- What a step answers, tells and leaves.
use Rattle.std.specs.Prelude.{ℕ, ◌≡◌, List, [], Result, Ok, Err}
use Rattle.dt_units.specs.declared.parameters.Params.{Params}
use Rattle.dt_items.specs.Unread.{items_of}
use Rattle.dt_reports.specs.Entries.{Entry}
use Rattle.dt_world_model.specs.Script.{Script, play}
use Rattle.dt_flow_model.specs.Frames.{Mark, marked_packet, value_in}
use Rattle.dt_world_model.specs.Ledgers as ledgers
use Rattle.dt_world_model.specs.Station.{Event, Station}
use Rattle.dt_world_model.specs.World.{Noted, World, world_handler}
use Rattle.dt_world_model.specs.WorldStep.{items_with, occasion}
use Rattle.dt_world_laws.specs.Visits.{IsOnTheWay}
use Rattle.dt_notes.specs.declared.notes.Notes.{Notes}
use Rattle.dt_notes.specs.declared.event_contexts.Brought.{Brought}
use Rattle.dt_world.specs.declared.reporters.Reporter.{Reporter}
use Rattle.dt_notes.specs.Notes.{ledgers_seen}
use Rattle.dt_world.specs.Reporters.{TellsAll, copies_of, ledgers_of, occasion_of}

module _ {L : Type 0} (tells : L → Entry → L → Type 0) where
  -- A TELLER IS SEEN as what the world notes, since lines were first told to who is told them.
  pub record Sees (first : L) (o : ledgers.Occasion) (s : Reporter L) (d : Noted) : Type 0 where
    pub ledgers : ledgers_of s ≡ d.ledgers
    pub copies : copies_of s ≡ d.copies
    pub lines : TellsAll tells d.lines first s.lines.now
    pub occasion : occasion_of s ≡ o

  -- the script of an event was played before the reporter: to its end, or it was seen at a state on the way
  pub record PlayedAll (o : ledgers.Occasion) (script : Script Mark (Station Mark)) (d : Noted) (first : L) (s : Reporter L) (after : Station Mark) : Type 0 where
    pub seen : Sees first o s (play (world_handler o) script d).0
    pub station : (play (world_handler o) script d).1 ≡ after

  pub record PlayedPart (o : ledgers.Occasion) (script : Script Mark (Station Mark)) (d : Noted) (first : L) (s : Reporter L) : Type 0 where
    pub at : Noted
    pub seen : Sees first o s at
    pub on_the_way : IsOnTheWay (world_handler o) script d at

  abbrev pub Played : {U E : Type 0} → Result U E → ledgers.Occasion → Script Mark (Station Mark) → Noted → L → Reporter L → Station Mark → Type 0
  Played (Ok done) o script d first s after = PlayedAll o script d first s after
  Played (Err e) o script d first s after = PlayedPart o script d first s

-- what the world has noted as an event begins: no line of it
abbrev pub noted_first : {L : Type 0} → Reporter L → Noted
noted_first s = record { ledgers = ledgers_of s; copies = copies_of s; lines = [] }

-- The occasion of an event at a station of such a life, with what the event brings.
abbrev pub occasion_with : Params → (now node life : ℕ) → Brought → ledgers.Occasion
occasion_with p now node life b = record { params = p; now = now; node = node; life = life; items = items_of b.octets; place = b.place }

-- what an event brings is so much
pub record Brings (w : World) (n : ℕ) (e : Event Mark) (b : Brought) : Type 0 where
  pub items : (occasion w n e).items ≡ items_of b.octets
  pub place : (occasion w n e).place ≡ b.place

-- what a packet brings: the octets of a data packet, and its place
pub record BringsPacket (octets : List ℕ) (place : ℕ) (b : Brought) : Type 0 where
  pub items : (m : Mark) → items_with (marked_packet m (value_in octets)) ≡ items_of b.octets
  pub place_is : b.place ≡ place

-- the world's notes, before any line of an event
abbrev pub noted_in : Notes → Noted
noted_in n = record { ledgers = ledgers_seen n; copies = n.copies; lines = [] }

module _ {L : Type 0} (tells : L → Entry → L → Type 0) where
  -- WHAT AN EVENT AT A STATION LEAVES: what the play of its script ends with; or, for want of memory, a state on the way.
  pub record IsNoted (d : Noted) (before after : L) (notes : Notes) : Type 0 where
    pub ledgers : ledgers_seen notes ≡ d.ledgers
    pub copies : notes.copies ≡ d.copies
    pub lines : TellsAll tells d.lines before after

  pub record HappenedAll (o : ledgers.Occasion) (script : Script Mark (Station Mark)) (d : Noted) (before after : L) (notes : Notes) (station : Station Mark) : Type 0 where
    pub noted : IsNoted (play (world_handler o) script d).0 before after notes
    pub station_is : (play (world_handler o) script d).1 ≡ station

  pub record HappenedPart (o : ledgers.Occasion) (script : Script Mark (Station Mark)) (d : Noted) (before after : L) (notes : Notes) : Type 0 where
    pub at : Noted
    pub noted : IsNoted at before after notes
    pub on_the_way : IsOnTheWay (world_handler o) script d at

  abbrev pub Happened : {U E : Type 0} → Result U E → ledgers.Occasion → Script Mark (Station Mark) → Notes → L → Notes → L → Station Mark → Type 0
  Happened (Ok done) o script n before notes after station = HappenedAll o script (noted_in n) before after notes station
  Happened (Err e) o script n before notes after station = HappenedPart o script (noted_in n) before after notes
