-- Who sees a station's event for the world, and what it may become when something is told, asked or handed out. It may fail for want of memory, and then it does nothing more.
use Rattle.std.specs.Prelude.{ℕ, ◌≡◌, true, false, List, [], ◌∷◌, ◌++◌, length, Some, Result}
use Rattle.dt_reports.specs.Told.{Told}
use Rattle.dt_reports.specs.Entries.{Entry}
use Rattle.dt_flow_model.specs.Frames.{Mark}
use Rattle.dt_world_model.specs.Host.{Host}
use Rattle.dt_world_model.specs.Ledgers.{Ledgers, effect_of, ledgers_after, mark_of}
use Rattle.dt_world_model.specs.Ledgers as ledgers
use Rattle.dt_world_model.specs.Relay.{Parcel}
use Rattle.dt_world_model.specs.Script.{Concludes, Script}
use Rattle.dt_world_model.specs.Station.{Station}
use Rattle.dt_world_model.specs.World.{Copy, world_told}
use Rattle.dt_world.specs.declared.reporters.Reporter.{Reporter}
use Rattle.dt_notes.specs.Notes.{ledgers_seen}
use Rattle.dt_notes.specs.Occasions.{occasion_seen}

-- the line of a report, of which so many copies were put before
abbrev pub entry_for : ledgers.Occasion → ℕ → Told → Entry
entry_for o copies told = record { moment = o.now; node = Some o.node; told = world_told copies told (effect_of told) }

-- the copy of a packet that is put on a link
abbrev pub copy_for : ledgers.Occasion → ℕ → Parcel Mark → Copy
copy_for o link parcel = record { link = link; parcel = parcel; put = o.now; lost = false }

module _ {L : Type 0} where
  abbrev pub ledgers_of : Reporter L → Ledgers
  ledgers_of s = ledgers_seen s.notes.now

  abbrev pub copies_of : Reporter L → List Copy
  copies_of s = s.notes.now.copies

  abbrev pub occasion_of : Reporter L → ledgers.Occasion
  occasion_of s = occasion_seen s.context

  -- what it lends stays the same, and so does the event
  pub record IsSame (s t : Reporter L) : Type 0 where
    pub notes : t.notes.ghost_name ≡ s.notes.ghost_name
    pub lines : t.lines.ghost_name ≡ s.lines.ghost_name
    pub occasion : occasion_of t ≡ occasion_of s

  -- nothing was noted and no line told
  pub record IsUnchanged (s t : Reporter L) : Type 0 where
    pub ledgers : ledgers_of t ≡ ledgers_of s
    pub copies : copies_of t ≡ copies_of s
    pub lines : t.lines.now ≡ s.lines.now

  pub record Stays (s t : Reporter L) : Type 0 where
    pub same : IsSame s t
    pub unchanged : IsUnchanged s t

  pub record Marks (s : Reporter L) (host : Host) (octets : List ℕ) (mark : Mark) (t : Reporter L) : Type 0 where
    pub same : IsSame s t
    pub unchanged : IsUnchanged s t
    pub told : t.failed ≡ false → (s.failed ≡ false) × (mark ≡ mark_of (occasion_of s) (ledgers_of s) host octets)

  pub record Hands (s : Reporter L) (link : ℕ) (parcel : Parcel Mark) (t : Reporter L) : Type 0 where
    pub same : IsSame s t
    pub fine : s.failed ≡ false
    pub still : t.failed ≡ false
    pub ledgers : ledgers_of t ≡ ledgers_of s
    pub copies : copies_of t ≡ copies_of s ++ copy_for (occasion_of s) link parcel ∷ []
    pub lines : t.lines.now ≡ s.lines.now

  module _ (tells : L → Entry → L → Type 0) where
    pub record HasTold (s : Reporter L) (r : Told) (t : Reporter L) : Type 0 where
      pub fine : s.failed ≡ false
      pub ledgers : ledgers_of t ≡ ledgers_after (occasion_of s) r (ledgers_of s)
      pub copies : copies_of t ≡ copies_of s
      pub line : tells s.lines.now (entry_for (occasion_of s) (length (copies_of s)) r) t.lines.now

    pub record Tells (s : Reporter L) (r : Told) (t : Reporter L) : Type 0 where
      pub same : IsSame s t
      pub done : t.failed ≡ false → HasTold s r t
      pub not : t.failed ≡ true → IsUnchanged s t

    -- a station's script ends before a reporter: the whole of it after Ok, else a part
    abbrev pub Ends : {U E : Type 0} → Result U E → Script Mark (Station Mark) → Reporter L → Reporter L → Station Mark → Type 0
    Ends result script before after station = Concludes (λ s r t. Tells s r t) (λ s host octets mark t. Marks s host octets mark t) (λ s link parcel t. Hands s link parcel t) (λ s t. Stays s t) result script before after station

-- LINES TOLD ONE AFTER ANOTHER, from the first state of who is told to the last
abbrev pub TellsAll : {L : Type 0} → (L → Entry → L → Type 0) → List Entry → L → L → Type 0
TellsAll tells [] v w = v ≡ w
TellsAll {L} tells (e ∷ es) v w = (m : L) × tells v e m × TellsAll tells es m w
