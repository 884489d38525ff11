-- What a read of the world reports is the first piece of what was unread.
use Rattle.std.proofs.Common.{ℕ, ◌+◌, ◌≡◌, ◌==◌, List, [], ◌∷◌, ◌++◌, length, Option, Some, None, refl, ap, ◌∙◌, append_assoc}
use Rattle.dt_items.specs.declared.item.Item.{Item}
use Rattle.dt_items.specs.Unread.{first_piece, octets_of, piece_told}
use Rattle.dt_units.specs.declared.parameters.Params.{Params}
use Rattle.dt_units.specs.declared.endpoints.Flow.{Flow}
use Rattle.dt_units.specs.Limits.{IsWithinLimits}
use Rattle.dt_reports.specs.Entries.{Entry}
use Rattle.dt_reports.specs.Told.{Told}
use Rattle.dt_flow_model.specs.Frames.{Mark}
use Rattle.dt_world_model.specs.Host.{Host, IsHost, read_piece}
use Rattle.dt_world_model.specs.Ledgers.{Occasion, effect_of}
use Rattle.dt_world_model.specs.Script.{◌>>=◌, play}
use Rattle.dt_world_model.specs.Station.{Read, Station, happen, settle_station, station_event, station_with, told_piece}
use Rattle.dt_world_model.specs.Tables.{look}
use Rattle.dt_world_model.specs.World.{Noted, Placed, World, note_told, world_handler, world_told}
use Rattle.dt_world_model.specs.WorldStep.{Reads, after_event, event_at, noted_at, occasion}
use Rattle.dt_world_laws.proofs.Plays.{play_bind}
use Rattle.dt_world_laws.proofs.Settles.{answers_play}
use Rattle.dt_calls_model.specs.Heard.{heard, or_later, piece_in}
use Rattle.dt_calls_laws.specs.ReadTold.{piece_of}
use Rattle.dt_calls_laws.proofs.Silence.{piece_behind, piece_none, settle_silent, silent_play}
use Rattle.dt_calls_laws.proofs.Unmoved.{Leaves, settle_leaves}
use Rattle.dt_calls_laws.specs.HasRead.{unread_at}

-- the one report of a read
told_is : (f : Flow) (items : List Item) (copies : ℕ) → let r = told_piece f (octets_of items) (piece_told items) in or_later (heard (world_told copies r (effect_of r))) None ≡ piece_of items
told_is f [] copies = refl
told_is f (i ∷ is) copies = refl

taken_is : (p : Params) (now : ℕ) (f : Flow) (items : List Item) (host : Host) → (read_piece p now f items host).0 ≡ items
taken_is p now f [] host = refl
taken_is p now f (i ∷ is) host = refl

module _ (p : Params) (now : ℕ) (o : Occasion) (f : Flow) (most : ℕ) where
  -- settle, read, settle
  read_tells : (st : Station Mark) (d : Noted) → d.lines ≡ [] → piece_in (play (world_handler o) (station_event p now (Read f most) st) d).0.lines ≡ piece_of (first_piece most (unread_at (play (world_handler o) (settle_station p now st) d).1.host f))
  read_tells st d none =
      let handler = world_handler o in
      let one = play handler (settle_station p now st) d in
      let before = one.1 in
      let items = first_piece most (unread_at before.host f) in
      let r = read_piece p now f items before.host in
      let told : Told = told_piece f (octets_of r.0) (piece_told r.0) in
      let mid = note_told o told one.0 in
      let after = station_with r.1 before.relay in
      let e : Entry = record { moment = o.now; node = Some o.node; told = world_told (length one.0.copies) told (effect_of told) } in
      let first = silent_play o (settle_station p now st) d (settle_silent p now st) in
      let last = silent_play o (settle_station p now after) mid (settle_silent p now after) in
      let whole : (play handler (station_event p now (Read f most) st) d).0.lines ≡ first.lines ++ e ∷ last.lines =
      ap (λ (n : Noted × Station Mark). n.0.lines) (play_bind handler (settle_station p now st) (λ s. happen p now (Read f most) s >>= λ t. settle_station p now t) d)
      ∙ last.are
      ∙ ap (λ (ls : List Entry). (ls ++ e ∷ []) ++ last.lines) (first.are ∙ ap (λ (ls : List Entry). ls ++ first.lines) none)
      ∙ append_assoc first.lines (e ∷ []) last.lines in
      ap piece_in whole
      ∙ piece_behind first.lines (e ∷ last.lines) first.silent
      ∙ ap (or_later (heard e.told)) (piece_none last.lines last.silent)
      ∙ told_is f r.0 (length one.0.copies)
      ∙ ap piece_of (taken_is p now f items before.host)

-- THE READ of the world
pub read_tells_the_next : (w : World) (f : Flow) (most : ℕ) (at : Placed) → IsWithinLimits w.params → look ◌==◌ f.to.0 w.stations ≡ Some at → IsHost w.params at.station.host → piece_in (after_event w (Reads f most)).0 ≡ piece_of (first_piece most (unread_at at.station.host f))
read_tells_the_next w f most at limits there host =
    let o = occasion w f.to.0 (Read f most) in
    let now = w.now + at.zero in
    let left = answers_play (world_handler o) (Leaves w.params at.station) (settle_station w.params now at.station) (noted_at w) (settle_leaves w.params now limits at.station host) in
    ap (λ (place : Option Placed). piece_in (event_at w f.to.0 (Read f most) place).0) there
    ∙ read_tells w.params now o f most at.station (noted_at w) refl
    ∙ ap (λ (unread : List Item). piece_of (first_piece most unread)) (left.unread f)
