-- An event at a station is the world's: from what its play leaves.
use Rattle.std.proofs.Common.{ℕ, ◌+◌, ◌≡◌, ◌==◌, List, [], Option, Some, None, Result, Ok, Err, refl, sym, ap, subst, ◌∙◌}
use Rattle.dt_items.specs.declared.item.Item.{Item}
use Rattle.dt_units.specs.declared.parameters.Params.{Params}
use Rattle.dt_units.specs.Limits.{IsWithinLimits}
use Rattle.dt_reports.specs.Entries.{Entry}
use Rattle.dt_flow_model.specs.Frames.{Mark}
use Rattle.dt_world_model.specs.Ledgers.{Ledgers, Occasion}
use Rattle.dt_world_model.specs.Script.{Along, Script, play}
use Rattle.dt_world_model.specs.Station.{Arrive, Event, Read, Send, Station, Tick, station_event}
use Rattle.dt_world_model.specs.Tables.{look}
use Rattle.dt_world_model.specs.World.{Copy, Noted, Placed, World, placed, world_handler}
use Rattle.dt_world_model.specs.WorldFacts.{IsPossible, SafeLedgers, WorldFacts}
use Rattle.dt_world_model.specs.WorldStep.{at_station, event_at, noted_at, occasion, played, world_with}
use Rattle.dt_world_laws.proofs.Alongside.{ledger_safe_along}
use Rattle.dt_world_laws.proofs.Visiting.{along_at, prefix_at}
use Rattle.dt_world_laws.proofs.Worlds.{placed_is}
use Rattle.dt_notes.specs.declared.notes.Notes.{Notes}
use Rattle.dt_notes.specs.declared.event_contexts.Brought.{Brought}
use Rattle.dt_notes.specs.Notes.{ledgers_seen}
use Rattle.dt_world.specs.Outcomes.{Happens, HasHappened, HasStopped}
use Rattle.dt_world.specs.Steps.{Brings, Happened, HappenedAll, HappenedPart, noted_in, occasion_with}
use Rattle.dt_world.specs.Stopping.{CameTo, ComesAt}
use Rattle.dt_world.proofs.Stopping.{has_noted, safe_with, stopped_with, way_keeps}

abbrev lines_of : Noted → List Entry
lines_of d = d.lines

module _ {L : Type 0} (tells : L → Entry → L → Type 0) (w : World) (n : ℕ) (e : Event Mark) (at : Placed) (there : look ◌==◌ n w.stations ≡ Some at) (before after : L) (notes : Notes) where
  abbrev script : Script Mark (Station Mark)
  script = station_event w.params (w.now + at.zero) e at.station

  abbrev ends : Noted × Station Mark
  ends = play (world_handler (occasion w n e)) script (noted_at w)

  at_is : at_station w n e ≡ played w n at ends
  at_is = ap (event_at w n e) there

  abbrev with_ends : List Copy → Ledgers → Station Mark → World
  with_ends copies all station = world_with w n (record { zero = at.zero; life = at.life; station = station }) (record { ledgers = all; copies = copies; lines = [] })

  pub all_happened : (station : Station Mark) → HappenedAll tells (occasion w n e) script (noted_at w) before after notes station → HasHappened tells (at_station w n e) before after (with_ends notes.copies (ledgers_seen notes) station)
  all_happened station h =
      let world : with_ends notes.copies (ledgers_seen notes) station ≡ (played w n at ends).1 =
      ap (λ (cs : List Copy). with_ends cs (ledgers_seen notes) station) h.noted.copies
      ∙ ap (λ (l : Ledgers). with_ends ends.0.copies l station) h.noted.ledgers
      ∙ ap (λ (s : Station Mark). with_ends ends.0.copies ends.0.ledgers s) (sym h.station_is) in
      subst (λ (r : List Entry × World). HasHappened tells r before after (with_ends notes.copies (ledgers_seen notes) station)) (sym at_is) (record { lines = h.noted.lines; world_is = world })

  pub part_happened : (world : World) (station : Station Mark) → world ≡ with_ends notes.copies (ledgers_seen notes) station → IsWithinLimits w.params → WorldFacts w → IsPossible w n e
      → HappenedPart tells (occasion w n e) script (noted_at w) before after notes → HasStopped tells w (ComesAt w n e) (at_station w n e) before after world
  part_happened world station is limits facts possible h =
      let here : placed w n ≡ at = placed_is w n at there facts in
      let along = subst (λ (s : Placed). Along (world_handler (occasion w n e)) (λ (d : Noted). SafeLedgers w d.ledgers) (station_event w.params (w.now + s.zero) e s.station) (noted_at w)) here (ledger_safe_along w n at e limits facts there possible) in
      let safe = along_at (world_handler (occasion w n e)) (λ (d : Noted). SafeLedgers w d.ledgers) script (noted_at w) h.at along h.on_the_way in
      let first = prefix_at (world_handler (occasion w n e)) lines_of (λ r d. (_, refl)) (λ link q d. refl) script (noted_at w) h.at h.on_the_way in
      let kept = has_noted w n at there station h.at in
      let ends : with_ends notes.copies (ledgers_seen notes) station ≡ stopped_with w n at there station h.at =
      ap (λ (cs : List Copy). with_ends cs (ledgers_seen notes) station) h.noted.copies ∙ ap (λ (l : Ledgers). with_ends h.at.copies l station) h.noted.ledgers in
      subst (λ (u : World). HasStopped tells w (ComesAt w n e) (at_station w n e) before after u) (sym (is ∙ ends))
      (subst (λ (r : List Entry × World). HasStopped tells w (ComesAt w n e) r before after (stopped_with w n at there station h.at)) (sym at_is)
      (record {
        noted = h.at;
        comes_to = subst (λ (o : Option Placed). CameTo w n e o h.at) (sym there) h.on_the_way;
        rest = first.0;
        told = first.1;
        lines = h.noted.lines;
        has_noted = kept;
        kept = way_keeps (occasion w n e) script (noted_at w) h.at h.on_the_way;
        safe = safe_with w (stopped_with w n at there station h.at) h.at.ledgers kept.lives safe;
      }))

  -- with the occasion and the notes that it began with
  module _ (o : Occasion) (is : o ≡ occasion w n e) (start : Noted) (began : start ≡ noted_at w) (p_script : Script Mark (Station Mark)) (plays : p_script ≡ script) (limits : IsWithinLimits w.params) (facts : WorldFacts w) (possible : IsPossible w n e) where
    pub ok_happened : (station : Station Mark) → HappenedAll tells o p_script start before after notes station → HasHappened tells (at_station w n e) before after (with_ends notes.copies (ledgers_seen notes) station)
    ok_happened station h =
        all_happened station
        (subst (λ (k : Occasion). HappenedAll tells k script (noted_at w) before after notes station) is
        (subst (λ (d : Noted). HappenedAll tells o script d before after notes station) began
        (subst (λ (s : Script Mark (Station Mark)). HappenedAll tells o s start before after notes station) plays h)))

    pub err_happened : (world : World) (station : Station Mark) → world ≡ with_ends notes.copies (ledgers_seen notes) station → HappenedPart tells o p_script start before after notes → HasStopped tells w (ComesAt w n e) (at_station w n e) before after world
    err_happened world station same h =
        part_happened world station same limits facts possible
        (subst (λ (k : Occasion). HappenedPart tells k script (noted_at w) before after notes) is
        (subst (λ (d : Noted). HappenedPart tells o script d before after notes) began
        (subst (λ (s : Script Mark (Station Mark)). HappenedPart tells o s start before after notes) plays h)))

    pub result_happened : {U E : Type 0} (r : Result U E) (from : Notes) (same : start ≡ noted_in from) (station : Station Mark) (world : World) → world ≡ with_ends notes.copies (ledgers_seen notes) station
        → Happened tells r o p_script from before notes after station → Happens tells r w (ComesAt w n e) (at_station w n e) before after world
    result_happened (Ok done) from same station world seen h =
        let k = ok_happened station (subst (λ (d : Noted). HappenedAll tells o p_script d before after notes station) (sym same) h) in
        record { lines = k.lines; world_is = seen ∙ k.world_is }
    result_happened (Err fault) from same station world seen h =
        err_happened world station seen (subst (λ (d : Noted). HappenedPart tells o p_script d before after notes) (sym same) h)

-- the occasion of an event is what its station and the event bring
same_occasion : (p : Params) (now n : ℕ) {life life' : ℕ} {items items' : List Item} {place place' : ℕ} → life ≡ life' → items ≡ items' → place ≡ place'
    → (let o : Occasion = record { params = p; now = now; node = n; life = life; items = items; place = place } in o) ≡ record { params = p; now = now; node = n; life = life'; items = items'; place = place' }
same_occasion p now n a b c = cc

pub occasion_is : (w : World) (n life : ℕ) (e : Event Mark) (b : Brought) → (placed w n).life ≡ life → Brings w n e b → occasion_with w.params w.now n life b ≡ occasion w n e
occasion_is w n life (Send f octets begin end) b l h = same_occasion w.params w.now n (sym l) (sym h.items) (sym h.place)
occasion_is w n life (Read f most) b l h = same_occasion w.params w.now n (sym l) (sym h.items) (sym h.place)
occasion_is w n life Tick b l h = same_occasion w.params w.now n (sym l) (sym h.items) (sym h.place)
occasion_is w n life (Arrive link parcel) b l h = same_occasion w.params w.now n (sym l) (sym h.items) (sym h.place)

-- a station that isn't there does nothing
pub nothing_happened : {L : Type 0} (tells : L → Entry → L → Type 0) (w : World) (n : ℕ) (e : Event Mark) (v : L) (world : World) → look ◌==◌ n w.stations ≡ None → world ≡ w → HasHappened tells (at_station w n e) v v world
nothing_happened tells w n e v world none same = subst (λ (r : List Entry × World). HasHappened tells r v v world) (sym (ap (event_at w n e) none)) (record { lines = refl; world_is = same })
