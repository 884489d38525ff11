-- What a relay reports says nothing of octets and lives, and changes no ledger.
use Rattle.std.proofs.Common.{ℕ, ◌≡◌, List, length, Option, refl, ◌∙◌}
use Rattle.dt_units.specs.declared.parameters.Params.{Params}
use Rattle.dt_units.specs.declared.endpoints.Flow.{Flow}
use Rattle.dt_reports.specs.Told.{Told}
use Rattle.dt_flow_model.specs.Flow.{FlowState}
use Rattle.dt_flow_model.specs.Frames.{Mark}
use Rattle.dt_world_model.specs.Host.{Host}
use Rattle.dt_world_model.specs.Relay.{Parcel, Out, Relay}
use Rattle.dt_world_model.specs.Script.{Script, Done, Tell, Ask, Hand, ◌>>=◌, play}
use Rattle.dt_world_model.specs.Station.{flush_links, pass_on, send_off, station_with}
use Rattle.dt_world_model.specs.Ledgers.{Occasion, effect_of, mark_of}
use Rattle.dt_world_model.specs.World.{Noted, note_copy, note_told, world_handler}
use Rattle.dt_world_laws.specs.Tellings.{AllTold}
use Rattle.dt_world_laws.proofs.Alongside.{IsQuiet, quiet_by}
use Rattle.dt_world_laws.proofs.Tellings.{OfRelays, links_told, off_told, passed_with_told}
use Rattle.dt_audit.specs.Books.{Book}
use Rattle.dt_audit.specs.LogRows.{FlowLog}
use Rattle.dt_audit_laws.specs.Logs.{LogOf, ShowsAlike}
use Rattle.dt_audit_laws.proofs.Lines.{SaysNothing, nothing_in_range, other_goes, world_fact, world_range}

-- what is told changes no ledger, and says nothing of octets and lives
abbrev pub IsMute : Told → Type 0
IsMute told = IsQuiet (effect_of told) × SaysNothing told

-- so it is of all that a script tells
abbrev pub Mute : {A : Type 0} → Script Mark A → Type 0
Mute s = AllTold IsMute s

-- RELAYS
mute_relays : OfRelays IsMute
mute_relays = record { put = λ link life. (tt, λ node. refl); expired = λ link. (tt, λ node. refl); no_route = λ to. (tt, λ node. refl); full = λ link. (tt, λ node. refl) }

pub links_mute : (now : ℕ) (links : List ℕ) (outs : List (Out Mark)) → Mute (flush_links now links outs)
links_mute now links outs = links_told IsMute mute_relays now links outs

pub passed_mute : (now : ℕ) (parcel : Parcel Mark) (host : Host) (relay : Relay Mark) → Mute (pass_on parcel now relay >>= λ after. Done (station_with host after))
passed_mute now parcel host relay = passed_with_told IsMute mute_relays now parcel host relay

pub off_mute : (now : ℕ) (host : Host) (frame : Option (List ℕ)) (relay : Relay Mark) → Mute (send_off now host frame relay)
off_mute now host frame relay = off_told IsMute mute_relays now host frame relay

-- THE WORLD'S BOOKS AND LINES
module _ (o : Occasion) where
  pub mute_ledgers : {A : Type 0} (s : Script Mark A) (d : Noted) → Mute s → (play (world_handler o) s d).0.ledgers ≡ d.ledgers
  mute_ledgers (Done x) d h = refl
  mute_ledgers (Tell r s) d h = mute_ledgers s (note_told o r d) h.1 ∙ quiet_by o (effect_of r) d.ledgers h.0.0
  mute_ledgers (Ask host octets c) d h = mute_ledgers (c (mark_of o d.ledgers host octets)) d (h (mark_of o d.ledgers host octets))
  mute_ledgers (Hand link parcel s) d h = mute_ledgers s (note_copy o link parcel d) h

  module _ (p : Params) (views : Flow → FlowState) (start : Book FlowLog) where
    alike : (f : Flow) → ShowsAlike (views f) (views f)
    alike f = record { taken = refl; given = refl; run = refl; sender = refl; receiver = refl }

    pub mute_log : {A : Type 0} (s : Script Mark A) (d : Noted) → Mute s → LogOf p views start d.lines → LogOf p views start (play (world_handler o) s d).0.lines
    mute_log (Done x) d h log = log
    mute_log (Tell r s) d h log = mute_log s (note_told o r d) h.1 (other_goes p views views start d.lines _ (world_fact o.node (length d.copies) r ∙ h.0.1 o.node) (world_range (length d.copies) r (nothing_in_range r h.0.1)) alike log)
    mute_log (Ask host octets c) d h log = mute_log (c (mark_of o d.ledgers host octets)) d (h (mark_of o d.ledgers host octets)) log
    mute_log (Hand link parcel s) d h log = mute_log s (note_copy o link parcel d) h log
