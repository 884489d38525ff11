-- An event of the world that is no send and no read gives octets at the end of a flow, and does nothing else to it.
use Rattle.std.proofs.Common.{ℕ, ◌+◌, ◌==◌, [], ◌++◌, Option, Some, None, refl, ap, sym, ◌∙◌, append_assoc, append-nil}
use Rattle.dt_units.specs.declared.parameters.Params.{Params}
use Rattle.dt_units.specs.declared.endpoints.Flow.{Flow}
use Rattle.dt_reports.specs.Told.{Told}
use Rattle.dt_reports.specs.Matters as matter
use Rattle.dt_reports.specs.Matters.{Matter, matter_of}
use Rattle.dt_flow_model.specs.Frames.{Mark}
use Rattle.dt_flow_model.specs.Ledger.{given_rows}
use Rattle.dt_world_model.specs.Ledgers.{Accepts, Change, FlowLedger, GivesUp, Occasion, ReadsOut, Settles, Takes, Transmits, TransmitsAgain, effect_by, effect_of, ledger_after, ledger_of}
use Rattle.dt_world_model.specs.Relay.{Parcel, admit}
use Rattle.dt_world_model.specs.Script.{Script, Done, Tell, Ask, Hand, play}
use Rattle.dt_world_model.specs.Station.{Arrive, Event, Station, Tick, come_in, happen, settle_station, station_event}
use Rattle.dt_world_model.specs.Tables.{look}
use Rattle.dt_world_model.specs.World.{Noted, Placed, World, note_copy, note_told, world_handler}
use Rattle.dt_world_model.specs.WorldStep.{Arrives, Loses, Passes, Reads, Restarts, Sends, Ticks, WorldEvent, after_event, copy_at, event_at, link_for, noted_at, occasion, restart_at}
use Rattle.dt_calls_model.specs.Heard.{ALoss, APiece, ARefusal, ATaking, AnAcceptance, Heard, NoMessage, heard, heard_by}
use Rattle.dt_calls_laws.specs.Grown.{GrowsAtEnd, IsNoSendOrRead}
use Rattle.dt_world_laws.specs.Tellings.{AllTold}
use Rattle.dt_world_laws.proofs.Tellings.{OfArrivals, comes_in_told, event_told, told_weaker}
use Rattle.dt_calls_laws.specs.Silence.{IsSilent, IsSilentTold, SameOctets, TellsNoMessage}
use Rattle.dt_calls_laws.proofs.Octets.{OfChange, changed_same, told_leaves}
use Rattle.dt_calls_laws.proofs.Silence.{settle_silent}

pub grows_nothing : (l : FlowLedger) → GrowsAtEnd l l
grows_nothing l = record { taken = refl; more = []; given = sym (append-nil l.given); reads = refl }

pub grows_then : (l mid after : FlowLedger) → GrowsAtEnd l mid → GrowsAtEnd mid after → GrowsAtEnd l after
grows_then l mid after one two = record {
  taken = two.taken ∙ one.taken;
  more = one.more ++ two.more;
  given = two.given ∙ ap (λ g. g ++ two.more) one.given ∙ append_assoc l.given one.more two.more;
  reads = two.reads ∙ one.reads;
}

grows_same : (l after : FlowLedger) → SameOctets l after → GrowsAtEnd l after
grows_same l after h = record { taken = h.taken; more = []; given = h.given ∙ sym (append-nil l.given); reads = h.reads }

-- no piece is told, and no taking
abbrev pub IsGrowth : Heard → Type 0
IsGrowth (APiece piece) = ⊥
IsGrowth ATaking = ⊥
IsGrowth ARefusal = Unit {0}
IsGrowth (AnAcceptance flow) = Unit {0}
IsGrowth (ALoss flow) = Unit {0}
IsGrowth NoMessage = Unit {0}

silent_grows : (what : Heard) → IsSilent what → IsGrowth what
silent_grows (APiece piece) h = absurd h
silent_grows ATaking h = absurd h
silent_grows ARefusal h = tt
silent_grows (AnAcceptance flow) h = tt
silent_grows (ALoss flow) h = tt
silent_grows NoMessage h = tt

abbrev IsGrowing : Change → Type 0
IsGrowing Takes = ⊥
IsGrowing (Transmits count) = Unit {0}
IsGrowing TransmitsAgain = Unit {0}
IsGrowing (GivesUp count) = Unit {0}
IsGrowing (Settles count) = Unit {0}
IsGrowing (Accepts run) = Unit {0}
IsGrowing (ReadsOut count) = ⊥

growing_matter : (m : Matter) → IsGrowth (heard_by m) → OfChange IsGrowing (effect_by m)
growing_matter (matter.Taken f count) h = absurd h
growing_matter (matter.Refused f fault) h = tt
growing_matter (matter.Transmitted f number count) h = tt
growing_matter (matter.Retransmitted f) h = tt
growing_matter (matter.GivenUp f count) h = tt
growing_matter (matter.Acknowledged f count window) h = tt
growing_matter (matter.Accepted f number count run) h = tt
growing_matter (matter.Replied f number) h = tt
growing_matter (matter.Dropped f) h = tt
growing_matter (matter.ReadOut f run begin end octets) h = absurd h
growing_matter (matter.NothingRead f) h = tt
growing_matter (matter.Left link life) h = tt
growing_matter (matter.Begun life) h = tt
growing_matter matter.Neither h = tt

changed_grows : (o : Occasion) (change : Change) (l : FlowLedger) → IsGrowing change → GrowsAtEnd l (ledger_after o change l)
changed_grows o Takes l h = absurd h
changed_grows o (Transmits count) l h = grows_same l _ (changed_same o (Transmits count) l tt)
changed_grows o TransmitsAgain l h = grows_nothing l
changed_grows o (GivesUp count) l h = grows_same l _ (changed_same o (GivesUp count) l tt)
changed_grows o (Settles count) l h = grows_same l _ (changed_same o (Settles count) l tt)
changed_grows o (Accepts run) l h = record { taken = refl; more = given_rows o.life o.now run o.place o.items; given = refl; reads = refl }
changed_grows o (ReadsOut count) l h = absurd h

-- SCRIPTS that tell of no send that is taken and of no piece
abbrev pub IsGrowthTold : Told → Type 0
IsGrowthTold r = IsGrowth (heard r)

abbrev pub TellsGrowth : {A : Type 0} → Script Mark A → Type 0
TellsGrowth s = AllTold IsGrowthTold s

growth_of_silence : {A : Type 0} (s : Script Mark A) → TellsNoMessage s → TellsGrowth s
growth_of_silence s h = told_weaker IsSilentTold IsGrowthTold s (λ r h. silent_grows (heard r) h) h

pub play_grows : {A : Type 0} (o : Occasion) (s : Script Mark A) (d : Noted) (g : Flow) → TellsGrowth s → GrowsAtEnd (ledger_of d.ledgers g) (ledger_of (play (world_handler o) s d).0.ledgers g)
play_grows o (Done a) d g h = grows_nothing (ledger_of d.ledgers g)
play_grows o (Tell r s) d g h =
    let mid = note_told o r d in
    grows_then (ledger_of d.ledgers g) (ledger_of mid.ledgers g) (ledger_of (play (world_handler o) s mid).0.ledgers g) (told_leaves GrowsAtEnd IsGrowing grows_nothing changed_grows o r d.ledgers g (effect_of r) refl (growing_matter (matter_of r) h.0)) (play_grows o s mid g h.1)
play_grows o (Ask host octets s) d g h = let t = (world_handler o).tag host octets d in play_grows o (s t) d g (h t)
play_grows o (Hand link parcel s) d g h = play_grows o s (note_copy o link parcel d) g h

-- AN ARRIVAL
growing_arrivals : OfArrivals IsGrowthTold
growing_arrivals = record { relays = record { put = λ link life. tt; expired = λ link. tt; no_route = λ to. tt; full = λ link. tt }; expired = λ link. tt; bad = λ fault. tt; quiet = λ until. tt; accepted = λ f number count run. tt; replied = λ f number window. tt; dropped = λ f number. tt; ignored = λ f number window. tt; settled = λ f count window. tt; closing = λ f number. tt }

pub admitted_grows : (p : Params) (now link : ℕ) (parcel : Option (Parcel Mark)) (st : Station Mark) → TellsGrowth (come_in p now link parcel st)
admitted_grows p now link parcel st = comes_in_told IsGrowthTold growing_arrivals p now link parcel st

pub event_grows : (p : Params) (now : ℕ) (e : Event Mark) (st : Station Mark) → ((before : Station Mark) → TellsGrowth (happen p now e before)) → TellsGrowth (station_event p now e st)
event_grows p now e st h = event_told IsGrowthTold p now e st (λ other. growth_of_silence (settle_station p now other) (settle_silent p now other)) h

-- IN THE WORLD
at_grows : (w : World) (n : ℕ) (e : Event Mark) (place : Option Placed) (g : Flow) → ((before : Station Mark) (now : ℕ) → TellsGrowth (happen w.params now e before)) → GrowsAtEnd (ledger_of w.ledgers g) (ledger_of (event_at w n e place).1.ledgers g)
at_grows w n e None g h = grows_nothing (ledger_of w.ledgers g)
at_grows w n e (Some at) g h = let now = w.now + at.zero in play_grows (occasion w n e) (station_event w.params now e at.station) (noted_at w) g (event_grows w.params now e at.station (λ before. h before now))

restart_grows : (w : World) (n : ℕ) (place : Option Placed) (g : Flow) → GrowsAtEnd (ledger_of w.ledgers g) (ledger_of (restart_at w n place).1.ledgers g)
restart_grows w n None g = grows_nothing (ledger_of w.ledgers g)
restart_grows w n (Some at) g = grows_nothing (ledger_of w.ledgers g)

pub others_grow : (w : World) (e : WorldEvent) (g : Flow) → IsNoSendOrRead e → GrowsAtEnd (ledger_of w.ledgers g) (ledger_of (after_event w e).1.ledgers g)
others_grow w (Passes by) g h = grows_nothing (ledger_of w.ledgers g)
others_grow w (Sends f octets begin end) g h = absurd h
others_grow w (Reads f most) g h = absurd h
others_grow w (Ticks n) g h = at_grows w n Tick (look ◌==◌ n w.stations) g (λ before now. tt)
others_grow w (Arrives n) g h =
    let link = (copy_at w n).link in
    let parcel = (copy_at w n).parcel in
    at_grows w (link_for w n).to (Arrive link parcel) (look ◌==◌ (link_for w n).to w.stations) g (λ before now. admitted_grows w.params now link (admit link parcel before.relay) before)
others_grow w (Loses n) g h = grows_nothing (ledger_of w.ledgers g)
others_grow w (Restarts n) g h = restart_grows w n (look ◌==◌ n w.stations) g
