-- At every point of a station's event the ledger is safe: so it is where the event stops for want of memory.
use Rattle.std.proofs.Common.{ℕ, zero, suc, ◌+◌, ◌≡◌, ◌==◌, Bool, true, false, map, Option, Some, None, Ok, Err, Result, refl, sym, ap, subst, inl, inr, ◌∙◌}
use Rattle.std.proofs.lemmas.Bool.{cases_Bool}
use Rattle.dt_units.specs.declared.parameters.Params.{Params}
use Rattle.dt_units.specs.declared.endpoints.Flow.{Flow}
use Rattle.dt_units.specs.Limits.{IsWithinLimits}
use Rattle.dt_reports.specs.Told.{Told}
use Rattle.dt_layout.specs.declared.faults.LayoutFault.{LayoutFault}
use Rattle.dt_layout.specs.Spelling.{PacketValue}
use Rattle.dt_layout.specs.Reading.{gram_in, packet_read}
use Rattle.dt_layout.specs.Carried.{to_of}
use Rattle.dt_flow_model.specs.Safe.{SafeLedger}
use Rattle.dt_flow_laws.proofs.SafeOf.{safe_of}
use Rattle.dt_world_model.specs.Tables.{look}
use Rattle.dt_flow_model.specs.Frames.{Mark}
use Rattle.dt_world_model.specs.Host.{Host, Turn, next_turn, work, IsCurrentHost, offers}
use Rattle.dt_world_model.specs.Relay.{Parcel, admit, with_outs}
use Rattle.dt_world_model.specs.Script.{Script, Done, Tell, Ask, Hand, ◌>>=◌, play, Along}
use Rattle.dt_world_model.specs.Station.{Station, Event, Send, Read, Tick, Arrive, come, come_in, deliver, do_turns, flush_links, go_on, happen, pass_on, settle_station, station_event, station_with}
use Rattle.dt_world_laws.proofs.Books.{Cause, book_of, cause_of, occasion_is}
use Rattle.dt_world_model.specs.Ledgers.{Changes, Ledgers, Neither, Leaves, Effect, Occasion, effect_of, ledgers_by, mark_of}
use Rattle.dt_world_laws.proofs.Plays.{do_turn, link_of}
use Rattle.dt_world_model.specs.World.{World, Placed, Noted, note_copy, world_handler, note_told, placed, view}
use Rattle.dt_world_model.specs.WorldStep.{noted_at, occasion}
use Rattle.dt_world_model.specs.WorldFacts.{IsPossible, SafeLedgers, WorldFacts}
use Rattle.dt_world_model.proofs.Tables.{nat_is}
use Rattle.dt_world_laws.specs.Tellings.{AllTold}
use Rattle.dt_world_laws.proofs.Tellings.{OfRelays, links_told, off_told, passed_with_told}
use Rattle.dt_world_laws.proofs.Views.{views}
use Rattle.dt_world_laws.proofs.Good.{Good, reading, relay_leads, stage}
use Rattle.dt_world_laws.proofs.Flushing.{flush_links_keeps}
use Rattle.dt_world_laws.proofs.Turns.{settle_leads, turn_leads}
use Rattle.dt_world_laws.proofs.Settles.{no_offer}
use Rattle.dt_world_laws.proofs.Settled.{settle_done}
use Rattle.dt_world_laws.proofs.Events.{Possible, event_done, happens_then}
use Rattle.dt_world_laws.proofs.Worlds.{possible_here, starts}

-- what changes no ledger: a packet that leaves, or what is no flow's
abbrev pub IsQuiet : Effect → Type 0
IsQuiet (Changes f change) = ⊥
IsQuiet (Leaves link life) = Unit {0}
IsQuiet Neither = Unit {0}

pub quiet_by : (o : Occasion) (e : Effect) (all : Ledgers) → IsQuiet e → ledgers_by o e all ≡ all
quiet_by o (Changes f change) all h = absurd h
quiet_by o (Leaves link life) all h = refl
quiet_by o Neither all h = refl

-- a script that tells nothing about a ledger, and one that does so at its first node at most
abbrev pub IsQuietTold : Told → Type 0
IsQuietTold r = IsQuiet (effect_of r)

abbrev pub Silent : {A : Type 0} → Script Mark A → Type 0
Silent s = AllTold IsQuietTold s

abbrev Single : {A : Type 0} → Script Mark A → Type 0
Single (Tell r s) = Silent s
Single (Done a) = Unit {0}
Single (Ask h o k) = (t : Mark) → Silent (k t)
Single (Hand l p s) = Silent s

silent_single : {A : Type 0} (s : Script Mark A) → Silent s → Single s
silent_single (Done a) h = tt
silent_single (Tell r s) h = h.1
silent_single (Ask x o c) h = h
silent_single (Hand l p s) h = h

-- relays are silent
pub quiet_relays : OfRelays IsQuietTold
quiet_relays = record { put = λ link life. tt; expired = λ link. tt; no_route = λ to. tt; full = λ link. tt }

come_single : (p : Params) (now : ℕ) (b : Bool) (parcel : Parcel Mark) (st : Station Mark) → Single (come p now b parcel st)
come_single p now true parcel st = deliver_single (packet_read (gram_in parcel.octets))
  where
    deliver_single : (r : Result PacketValue LayoutFault) → Single (deliver p now (gram_in parcel.octets).from r st)
    deliver_single (Err fault) = tt
    deliver_single (Ok v) = off_told IsQuietTold quiet_relays now _ _ st.relay
come_single p now false parcel st =
    silent_single (pass_on parcel now st.relay >>= λ relay. Done (station_with st.host relay)) (passed_with_told IsQuietTold quiet_relays now parcel st.host st.relay)

happen_single : (p : Params) (now : ℕ) (e : Event Mark) (st : Station Mark) → Single (happen p now e st)
happen_single p now Tick st = tt
happen_single p now (Send f octets begin end) st = tt
happen_single p now (Read f most) st = tt
happen_single p now (Arrive link parcel) st = in_single (admit link parcel st.relay)
  where
    in_single : (o : Option (Parcel Mark)) → Single (come_in p now link o st)
    in_single None = tt
    in_single (Some low) = come_single p now (to_of low.octets == st.host.me) low st

module _ (a : Occasion) (Fact : Ledgers → Type 0) where
  abbrev Holds : Noted → Type 0
  Holds d = Fact d.ledgers

  silent_tell : (r : Told) (d : Noted) → IsQuiet (effect_of r) → (note_told a r d).ledgers ≡ d.ledgers
  silent_tell r d e = quiet_by a (effect_of r) d.ledgers e

  silent_books : {A : Type 0} (s : Script Mark A) (d : Noted) → Silent s → (play (world_handler a) s d).0.ledgers ≡ d.ledgers
  silent_books (Done x) d h = refl
  silent_books (Tell r s) d h = silent_books s (note_told a r d) h.1 ∙ silent_tell r d h.0
  silent_books (Ask x o c) d h = silent_books (c (mark_of a d.ledgers x o)) d (h (mark_of a d.ledgers x o))
  silent_books (Hand l p s) d h = silent_books s (note_copy a l p d) h

  silent_along : {A : Type 0} (s : Script Mark A) (d : Noted) → Silent s → Fact d.ledgers → Along (world_handler a) Holds s d
  silent_along (Done x) d h f = f
  silent_along (Tell r s) d h f = (f, silent_along s (note_told a r d) h.1 (subst Fact (sym (silent_tell r d h.0)) f))
  silent_along (Ask x o c) d h f = (f, silent_along (c (mark_of a d.ledgers x o)) d (h (mark_of a d.ledgers x o)) f)
  silent_along (Hand l p s) d h f = (f, silent_along s (note_copy a l p d) h f)

  -- what holds at the start and at the end of a script that tells one thing holds all along
  single_along : {A : Type 0} (s : Script Mark A) (d : Noted) → Single s → Fact d.ledgers → Fact (play (world_handler a) s d).0.ledgers → Along (world_handler a) Holds s d
  single_along (Done x) d h f g = f
  single_along (Tell r s) d h f g = (f, silent_along s (note_told a r d) h (subst Fact (silent_books s (note_told a r d) h) g))
  single_along (Ask x o c) d h f g = (f, silent_along (c (mark_of a d.ledgers x o)) d (h (mark_of a d.ledgers x o)) f)
  single_along (Hand l p s) d h f g = (f, silent_along s (note_copy a l p d) h f)

  along_bind : {A B : Type 0} (s : Script Mark A) (k : A → Script Mark B) (d : Noted) → Along (world_handler a) Holds s d → Along (world_handler a) Holds (k (play (world_handler a) s d).1) (play (world_handler a) s d).0 → Along (world_handler a) Holds (s >>= k) d
  along_bind (Done x) k d h g = g
  along_bind (Tell r s) k d h g = (h.0, along_bind s k (note_told a r d) h.1 g)
  along_bind (Ask x o c) k d h g = (h.0, along_bind (c (mark_of a d.ledgers x o)) k d h.1 g)
  along_bind (Hand l p s) k d h g = (h.0, along_bind s k (note_copy a l p d) h.1 g)

module _ (w : World) (n : ℕ) (cause : Cause) (limits : IsWithinLimits w.params) where
  life_is : (until : ℕ) (host : Host) (books : Ledgers) (f : Flow) → (views w n host books f).sender_life ≡ (view w f).sender_life
  life_is until host books f = elim (cases_Bool (n == f.from.0)) [ inl y ↦ rw y (let at : n ≡ f.from.0 = nat_is n f.from.0 y in ap (λ (k : ℕ). (placed w k).life) at) | inr o ↦ rw o refl ]

  good_safe : (st : Station Mark) (d : Noted) → Good w n cause st d → SafeLedgers w d.ledgers
  good_safe st d good f =
      let safe = (safe_of w.params (views w n st.host d.ledgers f) (good.flows f)).ledger in
      subst (λ (life : ℕ). SafeLedger life (book_of d.ledgers f).taken (book_of d.ledgers f).given (book_of d.ledgers f).reads) (life_is 0 st.host d.ledgers f) safe

  abbrev SafeAlong : {A : Type 0} → Script Mark A → Noted → Type 0
  SafeAlong s d = Along (world_handler (stage w n cause)) (λ d. SafeLedgers w d.ledgers) s d

  go_on_along : (most : ℕ) (st : Station Mark) (d : Noted) (turn : Option Turn) → Good w n cause st d → next_turn w.params (reading w n cause) st.host ≡ turn
      → ((st' : Station Mark) (d' : Noted) → Good w n cause st' d' → SafeAlong (do_turns most w.params (reading w n cause) st') d')
      → SafeAlong (go_on (do_turns most w.params (reading w n cause)) (reading w n cause) turn st) d
  go_on_along most st d None good e again = good_safe st d good
  go_on_along most st d (Some turn) good e again =
      let r = play (world_handler (stage w n cause)) (do_turn (reading w n cause) turn st.relay) d in
      let first = turn_leads w n cause limits st d turn good e in
      along_bind (stage w n cause) (SafeLedgers w) (do_turn (reading w n cause) turn st.relay) (do_turns most w.params (reading w n cause)) d
      (single_along (stage w n cause) (SafeLedgers w) (do_turn (reading w n cause) turn st.relay) d (off_told IsQuietTold quiet_relays (reading w n cause) turn.host turn.frame st.relay) (good_safe st d good) (good_safe r.1 r.0 first.good))
      (again r.1 r.0 first.good)

  do_turns_along : (most : ℕ) (st : Station Mark) (d : Noted) → Good w n cause st d → SafeAlong (do_turns most w.params (reading w n cause) st) d
  do_turns_along zero st d good = good_safe st d good
  do_turns_along (suc most) st d good = go_on_along most st d (next_turn w.params (reading w n cause) st.host) good refl (do_turns_along most)

  settle_along : (st : Station Mark) (d : Noted) → Good w n cause st d → SafeAlong (settle_station w.params (reading w n cause) st) d
  settle_along st d good =
      let links = map link_of st.relay.outs in
      let k = flush_links_keeps w.params (stage w n cause) (views w n st.host d.ledgers) (placed w n).zero links st.relay.outs d good.outs good.copies in
      let r = play (world_handler (stage w n cause)) (flush_links (reading w n cause) links st.relay.outs) d in
      let first = relay_leads w n cause st d (with_outs st.relay r.1) r.0 good k.ledgers k.rest k.copies refl refl in
      along_bind (stage w n cause) (SafeLedgers w) (flush_links (reading w n cause) links st.relay.outs)
      (λ outs. do_turns (work w.params (reading w n cause) st.host) w.params (reading w n cause) (station_with st.host (with_outs st.relay outs))) d
      (silent_along (stage w n cause) (SafeLedgers w) (flush_links (reading w n cause) links st.relay.outs) d (links_told IsQuietTold quiet_relays (reading w n cause) links st.relay.outs) (good_safe st d good))
      (do_turns_along (work w.params (reading w n cause) st.host) (station_with st.host (with_outs st.relay r.1)) r.0 first.good)

module _ (w : World) (n : ℕ) (limits : IsWithinLimits w.params) where
  event_along : (e : Event Mark) (st : Station Mark) (d : Noted) → Good w n (cause_of e) st d → Possible w n st d e → Along (world_handler (stage w n (cause_of e))) (λ d. SafeLedgers w d.ledgers) (station_event w.params (reading w n (cause_of e)) e st) d
  event_along e st d good can =
      let c = cause_of e in
      let m = world_handler (stage w n c) in
      let now = reading w n c in
      let r1 = play m (settle_station w.params now st) d in
      let r2 = play m (happen w.params now e r1.1) r1.0 in
      let two = happens_then w n limits e st d good can in
      along_bind (stage w n c) (SafeLedgers w) (settle_station w.params now st) (λ before. happen w.params now e before >>= λ after. settle_station w.params now after) d (settle_along w n c limits st d good)
      (along_bind (stage w n c) (SafeLedgers w) (happen w.params now e r1.1) (settle_station w.params now) r1.0
      (single_along (stage w n c) (SafeLedgers w) (happen w.params now e r1.1) r1.0 (happen_single w.params now e r1.1) (good_safe w n c limits r1.1 r1.0 (settle_leads w n c limits st d good).good) (good_safe w n c limits r2.1 r2.0 two.good))
      (settle_along w n c limits r2.1 r2.0 two.good))

-- AT EVERY POINT OF AN EVENT THE LEDGER IS SAFE
pub ledger_safe_along : (w : World) (n : ℕ) (at : Placed) (e : Event Mark) → IsWithinLimits w.params → WorldFacts w → look ◌==◌ n w.stations ≡ Some at → IsPossible w n e
    → Along (world_handler (occasion w n e)) (λ d. SafeLedgers w d.ledgers) (station_event w.params (w.now + (placed w n).zero) e (placed w n).station) (noted_at w)
ledger_safe_along w n at e limits facts there can = subst (λ (o : Occasion). Along (world_handler o) (λ d. SafeLedgers w d.ledgers) (station_event w.params (w.now + (placed w n).zero) e (placed w n).station) (noted_at w)) (sym (occasion_is w n e)) (event_along w n limits e (placed w n).station (noted_at w) (starts w n at there facts (cause_of e)) (possible_here w n at there facts e can))

-- AND NO ACT IS DUE WHEN IT ENDS
pub current_after : (w : World) (n : ℕ) (at : Placed) (e : Event Mark) → IsWithinLimits w.params → WorldFacts w → look ◌==◌ n w.stations ≡ Some at → IsPossible w n e
    → IsCurrentHost w.params (w.now + (placed w n).zero) (play (world_handler (occasion w n e)) (station_event w.params (w.now + (placed w n).zero) e (placed w n).station) (noted_at w)).1.host
current_after w n at e limits facts there can =
    let now = w.now + (placed w n).zero in
    let ended : (o : Occasion) → Noted × Station Mark = λ o. play (world_handler o) (station_event w.params now e (placed w n).station) (noted_at w) in
    let done = event_done w n limits e (placed w n).station (noted_at w) (starts w n at there facts (cause_of e)) (possible_here w n at there facts e can) in
    no_offer w.params now (ended (occasion w n e)).1.host (offers w.params now (ended (occasion w n e)).1.host) (subst (λ (o : Occasion). next_turn w.params now (ended o).1.host ≡ None) (sym (occasion_is w n e)) done)
