-- A flow takes no more octets than were handed in: settling takes none, and an event those of a send once at most.
use Rattle.std.proofs.Common.{ℕ, zero, suc, ◌+◌, ◌≤◌, ◌≡◌, ◌==◌, true, false, if◌then◌else◌, List, [], ◌∷◌, length, map, Option, Some, None, refl, sym, ap, subst, inl, inr, ◌∙◌, arith, length-append}
use Rattle.std.specs.Prelude.{option_map, unwrap_or}
use Rattle.std.proofs.lemmas.Bool.{cases_Bool}
use Rattle.std.proofs.lemmas.List.{length-map}
use Rattle.dt_items.specs.declared.piece.Piece.{Piece}
use Rattle.dt_items.specs.Unread.{marked}
use Rattle.dt_items.proofs.Marks.{length-marked}
use Rattle.dt_units.specs.declared.parameters.Params.{Params}
use Rattle.dt_units.specs.declared.endpoints.Flow.{Flow}
use Rattle.dt_reports.specs.Entries.{Entry}
use Rattle.dt_reports.specs.declared.faults.Refusal.{Refusal}
use Rattle.dt_reports.specs.declared.faults.StepFault.{StepFault}
use Rattle.dt_reports.specs.Told.{Told}
use Rattle.dt_flow_model.specs.declared.acts.RecvAct.{RecvAct}
use Rattle.dt_flow_model.specs.declared.acts.RecvAct.TheVariants as recv
use Rattle.dt_flow_model.specs.declared.acts.SendAct.{SendAct}
use Rattle.dt_flow_model.specs.declared.acts.SendAct.TheVariants as send
use Rattle.dt_flow_model.specs.declared.rows.Fate.TheVariants as fate
use Rattle.dt_flow_model.specs.Frames.{Mark}
use Rattle.dt_flow_model.specs.Ledger.{first_unsent, open_row}
use Rattle.dt_flow_laws.proofs.Ledger.{note_length, settle_length}
use Rattle.dt_world_model.specs.Host.{Host, HostAct, Offer, Turn, least, next_turn, offers, recv_act, send_act, send_octets, told_recv, told_send, turn_of, work}
use Rattle.dt_world_model.specs.Ledgers.{Accepts, Change, Changes, Effect, FlowLedger, GivesUp, Leaves, Ledgers, Neither, Occasion, ReadsOut, Settles, Takes, Transmits, TransmitsAgain, effect_of, ledger_after, ledger_of, ledgers_by, mark_of}
use Rattle.dt_world_model.specs.Relay.{admit, with_outs}
use Rattle.dt_world_model.specs.Script.{Script, Done, Tell, Ask, Hand, ◌>>=◌, play}
use Rattle.dt_world_model.specs.Setup.{Setup, new_world}
use Rattle.dt_world_model.specs.Station.{Station, Event, Send, Read, Tick, Arrive, do_turns, flush_links, go_on, happen, settle_station, station_event, station_with, told_piece, told_sent}
use Rattle.dt_world_model.specs.Tables.{look, same_flow, write}
use Rattle.dt_world_model.specs.World.{Noted, Placed, World, note_copy, note_told, world_handler}
use Rattle.dt_world_model.specs.WorldStep.{Arrives, Loses, Passes, Reads, Restarts, Sends, Ticks, WorldEvent, after_event, copy_at, event_at, first_refusal, link_for, noted_at, occasion, refusals, restart_at, run_from, step_unless, then_step, world_after, world_step}
use Rattle.dt_world_model.proofs.Tables.{flow_is, flow_self, look_write, look_write_other}
use Rattle.dt_world_laws.specs.Handed.{handed_in, handed_in_all}
use Rattle.dt_world_laws.specs.Tellings.{AllTold}
use Rattle.dt_world_laws.proofs.Tellings.{OfArrivals, OfRelays, comes_in_told, links_told, off_told, told_then}
use Rattle.dt_world_laws.proofs.Plays.{do_turn, link_of, play_bind}

-- what is told without octets being taken
abbrev TakesNone : Effect → Type 0
TakesNone (Changes f Takes) = ⊥
TakesNone (Changes f (Transmits count)) = Unit {0}
TakesNone (Changes f TransmitsAgain) = Unit {0}
TakesNone (Changes f (GivesUp count)) = Unit {0}
TakesNone (Changes f (Settles count)) = Unit {0}
TakesNone (Changes f (Accepts run)) = Unit {0}
TakesNone (Changes f (ReadsOut count)) = Unit {0}
TakesNone (Leaves link life) = Unit {0}
TakesNone Neither = Unit {0}

abbrev count_in : Option FlowLedger → ℕ
count_in o = length (unwrap_or o (record { taken = []; given = []; reads = [] })).taken

abbrev pub taken_count : Ledgers → Flow → ℕ
taken_count all f = length (ledger_of all f).taken

-- A LEDGER WRITTEN: of its own flow the count is the new one's, of the others it stays
module _ (g f : Flow) (l : FlowLedger) (all : Ledgers) where
  abbrev Written : Ledgers → Type 0
  Written after = after.rows ≡ write same_flow g l all.rows

  at_own : (after : Ledgers) → Written after → same_flow g f ≡ true → (taken_count after f ≡ length l.taken) × (taken_count all f ≡ taken_count all g)
  at_own after e y =
      let same : g ≡ f = flow_is g f y in (
        ap (λ (rows : List (Flow × FlowLedger)). count_in (look same_flow f rows)) e
            ∙ ap count_in (subst (λ (k : Flow). look same_flow k (write same_flow g l all.rows) ≡ Some l) same (look_write Flow FlowLedger same_flow flow_self flow_is g l all.rows)),
        ap (taken_count all) (sym same),
      )

  at_other : (after : Ledgers) → Written after → same_flow g f ≡ false → taken_count after f ≡ taken_count all f
  at_other after e n =
      ap (λ (rows : List (Flow × FlowLedger)). count_in (look same_flow f rows)) e
      ∙ ap count_in (look_write_other Flow FlowLedger same_flow flow_self flow_is f g l all.rows n)

change_same : (o : Occasion) (f : Flow) (c : Change) (l : FlowLedger) → TakesNone (Changes f c) → length (ledger_after o c l).taken ≡ length l.taken
change_same o f Takes l h = absurd h
change_same o f (Transmits count) l h = note_length o.now (first_unsent o.life l.taken) count l.taken
change_same o f TransmitsAgain l h = refl
change_same o f (GivesUp count) l h = settle_length o.life fate.Uncertain count l.taken
change_same o f (Settles count) l h = settle_length o.life fate.Acked count l.taken
change_same o f (Accepts run) l h = refl
change_same o f (ReadsOut count) l h = refl

effect_same : (o : Occasion) (e : Effect) (all : Ledgers) (f : Flow) → TakesNone e → taken_count (ledgers_by o e all) f ≡ taken_count all f
effect_same o (Changes g c) all f h =
    let l = ledger_after o c (ledger_of all g) in
    elim (cases_Bool (same_flow g f)) [
      | inl y ↦ let own = at_own g f l all (ledgers_by o (Changes g c) all) refl y in own.0 ∙ change_same o g c (ledger_of all g) h ∙ sym own.1
      | inr n ↦ at_other g f l all (ledgers_by o (Changes g c) all) refl n
    ]
effect_same o (Leaves link life) all f h = refl
effect_same o Neither all f h = refl

takes_once : (o : Occasion) (g f : Flow) (all : Ledgers) → taken_count (ledgers_by o (Changes g Takes) all) f ≤ taken_count all f + (if same_flow g f then length o.items else 0)
takes_once o g f all =
    let was = ledger_of all g in
    let l = ledger_after o Takes was in
    let more : length l.taken ≡ length was.taken + length o.items = length-append was.taken (map (open_row o.life None) o.items) ∙ ap (λ (n : ℕ). length was.taken + n) (length-map o.items (open_row o.life None)) in
    elim (cases_Bool (same_flow g f)) [
      | inl y ↦ let own = at_own g f l all (ledgers_by o (Changes g Takes) all) refl y in rw y (omega (arith, own.0, own.1, more))
      | inr n ↦ let other = at_other g f l all (ledgers_by o (Changes g Takes) all) refl n in rw n (omega (arith, other))
    ]

-- SCRIPTS that take none
abbrev TakesNoneTold : Told → Type 0
TakesNoneTold r = TakesNone (effect_of r)

abbrev Takeless : {A : Type 0} → Script Mark A → Type 0
Takeless s = AllTold TakesNoneTold s

-- a relay takes none, and a packet that comes hands none in
takeless_relays : OfRelays TakesNoneTold
takeless_relays = record { put = λ link life. tt; expired = λ link. tt; no_route = λ to. tt; full = λ link. tt }

takeless_arrivals : OfArrivals TakesNoneTold
takeless_arrivals = record { relays = takeless_relays; expired = λ link. tt; bad = λ fault. tt; quiet = λ until. tt; accepted = λ f number count run. tt; replied = λ f number window. tt; dropped = λ f number. tt; ignored = λ f number window. tt; settled = λ f count window. tt; closing = λ f number. tt }

-- an act of a host
told_send_none : (f : Flow) (a : SendAct) → TakesNone (effect_of (told_send f a))
told_send_none f (send.GaveUp count) = tt
told_send_none f send.Released = tt
told_send_none f send.Renewed = tt
told_send_none f (send.Resent cut) = tt
told_send_none f (send.Sent cut) = tt
told_send_none f (send.Met number) = tt

told_recv_none : (f : Flow) (a : RecvAct) → TakesNone (effect_of (told_recv f a))
told_recv_none f recv.Released = tt
told_recv_none f (recv.Acked number window) = tt

turn_none : (p : Params) (now : ℕ) (host : Host) (act : HostAct) → TakesNone (effect_of (turn_of p now host act).told)
turn_none p now host (send_act f x act) = told_send_none f _
turn_none p now host (recv_act f y kind) = told_recv_none f _

least_none : (p : Params) (now : ℕ) (host : Host) (o : Option Offer) (turn : Turn) → option_map (λ (o : Offer). turn_of p now host o.act) o ≡ Some turn → TakesNone (effect_of turn.told)
least_none p now host None turn e = absurd cc
least_none p now host (Some o) turn e = let is : turn_of p now host o.act ≡ turn = cc in subst (λ (t : Turn). TakesNone (effect_of t.told)) is (turn_none p now host o.act)

-- A STATION SETTLES
module _ (p : Params) (now : ℕ) where
  turn_takeless : (most : ℕ) (st : Station Mark) (turn : Option Turn) → next_turn p now st.host ≡ turn → ((after : Station Mark) → Takeless (do_turns most p now after)) → Takeless (go_on (do_turns most p now) now turn st)
  turn_takeless most st None e again = tt
  turn_takeless most st (Some turn) e again =
      told_then TakesNoneTold (do_turn now turn st.relay) (do_turns most p now)
      (least_none p now st.host (least (offers p now st.host)) turn e, off_told TakesNoneTold takeless_relays now turn.host turn.frame st.relay) again

  turns_takeless : (most : ℕ) (st : Station Mark) → Takeless (do_turns most p now st)
  turns_takeless zero st = tt
  turns_takeless (suc most) st = turn_takeless most st (next_turn p now st.host) refl (turns_takeless most)

  settle_takeless : (st : Station Mark) → Takeless (settle_station p now st)
  settle_takeless st =
      let links = map link_of st.relay.outs in
      told_then TakesNoneTold (flush_links now links st.relay.outs) (λ outs. do_turns (work p now st.host) p now (station_with st.host (with_outs st.relay outs)))
      (links_told TakesNoneTold takeless_relays now links st.relay.outs) (λ outs. turns_takeless (work p now st.host) (station_with st.host (with_outs st.relay outs)))

  piece_none : (f : Flow) (octets : List ℕ) (o : Option Piece) → TakesNone (effect_of (told_piece f octets o))
  piece_none f octets None = tt
  piece_none f octets (Some piece) = tt

-- THE COUNT over a script
module _ (o : Occasion) (f : Flow) where
  none_taken : {A : Type 0} (s : Script Mark A) (d : Noted) → Takeless s → taken_count (play (world_handler o) s d).0.ledgers f ≡ taken_count d.ledgers f
  none_taken (Done a) d h = refl
  none_taken (Tell r s) d h = none_taken s (note_told o r d) h.1 ∙ effect_same o (effect_of r) d.ledgers f h.0
  none_taken (Ask x c k) d h = none_taken (k (mark_of o d.ledgers x c)) d (h (mark_of o d.ledgers x c))
  none_taken (Hand link q s) d h = none_taken s (note_copy o link q d) h

-- what an event at a station hands in
abbrev sent_in : Flow → Event Mark → ℕ
sent_in f (Send g octets begin end) = if same_flow g f then length octets else 0
sent_in f (Read g most) = 0
sent_in f Tick = 0
sent_in f (Arrive link parcel) = 0

told_sent_takes : (o : Occasion) (g f : Flow) (count : ℕ) (refused : Option Refusal) (all : Ledgers) → taken_count (ledgers_by o (effect_of (told_sent g count refused)) all) f ≤ taken_count all f + (if same_flow g f then length o.items else 0)
told_sent_takes o g f count None all = takes_once o g f all
told_sent_takes o g f count (Some fault) all = omega arith

module _ (w : World) (n : ℕ) (p : Params) (now : ℕ) (f : Flow) where
  happen_takes : (e : Event Mark) (st : Station Mark) (d : Noted) → taken_count (play (world_handler (occasion w n e)) (happen p now e st) d).0.ledgers f ≤ taken_count d.ledgers f + sent_in f e
  happen_takes (Send g octets begin end) st d =
      let o = occasion w n (Send g octets begin end) in
      let r = send_octets p now g (marked octets begin end false) st.host in
      let after = ledgers_by o (effect_of (told_sent g (length octets) r.0)) d.ledgers in
      subst (λ (m : ℕ). taken_count after f ≤ taken_count d.ledgers f + (if same_flow g f then m else 0)) (length-marked octets begin end false) (told_sent_takes o g f (length octets) r.0 d.ledgers)
  happen_takes (Read g most) st d = let k = none_taken (occasion w n (Read g most)) f (happen p now (Read g most) st) d (piece_none p now g _ _, tt) in omega (arith, k)
  happen_takes Tick st d = omega arith
  happen_takes (Arrive link parcel) st d =
      let k = none_taken (occasion w n (Arrive link parcel)) f (happen p now (Arrive link parcel) st) d (comes_in_told TakesNoneTold takeless_arrivals p now link (admit link parcel st.relay) st) in omega (arith, k)

  event_takes : (e : Event Mark) (st : Station Mark) (d : Noted) → taken_count (play (world_handler (occasion w n e)) (station_event p now e st) d).0.ledgers f ≤ taken_count d.ledgers f + sent_in f e
  event_takes e st d =
      let o = occasion w n e in
      let m = world_handler o in
      let first = settle_station p now st in
      let r1 = play m first d in
      let second = happen p now e r1.1 in
      let r2 = play m second r1.0 in
      let one = none_taken o f first d (settle_takeless p now st) in
      let two = happen_takes e r1.1 r1.0 in
      let three = none_taken o f (settle_station p now r2.1) r2.0 (settle_takeless p now r2.1) in
      let inner = ap (λ (r : Noted × Station Mark). taken_count r.0.ledgers f) (play_bind m second (settle_station p now) r1.0) in
      let outer = ap (λ (r : Noted × Station Mark). taken_count r.0.ledgers f) (play_bind m first (λ before. happen p now e before >>= λ after. settle_station p now after) d) in
      omega (arith, one, two, three, inner, outer)

-- AND OVER EVENTS
module _ (f : Flow) where
  at_takes : (w : World) (n : ℕ) (e : Event Mark) (o : Option Placed) → taken_count (event_at w n e o).1.ledgers f ≤ taken_count w.ledgers f + sent_in f e
  at_takes w n e None = omega arith
  at_takes w n e (Some at) = event_takes w n w.params (w.now + at.zero) f e at.station (noted_at w)

  restart_takes : (w : World) (n : ℕ) (o : Option Placed) → taken_count (restart_at w n o).1.ledgers f ≡ taken_count w.ledgers f
  restart_takes w n None = refl
  restart_takes w n (Some at) = refl

  effect_takes : (w : World) (e : WorldEvent) → taken_count (after_event w e).1.ledgers f ≤ taken_count w.ledgers f + handed_in f e
  effect_takes w (Passes by) = omega arith
  effect_takes w (Sends g octets begin end) = at_takes w g.from.0 (Send g octets begin end) (look ◌==◌ g.from.0 w.stations)
  effect_takes w (Reads g most) = at_takes w g.to.0 (Read g most) (look ◌==◌ g.to.0 w.stations)
  effect_takes w (Ticks n) = at_takes w n Tick (look ◌==◌ n w.stations)
  effect_takes w (Arrives c) = at_takes w (link_for w c).to (Arrive (copy_at w c).link (copy_at w c).parcel) (look ◌==◌ (link_for w c).to w.stations)
  effect_takes w (Loses c) = omega arith
  effect_takes w (Restarts n) = let k = restart_takes w n (look ◌==◌ n w.stations) in omega (arith, k)

  step_takes : (r : List Entry × World) (e : WorldEvent) (o : Option StepFault) → taken_count (then_step r (step_unless o (after_event r.1 e))).1.ledgers f ≤ taken_count r.1.ledgers f + handed_in f e
  step_takes r e None = effect_takes r.1 e
  step_takes r e (Some fault) = omega arith

  run_takes : (es : List WorldEvent) (r : List Entry × World) → taken_count (run_from es r).1.ledgers f ≤ taken_count r.1.ledgers f + handed_in_all f es
  run_takes [] r = omega arith
  run_takes (e ∷ es) r =
      let one = step_takes r e (first_refusal (refusals r.1 e)) in
      let rest = run_takes es (then_step r (world_step r.1 e)) in
      omega (arith, one, rest)

pub takes_counted : (setup : Setup) (es : List WorldEvent) (f : Flow) → taken_count (world_after (new_world setup) es).ledgers f ≤ handed_in_all f es
takes_counted setup es f = let k = run_takes f es ([], new_world setup) in omega (arith, k)
