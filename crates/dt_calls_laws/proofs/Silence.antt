-- A station that settles tells no message: no piece that was read, no send that was taken or refused and no data that was accepted.
use Rattle.std.proofs.Common.{ℕ, zero, suc, ◌≡◌, Bool, false, ◌||◌, List, [], ◌∷◌, ◌++◌, length, map, Option, Some, None, refl, ap, sym, subst, ◌∙◌, append_assoc, append-nil}
use Rattle.std.specs.Prelude.{option_map}
use Rattle.dt_units.specs.declared.parameters.Params.{Params}
use Rattle.dt_units.specs.declared.endpoints.Flow.{Flow}
use Rattle.dt_reports.specs.Entries.{Entry}
use Rattle.dt_reports.specs.Told.{Told}
use Rattle.dt_flow_model.specs.Frames.{Mark}
use Rattle.dt_flow_model.specs.declared.acts.SendAct.{SendAct}
use Rattle.dt_flow_model.specs.declared.acts.SendAct.TheVariants as A
use Rattle.dt_flow_model.specs.declared.acts.RecvAct.{RecvAct}
use Rattle.dt_flow_model.specs.declared.acts.RecvAct.TheVariants as R
use Rattle.dt_flow_model.specs.SendActs.{told_of}
use Rattle.dt_flow_model.specs.ReceiveRecord.{recv_told_of}
use Rattle.dt_world_model.specs.Host.{Host, HostAct, Offer, Turn, least, next_turn, offers, receiver_at, recv_act, send_act, told_recv, told_send, turn_of, work}
use Rattle.dt_world_model.specs.Ledgers.{Changes, Effect, Leaves, Neither, Occasion, effect_of}
use Rattle.dt_world_model.specs.Relay.{Parcel, Relay, with_outs}
use Rattle.dt_world_model.specs.Script.{Script, Done, Tell, Ask, Hand, ◌>>=◌, play}
use Rattle.dt_world_model.specs.Station.{Station, do_turns, flush_links, go_on, pass_on, send_off, settle_station, station_with}
use Rattle.dt_world_model.specs.World.{Noted, note_copy, note_told, world_handler, world_told}
use Rattle.dt_world_laws.proofs.Plays.{do_turn, link_of}
use Rattle.dt_calls_model.specs.Heard.{ALoss, APiece, ARefusal, ATaking, AnAcceptance, Heard, NoMessage, heard, is_refusal, or_later, piece_in, tells_refusal}
use Rattle.dt_calls_model.specs.Messages.{Piece}
use Rattle.dt_world_laws.proofs.Tellings.{OfRelays, links_told, off_told, passed_told, told_then}
use Rattle.dt_calls_laws.specs.Silence.{IsSilent, IsSilentTold, TellsNoMessage}

sent_silent : (f : Flow) (act : SendAct) → IsSilent (heard (told_send f act))
sent_silent f (A.GaveUp count) = tt
sent_silent f A.Released = tt
sent_silent f A.Renewed = tt
sent_silent f (A.Resent cut) = tt
sent_silent f (A.Sent cut) = tt
sent_silent f (A.Met number) = tt

received_silent : (f : Flow) (act : RecvAct) → IsSilent (heard (told_recv f act))
received_silent f R.Released = tt
received_silent f (R.Acked number window) = tt

act_silent : (p : Params) (now : ℕ) (host : Host) (act : HostAct) → IsSilent (heard (turn_of p now host act).told)
act_silent p now host (send_act f x act) = sent_silent f (told_of p x act)
act_silent p now host (recv_act f y kind) = received_silent f (recv_told_of p (receiver_at host f).unread y kind)

offer_silent : (p : Params) (now : ℕ) (host : Host) (offer : Option Offer) (turn : Turn) → option_map (λ (o : Offer). turn_of p now host o.act) offer ≡ Some turn → IsSilent (heard turn.told)
offer_silent p now host None turn e = absurd cc
offer_silent p now host (Some o) turn e = let is : turn_of p now host o.act ≡ turn = cc in subst (λ (t : Turn). IsSilent (heard t.told)) is (act_silent p now host o.act)

turn_silent : (p : Params) (now : ℕ) (host : Host) (turn : Turn) → next_turn p now host ≡ Some turn → IsSilent (heard turn.told)
turn_silent p now host turn e = offer_silent p now host (least (offers p now host)) turn e

-- a relay tells of no message
silent_relays : OfRelays IsSilentTold
silent_relays = record { put = λ link life. tt; expired = λ link. tt; no_route = λ to. tt; full = λ link. tt }

module _ {T : Type 0} where
  pub silent_then : {A B : Type 0} (s : Script T A) (k : A → Script T B) → TellsNoMessage s → ((a : A) → TellsNoMessage (k a)) → TellsNoMessage (s >>= k)
  silent_then s k h on = told_then IsSilentTold s k h on

  pub passed_silent : (now : ℕ) (parcel : Parcel T) (relay : Relay T) → TellsNoMessage (pass_on parcel now relay)
  passed_silent now parcel relay = passed_told IsSilentTold silent_relays now parcel relay

  pub sent_off_silent : (now : ℕ) (host : Host) (frame : Option (List ℕ)) (relay : Relay T) → TellsNoMessage (send_off now host frame relay)
  sent_off_silent now host frame relay = off_told IsSilentTold silent_relays now host frame relay

  turn_on : (most : ℕ) (p : Params) (now : ℕ) (st : Station T) (turn : Option Turn) → next_turn p now st.host ≡ turn → ((other : Station T) → TellsNoMessage (do_turns most p now other)) → TellsNoMessage (go_on (do_turns most p now) now turn st)
  turn_on most p now st None e again = tt
  turn_on most p now st (Some turn) e again =
      silent_then (do_turn now turn st.relay) (do_turns most p now) (turn_silent p now st.host turn e, sent_off_silent now turn.host turn.frame st.relay) again

  turns_silent : (most : ℕ) (p : Params) (now : ℕ) (st : Station T) → TellsNoMessage (do_turns most p now st)
  turns_silent zero p now st = tt
  turns_silent (suc most) p now st = turn_on most p now st (next_turn p now st.host) refl (turns_silent most p now)

  -- A STATION THAT SETTLES
  pub settle_silent : (p : Params) (now : ℕ) (st : Station T) → TellsNoMessage (settle_station p now st)
  settle_silent p now st =
      silent_then (flush_links now (map link_of st.relay.outs) st.relay.outs) (λ outs. do_turns (work p now st.host) p now (station_with st.host (with_outs st.relay outs))) (links_told IsSilentTold silent_relays now (map link_of st.relay.outs) st.relay.outs)
      (λ outs. turns_silent (work p now st.host) p now (station_with st.host (with_outs st.relay outs)))

-- THE LINES of what tells no message
abbrev pub AreSilent : List Entry → Type 0
AreSilent [] = Unit {0}
AreSilent (e ∷ es) = IsSilent (heard e.told) × AreSilent es

told_silent : (copies : ℕ) (r : Told) (effect : Effect) → IsSilent (heard r) → IsSilent (heard (world_told copies r effect))
told_silent copies r (Changes f change) h = h
told_silent copies r (Leaves link life) h = tt
told_silent copies r Neither h = h

silent_append : (xs ys : List Entry) → AreSilent xs → AreSilent ys → AreSilent (xs ++ ys)
silent_append [] ys h k = k
silent_append (x ∷ xs) ys h k = (h.0, silent_append xs ys h.1 k)

-- the lines of a play are told after those before it
pub record Adds (d after : Noted) : Type 0 where
  pub lines : List Entry
  pub silent : AreSilent lines
  pub are : after.lines ≡ d.lines ++ lines

adds_more : (d mid after : Noted) (e : Entry) → IsSilent (heard e.told) → mid.lines ≡ d.lines ++ e ∷ [] → Adds mid after → Adds d after
adds_more d mid after e h first rest = record {
  lines = e ∷ rest.lines;
  silent = (h, rest.silent);
  are = rest.are ∙ ap (λ (ls : List Entry). ls ++ rest.lines) first ∙ append_assoc d.lines (e ∷ []) rest.lines;
}

adds_on : (d mid after : Noted) → mid.lines ≡ d.lines → Adds mid after → Adds d after
adds_on d mid after same rest = record { lines = rest.lines; silent = rest.silent; are = rest.are ∙ ap (λ (ls : List Entry). ls ++ rest.lines) same }

pub silent_play : {A : Type 0} (o : Occasion) (s : Script Mark A) (d : Noted) → TellsNoMessage s → Adds d (play (world_handler o) s d).0
silent_play o (Done a) d h = record { lines = []; silent = tt; are = sym (append-nil d.lines) }
silent_play o (Tell r s) d h =
    let mid = note_told o r d in
    let e : Entry = record { moment = o.now; node = Some o.node; told = world_told (length d.copies) r (effect_of r) } in
    adds_more d mid (play (world_handler o) s mid).0 e (told_silent (length d.copies) r (effect_of r) h.0) refl (silent_play o s mid h.1)
silent_play o (Ask host octets s) d h = let t = (world_handler o).tag host octets d in silent_play o (s t) d (h t)
silent_play o (Hand link parcel s) d h = let mid = note_copy o link parcel d in adds_on d mid (play (world_handler o) s mid).0 refl (silent_play o s mid h)

-- what they tell of messages is what the others tell
piece_passes : (what : Heard) (later : Option Piece) → IsSilent what → or_later what later ≡ later
piece_passes (APiece piece) later h = absurd h
piece_passes ATaking later h = absurd h
piece_passes ARefusal later h = absurd h
piece_passes (AnAcceptance flow) later h = absurd h
piece_passes (ALoss flow) later h = refl
piece_passes NoMessage later h = refl

pub piece_behind : (xs ys : List Entry) → AreSilent xs → piece_in (xs ++ ys) ≡ piece_in ys
piece_behind [] ys h = refl
piece_behind (x ∷ xs) ys h = piece_passes (heard x.told) (piece_in (xs ++ ys)) h.0 ∙ piece_behind xs ys h.1

pub piece_none : (xs : List Entry) → AreSilent xs → piece_in xs ≡ None
piece_none [] h = refl
piece_none (x ∷ xs) h = piece_passes (heard x.told) (piece_in xs) h.0 ∙ piece_none xs h.1

refusal_passes : (what : Heard) (later : Bool) → IsSilent what → (is_refusal what || later) ≡ later
refusal_passes (APiece piece) later h = absurd h
refusal_passes ATaking later h = absurd h
refusal_passes ARefusal later h = absurd h
refusal_passes (AnAcceptance flow) later h = absurd h
refusal_passes (ALoss flow) later h = refl
refusal_passes NoMessage later h = refl

pub refusal_behind : (xs ys : List Entry) → AreSilent xs → tells_refusal (xs ++ ys) ≡ tells_refusal ys
refusal_behind [] ys h = refl
refusal_behind (x ∷ xs) ys h = refusal_passes (heard x.told) (tells_refusal (xs ++ ys)) h.0 ∙ refusal_behind xs ys h.1

pub refusal_none : (xs : List Entry) → AreSilent xs → tells_refusal xs ≡ false
refusal_none [] h = refl
refusal_none (x ∷ xs) h = refusal_passes (heard x.told) (tells_refusal xs) h.0 ∙ refusal_none xs h.1
