-- Settling ends: after it no act of the host is due, whatever tags were answered.
use Rattle.std.proofs.Common.{ℕ, zero, suc, ◌≤◌, ◌≡◌, List, [], ◌∷◌, map, Option, Some, None, refl, sym, ap, subst, arith}
use Rattle.dt_units.specs.declared.parameters.Params.{Params}
use Rattle.dt_units.specs.Limits.{IsWithinLimits}
use Rattle.dt_world_model.specs.Host.{Host, IsCurrentHost, IsHost, Offer, Turn, least, next_turn, offers, work}
use Rattle.dt_world_model.specs.Relay.{Relay, with_outs}
use Rattle.dt_world_model.specs.Script.{Script, Done, Tell, Ask, Hand, ◌>>=◌, Answers, Handler, play}
use Rattle.dt_world_model.specs.Station.{Station, do_turns, flush_links, go_on, pass_on, send_off, settle_station, station_with}
use Rattle.dt_world_laws.proofs.Hosts.{turn_keeps}
use Rattle.dt_world_model.proofs.Offers.{turn_if}
use Rattle.dt_world_laws.proofs.Plays.{do_turn, link_of}
use Rattle.dt_world_model.proofs.Work.{work_falls}

pub no_offer : (p : Params) (now : ℕ) (host : Host) (os : List Offer) → turn_if p now host (least os) ≡ None → os ≡ []
no_offer p now host [] e = refl
no_offer p now host (o ∷ os) e = absurd cc

module _ {T : Type 0} where
  pub answers_then : {A B : Type 0} (P : A → Type 0) (Q : B → Type 0) (s : Script T A) (k : A → Script T B) → Answers P s → ((a : A) → P a → Answers Q (k a)) → Answers Q (s >>= k)
  answers_then P Q (Done a) k h on = on a h
  answers_then P Q (Tell r s) k h on = answers_then P Q s k h on
  answers_then P Q (Ask host octets s) k h on = λ t. answers_then P Q (s t) k (h t) on
  answers_then P Q (Hand link parcel s) k h on = answers_then P Q s k h on

  pub any_answer : {A : Type 0} (s : Script T A) → Answers (λ a. Unit {0}) s
  any_answer (Done a) = tt
  any_answer (Tell r s) = any_answer s
  any_answer (Ask host octets s) = λ t. any_answer (s t)
  any_answer (Hand link parcel s) = any_answer s

  -- so it is of what a handler's play ends with
  pub answers_play : {S A : Type 0} (handler : Handler S T) (P : A → Type 0) (s : Script T A) (v : S) → Answers P s → P (play handler s v).1
  answers_play handler P (Done a) v h = h
  answers_play handler P (Tell r s) v h = answers_play handler P s (handler.tell r v) h
  answers_play handler P (Ask host octets s) v h = answers_play handler P (s (handler.tag host octets v)) v (h (handler.tag host octets v))
  answers_play handler P (Hand link parcel s) v h = answers_play handler P s (handler.hand link parcel v) h

  -- what goes off leaves the host as it is
  pub off_same : (now : ℕ) (host : Host) (frame : Option (List ℕ)) (relay : Relay T) → Answers (λ (after : Station T). after.host ≡ host) (send_off now host frame relay)
  off_same now host None relay = refl
  off_same now host (Some octets) relay =
      λ t. answers_then (λ a. Unit {0}) (λ (after : Station T). after.host ≡ host) (pass_on (record { octets = octets; tag = t }) now relay) (λ after. Done (station_with host after)) (any_answer (pass_on (record { octets = octets; tag = t }) now relay)) (λ a h. refl)

  module _ (p : Params) (now : ℕ) (limits : IsWithinLimits p) where
    abbrev pub Settled : Station T → Type 0
    Settled st = IsHost p st.host × IsCurrentHost p now st.host

    turn_done : (most : ℕ) (st : Station T) (turn : Option Turn) → IsHost p st.host → next_turn p now st.host ≡ turn → work p now st.host ≤ suc most
        → ((st' : Station T) → IsHost p st'.host → work p now st'.host ≤ most → Answers Settled (do_turns most p now st'))
        → Answers Settled (go_on (do_turns most p now) now turn st)
    turn_done most st None h e enough again = (h, no_offer p now st.host (offers p now st.host) e)
    turn_done most st (Some turn) h e enough again =
        let kept = turn_keeps p now st.host turn limits h e in
        let less = work_falls p limits now st.host turn h e in
        answers_then (λ (after : Station T). after.host ≡ turn.host) Settled (do_turn now turn st.relay) (do_turns most p now) (off_same now turn.host turn.frame st.relay)
        (λ after same. again after (subst (λ (host : Host). IsHost p host) (sym same) kept) (let left : work p now after.host ≡ work p now turn.host = ap (work p now) same in omega (arith, less, left)))

    turns_done : (most : ℕ) (st : Station T) → IsHost p st.host → work p now st.host ≤ most → Answers Settled (do_turns most p now st)
    turns_done zero st h enough = (h, no_offer p now st.host (offers p now st.host) (none_left (next_turn p now st.host) refl))
      where
        none_left : (turn : Option Turn) → next_turn p now st.host ≡ turn → next_turn p now st.host ≡ None
        none_left None e = e
        none_left (Some turn) e = absurd (omega (arith, work_falls p limits now st.host turn h e))
    turns_done (suc most) st h enough = turn_done most st (next_turn p now st.host) h refl enough (turns_done most)

    -- A SETTLED STATION HAS NO ACT DUE
    pub settle_ends : (st : Station T) → IsHost p st.host → Answers Settled (settle_station p now st)
    settle_ends st h =
        let links = map link_of st.relay.outs in
        answers_then (λ a. Unit {0}) Settled (flush_links now links st.relay.outs) (λ outs. do_turns (work p now st.host) p now (station_with st.host (with_outs st.relay outs))) (any_answer (flush_links now links st.relay.outs))
        (λ outs t. turns_done (work p now st.host) (station_with st.host (with_outs st.relay outs)) h (omega arith))
