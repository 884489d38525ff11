-- What the events of the world leave of the rows that are gone.
use Rattle.std.proofs.Common.{ℕ, ◌+◌, ◌-◌, ◌≤◌, ◌≡◌, ◌==◌, Bool, true, false, List, [], length, take, drop, Option, Some, None, refl, ap, sym, subst, ◌∙◌, inl, inr, arith, length-drop, length-take}
use Rattle.std.specs.Prelude.{unwrap_or}
use Rattle.std.proofs.lemmas.Bool.{cases_Bool}
use Rattle.std.proofs.lemmas.List.{take_all}
use Rattle.dt_items.specs.declared.item.Item.{Item}
use Rattle.dt_items.specs.Unread.{first_piece}
use Rattle.dt_items.proofs.Pieces.{first_piece-prefix}
use Rattle.dt_units.specs.declared.endpoints.Flow.{Flow}
use Rattle.dt_units.specs.Flows.{IsFlow}
use Rattle.dt_units.specs.Limits.{IsWithinLimits}
use Rattle.dt_flow_model.specs.declared.rows.Given.{Given}
use Rattle.dt_flow_model.specs.Frames.{Mark}
use Rattle.dt_world_model.specs.Script.{play}
use Rattle.dt_world_model.specs.Station.{Arrive, Event, Read, Send, Tick, station_event}
use Rattle.dt_world_model.specs.Tables.{has_key, look, same_flow, write}
use Rattle.dt_world_model.specs.World.{Placed, World, placed, view, world_handler}
use Rattle.dt_world_model.specs.WorldFacts.{CanHappen, IsPlaced, WorldFacts}
use Rattle.dt_world_model.specs.WorldStep.{Arrives, Loses, Passes, Reads, Restarts, Sends, Ticks, WorldEvent, after_event, copy_at, event_at, first_refusal, link_for, noted_at, occasion, refusals, restart_at, restarted}
use Rattle.dt_world_model.proofs.Tables.{all_look, flow_is, look_write, look_write_other, nat_is, nat_self}
use Rattle.dt_world_laws.proofs.Books.{no_placed}
use Rattle.dt_world_laws.proofs.Worlds.{GoesTo, effect_keeps}
use Rattle.dt_calls_model.specs.CallFacts.{rows_gone}
use Rattle.dt_calls_model.specs.Heard.{tells_refusal}
use Rattle.dt_calls_laws.specs.Calm.{AllIsGone, Calm, GivesUnread, IsNoRestartOf, PieceIsGone, Steady, count_gone, count_read, items_taken, rows_given}
use Rattle.dt_calls_laws.specs.Grown.{IsNoSendOrRead}
use Rattle.dt_calls_laws.specs.HasRead.{HasRead, unread_at}
use Rattle.dt_calls_laws.specs.Sent.{SendLeaves}
use Rattle.dt_calls_laws.proofs.Ended.{placed_is}
use Rattle.dt_calls_laws.proofs.Gives.{gone_stays, lifted_gives, unread_fits, unread_grows}
use Rattle.dt_calls_laws.proofs.Growing.{others_grow}
use Rattle.dt_calls_laws.proofs.Kept.{read_keeps_octets}
use Rattle.dt_calls_laws.proofs.Sendings.{send_leaves}
use Rattle.dt_calls_laws.proofs.SendsUnread.{station_keeps_unread}
use Rattle.dt_calls_laws.proofs.Takings.{station_has_read}

-- WHERE A STATION IS WRITTEN
abbrev placed_in : List (ℕ × Placed) → ℕ → Placed
placed_in es m = unwrap_or (look ◌==◌ m es) (no_placed m)

module _ (n m : ℕ) (new : Placed) (es : List (ℕ × Placed)) where
  placed_new : (n == m) ≡ true → placed_in (write ◌==◌ n new es) m ≡ new
  placed_new y = ap (λ (o : Option Placed). unwrap_or o (no_placed m)) (subst (λ (k : ℕ). look ◌==◌ k (write ◌==◌ n new es) ≡ Some new) (nat_is n m y) (look_write ℕ Placed ◌==◌ nat_self nat_is n new es))

  placed_old : (n == m) ≡ false → placed_in (write ◌==◌ n new es) m ≡ placed_in es m
  placed_old o = ap (λ (x : Option Placed). unwrap_or x (no_placed m)) (look_write_other ℕ Placed ◌==◌ nat_self nat_is m n new es o)

  placed_life : (old : Placed) → look ◌==◌ n es ≡ Some old → new.life ≡ old.life → (placed_in (write ◌==◌ n new es) m).life ≡ (placed_in es m).life
  placed_life old there same =
      elim (cases_Bool (n == m)) [
        | inl y ↦
            let was : placed_in es m ≡ old = ap (λ (o : Option Placed). unwrap_or o (no_placed m)) (subst (λ (k : ℕ). look ◌==◌ k es ≡ Some old) (nat_is n m y) there) in
            ap (λ (a : Placed). a.life) (placed_new y) ∙ same ∙ sym (ap (λ (a : Placed). a.life) was)
        | inr o ↦ ap (λ (a : Placed). a.life) (placed_old o)
      ]

  -- a station that was there is there
  key_kept : has_key ◌==◌ m es ≡ true → has_key ◌==◌ m (write ◌==◌ n new es) ≡ true
  key_kept h =
      elim (cases_Bool (n == m)) [
        | inl y ↦ rw (subst (λ (k : ℕ). look ◌==◌ k (write ◌==◌ n new es) ≡ Some new) (nat_is n m y) (look_write ℕ Placed ◌==◌ nat_self nat_is n new es)) refl
        | inr o ↦ rw (look_write_other ℕ Placed ◌==◌ nat_self nat_is m n new es o) h
      ]

life_at : (w : World) (n m : ℕ) (e : Event Mark) (o : Option Placed) → look ◌==◌ n w.stations ≡ o → (placed (event_at w n e o).1 m).life ≡ (placed w m).life
life_at w n m e None there = refl
life_at w n m e (Some at) there =
    let r = play (world_handler (occasion w n e)) (station_event w.params (w.now + at.zero) e at.station) (noted_at w) in
    placed_life n m (record { zero = at.zero; life = at.life; station = r.1 }) w.stations at there refl

pub two_numbers : (m n : ℕ) → (m ≡ n → ⊥) → (m == n) ≡ false
two_numbers m n h = elim (cases_Bool (m == n)) [ inl y ↦ absurd (h (nat_is m n y)) | inr o ↦ o ]

restart_life : (w : World) (n m : ℕ) (o : Option Placed) → (n ≡ m → ⊥) → (placed (restart_at w n o).1 m).life ≡ (placed w m).life
restart_life w n m None h = refl
restart_life w n m (Some at) h = ap (λ (a : Placed). a.life) (placed_old n m (restarted w.params w.now at) w.stations (two_numbers n m h))

pub effect_life : (w : World) (e : WorldEvent) (m : ℕ) → IsNoRestartOf m e → (placed (after_event w e).1 m).life ≡ (placed w m).life
effect_life w (Passes by) m h = refl
effect_life w (Sends f octets begin end) m h = life_at w f.from.0 m (Send f octets begin end) (look ◌==◌ f.from.0 w.stations) refl
effect_life w (Reads f most) m h = life_at w f.to.0 m (Read f most) (look ◌==◌ f.to.0 w.stations) refl
effect_life w (Ticks n) m h = life_at w n m Tick (look ◌==◌ n w.stations) refl
effect_life w (Arrives c) m h = life_at w (link_for w c).to m (Arrive (copy_at w c).link (copy_at w c).parcel) (look ◌==◌ (link_for w c).to w.stations) refl
effect_life w (Loses c) m h = refl
effect_life w (Restarts n) m h = restart_life w n m (look ◌==◌ n w.stations) h

-- no station goes
key_at : (w : World) (n m : ℕ) (e : Event Mark) (o : Option Placed) → has_key ◌==◌ m w.stations ≡ true → has_key ◌==◌ m (event_at w n e o).1.stations ≡ true
key_at w n m e None h = h
key_at w n m e (Some at) h =
    let r = play (world_handler (occasion w n e)) (station_event w.params (w.now + at.zero) e at.station) (noted_at w) in
    key_kept n m (record { zero = at.zero; life = at.life; station = r.1 }) w.stations h

restart_key : (w : World) (n m : ℕ) (o : Option Placed) → has_key ◌==◌ m w.stations ≡ true → has_key ◌==◌ m (restart_at w n o).1.stations ≡ true
restart_key w n m None h = h
restart_key w n m (Some at) h = key_kept n m (restarted w.params w.now at) w.stations h

pub effect_key : (w : World) (e : WorldEvent) (m : ℕ) → has_key ◌==◌ m w.stations ≡ true → has_key ◌==◌ m (after_event w e).1.stations ≡ true
effect_key w (Passes by) m h = h
effect_key w (Sends f octets begin end) m h = key_at w f.from.0 m (Send f octets begin end) (look ◌==◌ f.from.0 w.stations) h
effect_key w (Reads f most) m h = key_at w f.to.0 m (Read f most) (look ◌==◌ f.to.0 w.stations) h
effect_key w (Ticks n) m h = key_at w n m Tick (look ◌==◌ n w.stations) h
effect_key w (Arrives c) m h = key_at w (link_for w c).to m (Arrive (copy_at w c).link (copy_at w c).parcel) (look ◌==◌ (link_for w c).to w.stations) h
effect_key w (Loses c) m h = h
effect_key w (Restarts n) m h = restart_key w n m (look ◌==◌ n w.stations) h

-- WHAT IS UNREAD after a station's event
unread_there : (w : World) (n : ℕ) (e : Event Mark) (at : Placed) (g : Flow) → look ◌==◌ n w.stations ≡ Some at
    → let r = play (world_handler (occasion w n e)) (station_event w.params (w.now + at.zero) e at.station) (noted_at w) in
    unread_at r.1.host g ≡ unread_at at.station.host g → (view (event_at w n e (Some at)).1 g).unread ≡ (view w g).unread
unread_there w n e at g there same =
    let r = play (world_handler (occasion w n e)) (station_event w.params (w.now + at.zero) e at.station) (noted_at w) in
    let new : Placed = record { zero = at.zero; life = at.life; station = r.1 } in
    elim (cases_Bool (n == g.to.0)) [
      | inl y ↦
          let was : placed w g.to.0 ≡ at = placed_is w g.to.0 at (subst (λ (k : ℕ). look ◌==◌ k w.stations ≡ Some at) (nat_is n g.to.0 y) there) in
          ap (λ (a : Placed). unread_at a.station.host g) (placed_new n g.to.0 new w.stations y) ∙ same ∙ sym (ap (λ (a : Placed). unread_at a.station.host g) was)
      | inr o ↦ ap (λ (a : Placed). unread_at a.station.host g) (placed_old n g.to.0 new w.stations o)
    ]

-- where nothing was given and what is unread stays
gone_same : (w after : World) (g : Flow) → rows_given after g ≡ rows_given w g → (view after g).unread ≡ (view w g).unread → rows_gone after g ≡ rows_gone w g
gone_same w after g given unread =
    ap (λ (gs : List Given). take (length gs - length (view after g).unread) gs) given
    ∙ ap (λ (us : List Item). take (length (rows_given w g) - length us) (rows_given w g)) unread

-- what the world has of its stations
pub station_facts : (w : World) (n : ℕ) (at : Placed) → WorldFacts w → look ◌==◌ n w.stations ≡ Some at → IsPlaced w.params w.now (view w) n at
station_facts w n at facts there = all_look ℕ Placed ◌==◌ nat_self nat_is (IsPlaced w.params w.now (view w)) n at w.stations there facts.stations

module _ (w : World) (limits : IsWithinLimits w.params) (facts : WorldFacts w) where
  -- AN EVENT THAT IS NO SEND AND NO READ
  pub others_calm : (e : WorldEvent) (g : Flow) → CanHappen e → first_refusal (refusals w e) ≡ None → IsNoSendOrRead e → IsNoRestartOf g.to.0 e → Calm w (after_event w e).1 g
  others_calm e g can clear plain other =
      let after = (after_event w e).1 in
      let go : GoesTo w after = effect_keeps w limits facts e can clear in
      let grown = others_grow w e g plain in
      let life = effect_life w e g.to.0 other in
      record {
        items = grown.taken;
        steady = record { gone = gone_stays (view w g) (view after g) (lifted_gives w.params (view w g) (view after g) (go.1 g)) (facts.flows g).read_side (go.0.flows g).read_side life grown.reads; life = life };
      }

  pub others_give : (e : WorldEvent) (g : Flow) → CanHappen e → first_refusal (refusals w e) ≡ None → IsNoSendOrRead e → IsNoRestartOf g.to.0 e → GivesUnread w (after_event w e).1 g
  others_give e g can clear plain other =
      let after = (after_event w e).1 in
      let go : GoesTo w after = effect_keeps w limits facts e can clear in
      let gives = lifted_gives w.params (view w g) (view after g) (go.1 g) in
      record {
        more = gives.more;
        given = gives.given;
        unread = unread_grows (view w g) (view after g) gives (facts.flows g).read_side (go.0.flows g).read_side (effect_life w e g.to.0 other) (others_grow w e g plain).reads;
      }

  -- A SEND
  pub send_unread : (f : Flow) (octets : List ℕ) (begin end : Bool) (at : Placed) → IsFlow f → look ◌==◌ f.from.0 w.stations ≡ Some at → (g : Flow) → (view (after_event w (Sends f octets begin end)).1 g).unread ≡ (view w g).unread
  send_unread f octets begin end at flow there g =
      let placed_facts = station_facts w f.from.0 at facts there in
      let unread = station_keeps_unread w f octets begin end at limits flow (sym placed_facts.me) (w.now + at.zero) placed_facts.host g in
      subst (λ (o : Option Placed). (view (event_at w f.from.0 (Send f octets begin end) o).1 g).unread ≡ (view w g).unread) (sym there) (unread_there w f.from.0 (Send f octets begin end) at g there unread)

  pub send_steady : (f : Flow) (octets : List ℕ) (begin end : Bool) (at : Placed) → IsFlow f → look ◌==◌ f.from.0 w.stations ≡ Some at → (g : Flow) → Steady w (after_event w (Sends f octets begin end)).1 g
  send_steady f octets begin end at flow there g =
      let e = Sends f octets begin end in
      record {
        gone = gone_same w (after_event w e).1 g (sent_given (tells_refusal (after_event w e).0) (send_leaves w f octets begin end at there)) (send_unread f octets begin end at flow there g);
        life = effect_life w e g.to.0 tt;
      }
    where
      by_flow : (b : Bool) (after : World) → same_flow f g ≡ b → SendLeaves false f octets begin end w.ledgers after.ledgers → rows_given after g ≡ rows_given w g
      by_flow true after e h = subst (λ (k : Flow). rows_given after k ≡ rows_given w k) (flow_is f g e) h.here.given
      by_flow false after e h = (h.others g e).given

      sent_given : (b : Bool) → SendLeaves b f octets begin end w.ledgers (after_event w (Sends f octets begin end)).1.ledgers → rows_given (after_event w (Sends f octets begin end)).1 g ≡ rows_given w g
      sent_given true h = (h g).given
      sent_given false h = by_flow (same_flow f g) (after_event w (Sends f octets begin end)).1 refl h

  -- A READ
  module _ (f : Flow) (most : ℕ) (at : Placed) (flow : IsFlow f) (there : look ◌==◌ f.to.0 w.stations ≡ Some at) where
    has_read : HasRead f most at.station.host (play (world_handler (occasion w f.to.0 (Read f most))) (station_event w.params (w.now + at.zero) (Read f most) at.station) (noted_at w)).1.host
    has_read = let h = station_facts w f.to.0 at facts there in station_has_read w f most at limits flow (sym h.me) (w.now + at.zero) h.host

    abbrev after_read : World
    after_read = (after_event w (Reads f most)).1

    pub other_unread : (g : Flow) → same_flow f g ≡ false → (view after_read g).unread ≡ (view w g).unread
    other_unread g other = subst (λ (o : Option Placed). (view (event_at w f.to.0 (Read f most) o).1 g).unread ≡ (view w g).unread) (sym there) (unread_there w f.to.0 (Read f most) at g there (has_read.others g other))

    pub read_calm : (g : Flow) → same_flow f g ≡ false → Calm w after_read g
    read_calm g other =
        let kept = read_keeps_octets w f g most at there in
        record { items = kept.taken; steady = record { gone = gone_same w after_read g kept.given (other_unread g other); life = effect_life w (Reads f most) g.to.0 tt } }

    pub read_unread : (view after_read f).unread ≡ drop (count_read w f most) (view w f).unread
    read_unread =
        let new : Placed = record { zero = at.zero; life = at.life; station = (play (world_handler (occasion w f.to.0 (Read f most))) (station_event w.params (w.now + at.zero) (Read f most) at.station) (noted_at w)).1 } in
        let was : placed w f.to.0 ≡ at = placed_is w f.to.0 at there in
        let now_is : unread_at new.station.host f ≡ drop (count_read w f most) (view w f).unread = has_read.taken ∙ ap (λ (a : Placed). drop (length (first_piece most (unread_at a.station.host f))) (unread_at a.station.host f)) (sym was) in
        subst (λ (o : Option Placed). (view (event_at w f.to.0 (Read f most) o).1 f).unread ≡ drop (count_read w f most) (view w f).unread) (sym there)
        (ap (λ (a : Placed). unread_at a.station.host f) (placed_new f.to.0 f.to.0 new w.stations (nat_self f.to.0)) ∙ now_is)

    pub piece_fits : count_read w f most ≤ length (view w f).unread
    piece_fits = omega (arith, ap (λ (us : List Item). length us) (first_piece-prefix most (view w f).unread), length-take (count_read w f most) (view w f).unread)

    pub piece_gone : PieceIsGone w after_read f most
    piece_gone =
        let kept = read_keeps_octets w f f most at there in
        let n = count_read w f most in
        let us = (view w f).unread in
        let fits = unread_fits (view w f) (facts.flows f).read_side in
        let count : length (rows_given w f) - length (drop n us) ≡ count_gone w f + n = omega (arith, length-drop n us, piece_fits, fits) in
        record {
          items = kept.taken;
          gone =
              ap (λ (gs : List Given). take (length gs - length (view after_read f).unread) gs) kept.given
              ∙ ap (λ (vs : List Item). take (length (rows_given w f) - length vs) (rows_given w f)) read_unread
              ∙ ap (λ (k : ℕ). take k (rows_given w f)) count;
          life = effect_life w (Reads f most) f.to.0 tt;
        }

  -- A RESTART of the reader
  pub restart_unread : (n : ℕ) (at : Placed) (g : Flow) → look ◌==◌ n w.stations ≡ Some at → n ≡ g.to.0 → (view (after_event w (Restarts n)).1 g).unread ≡ []
  restart_unread n at g there here =
      let same : (n == g.to.0) ≡ true = rw here (nat_self g.to.0) in
      subst (λ (o : Option Placed). (view (restart_at w n o).1 g).unread ≡ []) (sym there) (ap (λ (a : Placed). unread_at a.station.host g) (placed_new n g.to.0 (restarted w.params w.now at) w.stations same))

  pub restart_gone : (n : ℕ) (at : Placed) (g : Flow) → look ◌==◌ n w.stations ≡ Some at → n ≡ g.to.0 → AllIsGone w (after_event w (Restarts n)).1 g
  restart_gone n at g there here =
      let after = (after_event w (Restarts n)).1 in
      let given : rows_given after g ≡ rows_given w g = subst (λ (o : Option Placed). rows_given (restart_at w n o).1 g ≡ rows_given w g) (sym there) refl in
      record {
        items = subst (λ (o : Option Placed). items_taken (restart_at w n o).1 g ≡ items_taken w g) (sym there) refl;
        gone = ap (λ (gs : List Given). take (length gs - length (view after g).unread) gs) given
            ∙ ap (λ (us : List Item). take (length (rows_given w g) - length us) (rows_given w g)) (restart_unread n at g there here)
            ∙ take_all (length (rows_given w g) - 0) (rows_given w g) (omega arith);
      }
