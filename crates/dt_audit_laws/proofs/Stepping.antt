-- The lines of a world's step pass: those of an event at a station, and of a station that starts again.
use Rattle.std.proofs.Common.{ℕ, ◌+◌, ◌<◌, ◌^◌, ◌≡◌, ◌==◌, true, false, List, [], length, Option, Some, None, refl, sym, ap, subst, inl, inr, ◌∙◌, arith}
use Rattle.std.specs.Prelude.{unwrap_or}
use Rattle.std.proofs.lemmas.Bool.{cases_Bool}
use Rattle.dt_items.specs.Unread.{marked}
use Rattle.dt_units.specs.declared.endpoints.Flow.{Flow}
use Rattle.dt_units.specs.Limits.{IsWithinLimits}
use Rattle.dt_reports.specs.Entries.{Entry}
use Rattle.dt_flow_model.specs.Flow.{FlowState}
use Rattle.dt_flow_model.specs.Frames.{Mark, flow_between}
use Rattle.dt_world_model.specs.Host.{next_turn}
use Rattle.dt_world_model.specs.Ledgers.{Occasion}
use Rattle.dt_world_model.specs.Script.{play, ◌>>=◌}
use Rattle.dt_world_model.specs.Station.{Arrive, Event, Read, Send, Station, Tick, happen, settle_station, station_event}
use Rattle.dt_world_model.specs.Tables.{look, write}
use Rattle.dt_world_model.specs.World.{Noted, Placed, World, placed, view, world_handler}
use Rattle.dt_world_model.specs.WorldFacts.{CanHappen, WorldFacts}
use Rattle.dt_world_model.specs.WorldStep.{Arrives, Loses, Passes, Reads, Restarts, Sends, Ticks, WorldEvent, after_event, copy_at, event_at, first_refusal, link_for, noted_at, occasion, played, refusals, restart_at, restarted, world_with}
use Rattle.dt_world_model.proofs.Tables.{look_write, look_write_other, nat_is, nat_self}
use Rattle.dt_world_laws.proofs.Books.{Nothing, cause_of, no_placed, occasion_is}
use Rattle.dt_world_laws.proofs.Events.{Possible, happens, possible_then}
use Rattle.dt_world_laws.proofs.Good.{Good, reading, stage}
use Rattle.dt_world_laws.proofs.Plays.{play_then}
use Rattle.dt_world_laws.proofs.Settled.{settle_done}
use Rattle.dt_world_laws.proofs.Turns.{settle_leads}
use Rattle.dt_world_laws.proofs.Views.{set_station, views, world_view}
use Rattle.dt_world_laws.proofs.Worlds.{copy_can_come, placed_is, possible_here, starts, view_here}
use Rattle.dt_audit.specs.Books.{Book, kept, life_in}
use Rattle.dt_audit.specs.declared.facts.Fact.TheVariants.{Restarted}
use Rattle.dt_audit.specs.LogRows.{FlowLog, by_rows}
use Rattle.dt_audit_laws.specs.Books.{FollowsAll, GoesOn}
use Rattle.dt_audit_laws.specs.Following.{FollowsFlow}
use Rattle.dt_audit_laws.specs.Logs.{LogOf, ShowsAlike}
use Rattle.dt_audit_laws.specs.Showing.{UnsentFrom}
use Rattle.dt_audit_laws.proofs.Acting.{Logs, settle_logs}
use Rattle.dt_audit_laws.proofs.Coming.{arrival_logs}
use Rattle.dt_audit_laws.proofs.Happening.{read_logs, send_logs}
use Rattle.dt_audit_laws.proofs.Keeping.{fall_unsent, same_follows}
use Rattle.dt_audit_laws.proofs.Lines.{alike_log}

-- AN EVENT AT A STATION
module _ (w : World) (n : ℕ) (start : Book FlowLog) (limits : IsWithinLimits w.params) where
  happens_logs : (e : Event Mark) (st : Station Mark) (d : Noted) → Good w n (cause_of e) st d → next_turn w.params (reading w n (cause_of e)) st.host ≡ None → Possible w n st d e → Logs w n (cause_of e) start st d
      → let r = play (world_handler (stage w n (cause_of e))) (happen w.params (reading w n (cause_of e)) e st) d in Logs w n (cause_of e) start r.1 r.0
  happens_logs (Send f octets begin end) st d good idle can log = send_logs w n (marked octets begin end false) start limits st d good f can.0 can.1 log octets begin end refl
  happens_logs (Read f most) st d good idle can log = read_logs w n Nothing start limits st d good f can.1 log most
  happens_logs Tick st d good idle can log = log
  happens_logs (Arrive link parcel) st d good idle can log = arrival_logs w n start limits st d parcel can.put link can.age can.packet good idle can.held log

  event_logs : (e : Event Mark) (st : Station Mark) (d : Noted) → Good w n (cause_of e) st d → Possible w n st d e → Logs w n (cause_of e) start st d
      → let r = play (world_handler (stage w n (cause_of e))) (station_event w.params (reading w n (cause_of e)) e st) d in Logs w n (cause_of e) start r.1 r.0
  event_logs e st d good can log =
      let c = cause_of e in
      let m = world_handler (stage w n c) in
      let now = reading w n c in
      let Ended : Noted × Station Mark → Type 0 = λ r. Logs w n c start r.1 r.0 in
      let r1 = play m (settle_station w.params now st) d in
      let one = settle_leads w n c limits st d good in
      let idle = settle_done w n c limits st d good in
      let can1 = possible_then w n limits e st d r1 one can in
      let r2 = play m (happen w.params now e r1.1) r1.0 in
      let two = happens w n limits e r1.1 r1.0 one.good idle can1 in
      let settled = settle_logs w n c start limits st d good log in
      let done = happens_logs e r1.1 r1.0 one.good idle can1 settled in
      let last = settle_logs w n c start limits r2.1 r2.0 two.good done in
      play_then m Ended (settle_station w.params now st) (λ before. happen w.params now e before >>= λ after. settle_station w.params now after) d
      (play_then m Ended (happen w.params now e r1.1) (settle_station w.params now) r1.0 last)

is_alike : (s t : FlowState) → s ≡ t → ShowsAlike s t
is_alike s t e = record { taken = ap (λ (x : FlowState). x.taken) (sym e); given = ap (λ (x : FlowState). x.given) (sym e); run = ap (λ (x : FlowState). x.run) (sym e); sender = ap (λ (x : FlowState). x.sender_life) (sym e); receiver = ap (λ (x : FlowState). x.receiver_life) (sym e) }

-- what a step leaves: its lines pass, and lead to what follows the flows of the world after it
abbrev pub StepLog : World → Book FlowLog → List Entry × World → Type 0
StepLog w start r = LogOf w.params (view r.1) start r.0

pub nothing_told : (w after : World) (start : Book FlowLog) → ((f : Flow) → ShowsAlike (view w f) (view after f)) → FollowsAll w.params (view w) start → StepLog w start ([], after)
nothing_told w after start alike all = alike_log w.params (view w) (view after) start [] alike (record { book = start; passes = refl; follows = all; ranges = tt })

module _ (w : World) (n : ℕ) (at : Placed) (there : look ◌==◌ n w.stations ≡ Some at) (facts : WorldFacts w) (limits : IsWithinLimits w.params) (start : Book FlowLog) (all : FollowsAll w.params (view w) start) where
  abbrev played_at : Placed → Event Mark → Occasion → List Entry × World
  played_at a e o = played w n a (play (world_handler o) (station_event w.params (w.now + a.zero) e a.station) (noted_at w))

  pub event_log : (e : Event Mark) → Possible w n (placed w n).station (noted_at w) e → StepLog w start (played_at at e (occasion w n e))
  event_log e can =
      let c = cause_of e in
      let r = play (world_handler (stage w n c)) (station_event w.params (reading w n c) e (placed w n).station) (noted_at w) in
      let begun : Logs w n c start (placed w n).station (noted_at w) =
      alike_log w.params (view w) (views w n (placed w n).station.host w.ledgers) start [] (λ f. is_alike _ _ (view_here w n at there facts f)) (record { book = start; passes = refl; follows = all; ranges = tt }) in
      let ended = event_logs w n start limits e (placed w n).station (noted_at w) (starts w n at there facts c) can begun in
      let back : StepLog w start (r.0.lines, world_with w n (set_station w n r.1) r.0) =
      alike_log w.params (views w n r.1.host r.0.ledgers) (view (world_with w n (set_station w n r.1) r.0)) start r.0.lines (λ f. is_alike _ _ (sym (world_view w n r.1 r.0 f))) ended in
      subst (λ (a : Placed). StepLog w start (played_at a e (occasion w n e))) (placed_is w n at there facts)
      (subst (λ (o : Occasion). StepLog w start (played_at (placed w n) e o)) (sym (occasion_is w n e)) back)

-- A STATION STARTS AGAIN
module _ (w : World) (n : ℕ) (at : Placed) (there : look ◌==◌ n w.stations ≡ Some at) (facts : WorldFacts w) (start : Book FlowLog) (all : FollowsAll w.params (view w) start) where
  abbrev anew : World
  anew = record w { stations = write ◌==◌ n (restarted w.params w.now at) w.stations }

  abbrev next : Book FlowLog
  next = record { lives = write ◌==◌ n (at.life + 1) start.lives; flows = start.flows }

  was : (placed w n).life ≡ at.life
  was = ap (λ (o : Option Placed). (unwrap_or o (no_placed n)).life) there

  life_was : life_in start.lives n ≡ at.life
  life_was = all.senders (flow_between n 0 0 0) ∙ was

  anew_same : (placed anew n).life ≡ at.life + 1
  anew_same = ap (λ (o : Option Placed). (unwrap_or o (no_placed n)).life) (look_write ℕ Placed ◌==◌ nat_self nat_is n (restarted w.params w.now at) w.stations)

  anew_other : (m : ℕ) → (n == m) ≡ false → (placed anew m).life ≡ (placed w m).life
  anew_other m apart = ap (λ (o : Option Placed). (unwrap_or o (no_placed m)).life) (look_write_other ℕ Placed ◌==◌ nat_self nat_is m n (restarted w.params w.now at) w.stations apart)

  next_same : life_in next.lives n ≡ at.life + 1
  next_same = ap (λ (o : Option ℕ). unwrap_or o 0) (look_write ℕ ℕ ◌==◌ nat_self nat_is n (at.life + 1) start.lives)

  next_other : (m : ℕ) → (n == m) ≡ false → life_in next.lives m ≡ life_in start.lives m
  next_other m apart = ap (λ (o : Option ℕ). unwrap_or o 0) (look_write_other ℕ ℕ ◌==◌ nat_self nat_is m n (at.life + 1) start.lives apart)

  life_now : (m : ℕ) → life_in start.lives m ≡ (placed w m).life → life_in next.lives m ≡ (placed anew m).life
  life_now m before =
      elim (cases_Bool (n == m)) [
        | inl y ↦ subst (λ (k : ℕ). life_in next.lives k ≡ (placed anew k).life) (nat_is n m y) (next_same ∙ sym anew_same)
        | inr apart ↦ next_other m apart ∙ before ∙ sym (anew_other m apart)
      ]

  flow_now : (f : Flow) (log : FlowLog) → FollowsFlow w.params (view w f) log → FollowsFlow w.params (view anew f) log
  flow_now f log h =
      elim (cases_Bool (n == f.from.0)) [
        | inl y ↦
            let here : n ≡ f.from.0 = nat_is n f.from.0 y in
            let later : (placed anew f.from.0).life ≡ (placed w f.from.0).life + 1 = subst (λ (k : ℕ). (placed anew k).life ≡ (placed w k).life + 1) here (anew_same ∙ ap (λ (l : ℕ). l + 1) (sym was)) in
            record {
              shows = record { taken = h.shows.taken; given = h.shows.given };
              numbered = h.numbered;
              above = h.above;
              last = h.last;
              unsent = (length (view w f).taken, subst (λ (l : ℕ). UnsentFrom l (length (view w f).taken) (view w f).taken) (sym later) (fall_unsent (view w f).sender_life 0 (view w f).taken (facts.flows f).send_side.lives));
            }
        | inr apart ↦ same_follows w.params (view w f) (view anew f) log refl refl (anew_other f.from.0 apart) h.numbered h
      ]

  goes : GoesOn w.params (view anew) (Restarted n (at.life + 1)) start
  goes = record {
    next = next;
    passes = let one : ((at.life + 1) == (life_in start.lives n + 1)) ≡ true = rw life_was (nat_self (at.life + 1)) in rw one refl;
    follows = record {
      flows = λ f. flow_now f (kept by_rows start.flows f) (all.flows f);
      senders = λ f. life_now f.from.0 (all.senders f);
      receivers = λ f. life_now f.to.0 (all.receivers f);
    };
  }

  pub restart_log : at.life + 1 < 2 ^ 32 → StepLog w start (restart_at w n (Some at))
  restart_log few = record { book = goes.next; passes = (goes.next, goes.passes, refl); follows = goes.follows; ranges = (few, tt) }

-- EACH STEP
module _ (w : World) (limits : IsWithinLimits w.params) (facts : WorldFacts w) (start : Book FlowLog) (all : FollowsAll w.params (view w) start) (young : (n : ℕ) → (placed w n).life + 1 < 2 ^ 32) where
  at_log : (n : ℕ) (e : Event Mark) (o : Option Placed) → look ◌==◌ n w.stations ≡ o → ((at : Placed) → look ◌==◌ n w.stations ≡ Some at → Possible w n (placed w n).station (noted_at w) e) → StepLog w start (event_at w n e o)
  at_log n e None is can = record { book = start; passes = refl; follows = all; ranges = tt }
  at_log n e (Some at) is can = event_log w n at is facts limits start all e (can at is)

  again_log : (n : ℕ) (o : Option Placed) → look ◌==◌ n w.stations ≡ o → StepLog w start (restart_at w n o)
  again_log n None is = record { book = start; passes = refl; follows = all; ranges = tt }
  again_log n (Some at) is = restart_log w n at is facts start all (let same : (placed w n).life ≡ at.life = ap (λ (o : Option Placed). (unwrap_or o (no_placed n)).life) is in omega (arith, same, young n))

  pub effect_log : (e : WorldEvent) → CanHappen e → first_refusal (refusals w e) ≡ None → StepLog w start (after_event w e)
  effect_log (Passes by) can clear = nothing_told w (record w { now = w.now + by }) start (λ f. record { taken = refl; given = refl; run = refl; sender = refl; receiver = refl }) all
  effect_log (Sends f octets begin end) can clear = at_log f.from.0 (Send f octets begin end) (look ◌==◌ f.from.0 w.stations) refl (λ at there. (can, refl))
  effect_log (Reads f most) can clear = at_log f.to.0 (Read f most) (look ◌==◌ f.to.0 w.stations) refl (λ at there. (can, refl))
  effect_log (Ticks n) can clear = at_log n Tick (look ◌==◌ n w.stations) refl (λ at there. tt)
  effect_log (Arrives k) can clear =
      let to = (link_for w k).to in
      let e = Arrive (copy_at w k).link (copy_at w k).parcel in
      at_log to e (look ◌==◌ to w.stations) refl (λ at there. possible_here w to at there facts e (copy_can_come w limits facts k at clear there))
  effect_log (Loses k) can clear = record { book = start; passes = (start, refl, refl); follows = all; ranges = (tt, tt) }
  effect_log (Restarts n) can clear = again_log n (look ◌==◌ n w.stations) refl
