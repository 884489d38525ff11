-- Each step of the world keeps its facts.
use Rattle.std.proofs.Common.{Bool, ℕ, zero, suc, ◌+◌, ◌<◌, ◌≤◌, ◌≡◌, ◌==◌, true, false, List, [], ◌∷◌, length, Option, Some, None, refl, sym, ap, subst, inl, inr, ◌∙◌, arith}
use Rattle.std.specs.Prelude.{nat_lt, if◌then◌else◌}
use Rattle.std.specs.List.{All}
use Rattle.std.proofs.Math.ListN.{get_or}
use Rattle.std.proofs.lemmas.Bool.{cases_Bool}
use Rattle.std.proofs.lemmas.Bool.Decides.{nat_tests}
use Rattle.std.proofs.lemmas.List.Elements.{All-nil, All-cons, All-head, All-tail, All-weaker}
use Rattle.dt_units.specs.declared.parameters.Params.{Params}
use Rattle.dt_units.specs.declared.endpoints.Flow.{Flow}
use Rattle.dt_units.specs.Limits.{IsWithinLimits}
use Rattle.dt_units.specs.Times.{quiet_time}
use Rattle.dt_flow_model.specs.Acting.{later_flow, sender_again}
use Rattle.dt_flow_model.specs.Facts.{Facts, Fits}
use Rattle.dt_flow_model.specs.Flow.{FlowState}
use Rattle.dt_flow_model.specs.SendRecord.{SendRecord}
use Rattle.dt_flow_model.specs.Steps.{HasTransmitted, Steps, more, none}
use Rattle.dt_flow_laws.proofs.Idle.{idle_has_transmitted}
use Rattle.dt_flow_laws.proofs.Ages.{flies_later, waits_later}
use Rattle.dt_flow_laws.proofs.Laws.{later_is_step, receiver_again_is_step, sender_again_is_step}
use Rattle.dt_world_laws.specs.Lift.{IsLifted}
use Rattle.dt_world_laws.proofs.Lifting.{no_lift}
use Rattle.dt_world_model.specs.Tables.{AllEntries, look, same_flow, write}
use Rattle.dt_flow_model.specs.Frames.{Mark}
use Rattle.dt_world_model.specs.Host.{IsSender, next_turn, receiver_at, sender_at, no_receiver}
use Rattle.dt_world_model.specs.Relay.{Waiting, Out, charge_of, empty_out}
use Rattle.dt_world_model.specs.Script.{play}
use Rattle.dt_world_model.specs.Station.{Station, Event, Send, Read, Tick, Arrive, station_event}
use Rattle.dt_world_laws.proofs.Books.{Cause, book_of, cause_of, flow_state, no_placed, occasion_is}
use Rattle.dt_world_model.specs.Ledgers.{Occasion}
use Rattle.dt_reports.specs.Entries.{Entry}
use Rattle.dt_reports.specs.declared.faults.StepFault.{StepFault}
use Rattle.std.specs.Prelude.{map, not, set, unwrap_or}
use Rattle.dt_world_model.specs.World.{World, Copy, Noted, Placed, ReceiverSide, SenderSide, world_handler, placed, receiver_side, sender_side, view}
use Rattle.dt_world_model.specs.WorldStep.{WorldEvent, Passes, Sends, Reads, Ticks, Arrives, Loses, Restarts, Stepped, copy_at, after_event, event_at, first_refusal, is_late_copy, is_lost, lacks_copy, link_for, link_in, loss, noted_at, occasion, played, refusals, restart_at, restarted, step_unless, world_step, world_with}
use Rattle.dt_world_model.specs.WorldFacts.{AllOuts, CanCome, CanHappen, IsCopy, IsPossible, IsPlaced, IsWaiting, WorldFacts, carried_of}
use Rattle.dt_world_model.proofs.Tables.{all_found, all_look, all_write, flow_is, flow_self, look_write, look_write_other, nat_is, nat_self}
use Rattle.dt_world_laws.proofs.Views.{begins_here, near_receiver, near_sender, near_or_receiver, set_station, views, world_view}
use Rattle.dt_world_laws.proofs.Good.{Good, Kept, Leads, Onward, reading, step_keeps, steps_keep, all_outs_weaker, copy_on, packet_on, waiting_on}
use Rattle.dt_world_laws.proofs.Settled.{sender_idle}
use Rattle.dt_world_laws.proofs.Events.{event_done, Possible, event_leads}

all_entries_weaker : (P Q : ℕ → Placed → Type 0) → ((k : ℕ) (a : Placed) → P k a → Q k a) → (es : List (ℕ × Placed)) → AllEntries P es → AllEntries Q es
all_entries_weaker P Q on [] h = tt
all_entries_weaker P Q on (e ∷ es) h = (on e.0 e.1 h.0, all_entries_weaker P Q on es h.1)

-- flows that are the same have the same packets
pub same_on : (p : Params) (before after : Flow → FlowState) → ((f : Flow) → before f ≡ after f) → Onward p before after
same_on p before after same g q h = subst (λ (s : FlowState). Fits p s q) (same g) h

placed_on : (p : Params) (now : ℕ) (before after : Flow → FlowState) (n : ℕ) (a : Placed) → Onward p before after → IsPlaced p now before n a → IsPlaced p now after n a
placed_on p now before after n a on h =
    record { me = h.me; host = h.host; waiting = all_outs_weaker (IsWaiting p now a.zero before) (IsWaiting p now a.zero after) (λ x k. waiting_on p now a.zero before after x on k) a.station.relay.outs h.waiting; transmitted = h.transmitted }

-- a world after a step: its facts, and for each flow a list of small steps
abbrev pub GoesTo : World → World → Type 0
GoesTo w after = WorldFacts after × ((f : Flow) → IsLifted w.params (view w f) (view after f))

-- what holds of a copy of the list
pub all_get : (P : Copy → Type 0) (cs : List Copy) (k : ℕ) (d : Copy) → All P cs → k < length cs → P (get_or cs k d)
all_get P [] k d h lt = absurd (omega arith)
all_get P (c ∷ cs) zero d h lt = All-head P c cs h
all_get P (c ∷ cs) (suc k) d h lt = all_get P cs k d (All-tail P c cs h) (omega arith)

-- A STATION'S EVENT

module _ (w : World) (n : ℕ) (at : Placed) (there : look ◌==◌ n w.stations ≡ Some at) (facts : WorldFacts w) where
  pub placed_is : placed w n ≡ at
  placed_is = ap (λ (o : Option Placed). unwrap_or o (no_placed n)) there

  station_is : IsPlaced w.params w.now (view w) n (placed w n)
  station_is = subst (λ (a : Placed). IsPlaced w.params w.now (view w) n a) (sym placed_is) (all_look ℕ Placed ◌==◌ nat_self nat_is (IsPlaced w.params w.now (view w)) n at w.stations there facts.stations)

  side_here : (f : Flow) (m : ℕ) → (if n == m then near_sender w n (placed w n).station.host.until (sender_at (placed w n).station.host f) else sender_side (placed w m) f) ≡ sender_side (placed w m) f
  side_here f m = elim (cases_Bool (n == m)) [ inl y ↦ rw y (let at : n ≡ m = nat_is n m y in ap (λ (k : ℕ). sender_side (placed w k) f) at) | inr o ↦ rw o refl ]

  side_there : (f : Flow) (m : ℕ) → (if n == m then near_receiver w n (placed w n).station.host.until (receiver_at (placed w n).station.host f) else receiver_side (placed w m) f) ≡ receiver_side (placed w m) f
  side_there f m = elim (cases_Bool (n == m)) [ inl y ↦ rw y (let at : n ≡ m = nat_is n m y in ap (λ (k : ℕ). receiver_side (placed w k) f) at) | inr o ↦ rw o refl ]

  pub view_here : (f : Flow) → view w f ≡ views w n (placed w n).station.host w.ledgers f
  view_here f =
      sym (ap (λ (x : SenderSide). flow_state w.now x (near_or_receiver w n (placed w n).station.host.until (receiver_at (placed w n).station.host f) f) (book_of w.ledgers f)) (side_here f f.from.0)
      ∙ ap (λ (y : ReceiverSide). flow_state w.now (sender_side (placed w f.from.0) f) y (book_of w.ledgers f)) (side_there f f.to.0))

  pub starts : (c : Cause) → Good w n c (placed w n).station (noted_at w)
  starts c =
      let on = same_on w.params (view w) (views w n (placed w n).station.host w.ledgers) view_here in
      record {
        me = station_is.me;
        host = station_is.host;
        flows = λ f. subst (λ (s : FlowState). Facts w.params s) (view_here f) (facts.flows f);
        outs = all_outs_weaker (IsWaiting w.params w.now (placed w n).zero (view w)) (IsWaiting w.params w.now (placed w n).zero (views w n (placed w n).station.host w.ledgers)) (λ x k. waiting_on w.params w.now (placed w n).zero (view w) (views w n (placed w n).station.host w.ledgers) x on k) (placed w n).station.relay.outs station_is.waiting;
        copies = All-weaker (IsCopy w.params w.now (view w)) (IsCopy w.params w.now (views w n (placed w n).station.host w.ledgers)) (λ x k. copy_on w.params w.now (view w) (views w n (placed w n).station.host w.ledgers) x on k) w.copies facts.copies;
      }

  -- the station and what the world noted are put back
  pub all_sent : (c : Cause) (r : Noted × Station Mark) → IsWithinLimits w.params → Good w n c r.1 r.0 → next_turn w.params (reading w n c) r.1.host ≡ None → (f : Flow) (x : SendRecord) → look same_flow f r.1.host.senders ≡ Some x → HasTransmitted (Some x)
  all_sent c r limits good idle f x there =
      let is = all_look Flow SendRecord same_flow flow_self flow_is (IsSender w.params r.1.host.me) f x r.1.host.senders there good.host.senders in
      let here : (n == f.from.0) ≡ true = rw (is.from ∙ good.me) (nat_self n) in
      let begins = begins_here w n r.1.host.until (sender_at r.1.host f) (receiver_at r.1.host f) (book_of r.0.ledgers f) f here in
      let s : FlowState = flow_state w.now (near_sender w n r.1.host.until (sender_at r.1.host f)) (near_or_receiver w n r.1.host.until (receiver_at r.1.host f) f) (book_of r.0.ledgers f) in
      let facts : Facts w.params s = subst (λ (t : FlowState). Facts w.params t) begins (good.flows f) in
      idle_has_transmitted w.params s x (reading w n c) limits facts there (sender_idle w.params (reading w n c) r.1.host f x idle there)

  put_back : (c : Cause) (r : Noted × Station Mark) → IsWithinLimits w.params → next_turn w.params (reading w n c) r.1.host ≡ None → Leads w n c (placed w n).station (noted_at w) r → GoesTo w (world_with w n (set_station w n r.1) r.0)
  put_back c r limits idle l =
      let after = world_with w n (set_station w n r.1) r.0 in
      let back : (f : Flow) → views w n r.1.host r.0.ledgers f ≡ view after f = λ f. sym (world_view w n r.1 r.0 f) in
      let on = same_on w.params (views w n r.1.host r.0.ledgers) (view after) back in
      let all : Onward w.params (view w) (view after) = λ g q k. on g q (l.on g q (same_on w.params (view w) (views w n (placed w n).station.host w.ledgers) view_here g q k)) in
      let p1 : Placed = record { zero = (placed w n).zero; life = (placed w n).life; station = r.1 } in
      let here : IsPlaced w.params w.now (view after) n p1 =
      record {
        me = l.good.me;
        host = l.good.host;
        waiting = all_outs_weaker (IsWaiting w.params w.now (placed w n).zero (views w n r.1.host r.0.ledgers)) (IsWaiting w.params w.now (placed w n).zero (view after)) (λ x k. waiting_on w.params w.now (placed w n).zero (views w n r.1.host r.0.ledgers) (view after) x on k) r.1.relay.outs l.good.outs;
        transmitted = all_found Flow SendRecord same_flow flow_self flow_is (λ f x. HasTransmitted (Some x)) r.1.host.senders l.good.host.one_sender (all_sent c r limits l.good idle);
      } in (
        record {
          flows = λ f. subst (λ (s : FlowState). Facts w.params s) (back f) (l.good.flows f);
          copies = All-weaker (IsCopy w.params w.now (views w n r.1.host r.0.ledgers)) (IsCopy w.params w.now (view after)) (λ x k. copy_on w.params w.now (views w n r.1.host r.0.ledgers) (view after) x on k) r.0.copies l.good.copies;
          stations = all_write ℕ Placed ◌==◌ nat_self nat_is (IsPlaced w.params w.now (view after)) n p1 w.stations here
              (all_entries_weaker (IsPlaced w.params w.now (view w)) (IsPlaced w.params w.now (view after)) (λ k a h. placed_on w.params w.now (view w) (view after) k a all h) w.stations facts.stations);
          charges = λ link a e. charged link a p1 l.ins e;
        },
        λ f. subst (λ (s : FlowState). IsLifted w.params (view w f) s) (back f) (subst (λ (s : FlowState). IsLifted w.params s (views w n r.1.host r.0.ledgers f)) (sym (view_here f)) (l.lifts f)),
      )
    where
      charged : (link : ℕ) (a p1 : Placed) → p1.station.relay.ins ≡ (placed w n).station.relay.ins → look ◌==◌ (link_in link w.links).to (write ◌==◌ n p1 w.stations) ≡ Some a → charge_of link a.station.relay.ins ≡ (link_in link w.links).charge
      charged link a p1 ins e =
          let to = (link_in link w.links).to in
          elim (cases_Bool (n == to)) [
            | inl y ↦
                let same : n ≡ to = nat_is n to y in
                let found : look ◌==◌ to (write ◌==◌ n p1 w.stations) ≡ Some p1 = subst (λ (k : ℕ). look ◌==◌ k (write ◌==◌ n p1 w.stations) ≡ Some p1) same (look_write ℕ Placed ◌==◌ nat_self nat_is n p1 w.stations) in
                let one : Some p1 ≡ Some a = sym found ∙ e in
                let is : p1 ≡ a = cc in
                let old : look ◌==◌ to w.stations ≡ Some (placed w n) = subst (λ (k : ℕ). look ◌==◌ k w.stations ≡ Some (placed w n)) same (there ∙ ap (λ (x : Placed). Some x) (sym placed_is)) in
                sym (ap (λ (x : Placed). charge_of link x.station.relay.ins) is) ∙ ap (charge_of link) ins ∙ facts.charges link (placed w n) old
            | inr o ↦ facts.charges link a (sym (look_write_other ℕ Placed ◌==◌ nat_self nat_is to n p1 w.stations o) ∙ e)
          ]

  -- one station event, played before the world
  abbrev played_at : Placed → Event Mark → Occasion → List Entry × World
  played_at a e o = played w n a (play (world_handler o) (station_event w.params (w.now + a.zero) e a.station) (noted_at w))

  pub event_keeps : (limits : IsWithinLimits w.params) (e : Event Mark) → Possible w n (placed w n).station (noted_at w) e → GoesTo w (played_at at e (occasion w n e)).1
  event_keeps limits e can =
      let kept = put_back (cause_of e) _ limits (event_done w n limits e (placed w n).station (noted_at w) (starts (cause_of e)) can) (event_leads w n limits e (placed w n).station (noted_at w) (starts (cause_of e)) can) in
      subst (λ (a : Placed). GoesTo w (played_at a e (occasion w n e)).1) placed_is
      (subst (λ (o : Occasion). GoesTo w (played_at (placed w n) e o).1) (sym (occasion_is w n e)) kept)

-- TIME PASSES

abbrev after_time : World → ℕ → World
after_time w by = record w { now = w.now + by }

passes_keeps : (w : World) (by : ℕ) → IsWithinLimits w.params → WorldFacts w → GoesTo w (after_time w by)
passes_keeps w by limits h =
    let after = after_time w by in
    let k : (f : Flow) → Kept w.params (view w f) (view after f) [] = λ f. step_keeps w.params (view w f) (later_flow (view w f) by) [] [] limits (later_is_step w.params (view w f) by) (h.flows f) tt in
    let on : Onward w.params (view w) (view after) = λ g q z. (k g).packets q z in (
      record {
        flows = λ f. (k f).facts;
        copies = All-weaker (IsCopy w.params w.now (view w)) (IsCopy w.params (w.now + by) (view after)) (λ c z. record { age = flies_later w.params.mpl w.now by (carried_of c.parcel c.put) z.age; packet = packet_on w.params (view w) (view after) c.parcel on z.packet }) w.copies h.copies;
        stations = all_entries_weaker (IsPlaced w.params w.now (view w)) (IsPlaced w.params (w.now + by) (view after))
            (λ m a z.
            record {
              me = z.me;
              host = z.host;
              waiting = all_outs_weaker (IsWaiting w.params w.now a.zero (view w)) (IsWaiting w.params (w.now + by) a.zero (view after))
                  (λ x y. record { since = y.since; reading = y.reading; age = waits_later w.params.mpl w.now by (carried_of x.parcel y.since) y.age; packet = packet_on w.params (view w) (view after) x.parcel on y.packet }) a.station.relay.outs z.waiting;
              transmitted = z.transmitted;
            })
            w.stations h.stations;
        charges = h.charges;
      },
      λ f. (k f).lift,
    )

-- A COPY IS LOST

all_put : (P : Copy → Type 0) (cs : List Copy) (k : ℕ) (c : Copy) → P c → All P cs → All P (set cs k c)
all_put P [] k c p h = h
all_put P (d ∷ cs) zero c p h = All-cons P c cs p (All-tail P d cs h)
all_put P (d ∷ cs) (suc k) c p h = All-cons P d (set cs k c) (All-head P d cs h) (all_put P cs k c p (All-tail P d cs h))

loses_keeps : (w : World) (k : ℕ) → k < length w.copies → WorldFacts w → GoesTo w (loss w k).1
loses_keeps w k there h =
    let old = all_get (IsCopy w.params w.now (view w)) w.copies k _ h.copies there in (
      record {
        flows = h.flows;
        copies = all_put (IsCopy w.params w.now (view w)) w.copies k (record (copy_at w k) { lost = true }) (record { age = old.age; packet = old.packet }) h.copies;
        stations = h.stations;
        charges = h.charges;
      },
      λ f. no_lift w.params (view w f),
    )

-- A STATION STARTS AGAIN

module _ (w : World) (n : ℕ) (at : Placed) (there : look ◌==◌ n w.stations ≡ Some at) (limits : IsWithinLimits w.params) (facts : WorldFacts w) where
  abbrev again : Placed
  again = restarted w.params w.now at

  abbrev anew : World
  anew = record w { stations = write ◌==◌ n again w.stations }

  anew_same : placed anew n ≡ again
  anew_same = rw (look_write ℕ Placed ◌==◌ nat_self nat_is n again w.stations)

  anew_other : (m : ℕ) → (n == m) ≡ false → placed anew m ≡ placed w m
  anew_other m h = rw (look_write_other ℕ Placed ◌==◌ nat_self nat_is m n again w.stations h)

  was : placed w n ≡ at
  was = ap (λ (o : Option Placed). unwrap_or o (no_placed n)) there

  sender_anew : (m : ℕ) (f : Flow) → (n == m) ≡ true → sender_side (placed anew m) f ≡ record { zero = (placed w m).zero; life = (placed w m).life + 1; until = w.now + (placed w m).zero + quiet_time w.params; sender = None }
  sender_anew m f e =
      let here : n ≡ m = nat_is n m e in
      subst (λ (k : ℕ). sender_side (placed anew k) f ≡ record { zero = (placed w k).zero; life = (placed w k).life + 1; until = w.now + (placed w k).zero + quiet_time w.params; sender = None }) here
      (ap (λ (s : Placed). sender_side s f) anew_same ∙ ap (λ (s : Placed). let t : SenderSide = record { zero = s.zero; life = s.life + 1; until = w.now + s.zero + quiet_time w.params; sender = None } in t) (sym was))

  receiver_anew : (m : ℕ) (f : Flow) → (n == m) ≡ true → receiver_side (placed anew m) f ≡ record { zero = (placed w m).zero; life = (placed w m).life + 1; until = w.now + (placed w m).zero + quiet_time w.params; receiver = no_receiver }
  receiver_anew m f e =
      let here : n ≡ m = nat_is n m e in
      subst (λ (k : ℕ). receiver_side (placed anew k) f ≡ record { zero = (placed w k).zero; life = (placed w k).life + 1; until = w.now + (placed w k).zero + quiet_time w.params; receiver = no_receiver }) here
      (ap (λ (s : Placed). receiver_side s f) anew_same ∙ ap (λ (s : Placed). let t : ReceiverSide = record { zero = s.zero; life = s.life + 1; until = w.now + s.zero + quiet_time w.params; receiver = no_receiver } in t) (sym was))

  by_sides : (f : Flow) (x : SenderSide) (y : ReceiverSide) → sender_side (placed anew f.from.0) f ≡ x → receiver_side (placed anew f.to.0) f ≡ y → Steps w.params (view w f) [] [] (flow_state w.now x y (book_of w.ledgers f)) → Steps w.params (view w f) [] [] (view anew f)
  by_sides f x y e k m =
      let v : view anew f ≡ flow_state w.now x y (book_of w.ledgers f) =
      ap (λ (s : SenderSide). flow_state w.now s (receiver_side (placed anew f.to.0) f) (book_of w.ledgers f)) e ∙ ap (λ (s : ReceiverSide). flow_state w.now x s (book_of w.ledgers f)) k in
      subst (λ s. Steps w.params (view w f) [] [] s) (sym v) m

  -- what waits at the station was sent, as far as it could be
  had_sent : (f : Flow) → (n == f.from.0) ≡ true → HasTransmitted (view w f).sender
  had_sent f a =
      let here : n ≡ f.from.0 = nat_is n f.from.0 a in
      let old = all_look ℕ Placed ◌==◌ nat_self nat_is (IsPlaced w.params w.now (view w)) n at w.stations there facts.stations in
      subst (λ (m : ℕ). HasTransmitted (sender_side (placed w m) f).sender) here (subst (λ (s : Placed). HasTransmitted (sender_side s f).sender) (sym was) (by_look (look same_flow f at.station.host.senders) refl))
    where
      by_look : (o : Option SendRecord) → look same_flow f at.station.host.senders ≡ o → HasTransmitted o
      by_look None e = tt
      by_look (Some x) e =
          let old = all_look ℕ Placed ◌==◌ nat_self nat_is (IsPlaced w.params w.now (view w)) n at w.stations there facts.stations in
          all_look Flow SendRecord same_flow flow_self flow_is (λ g y. HasTransmitted (Some y)) f x at.station.host.senders e old.transmitted

  restart_steps : (f : Flow) → Steps w.params (view w f) [] [] (view anew f)
  restart_steps f =
      elim (cases_Bool (n == f.from.0)) [
        | inl a ↦
            elim (cases_Bool (n == f.to.0)) [
              | inl b ↦ by_sides f _ _ (sender_anew f.from.0 f a) (receiver_anew f.to.0 f b) (more (sender_again_is_step w.params (view w f) (had_sent f a)) (more (receiver_again_is_step w.params (sender_again w.params (view w f))) none))
              | inr b ↦ by_sides f _ _ (sender_anew f.from.0 f a) (ap (λ (s : Placed). receiver_side s f) (anew_other f.to.0 b)) (more (sender_again_is_step w.params (view w f) (had_sent f a)) none)
            ]
        | inr a ↦
            elim (cases_Bool (n == f.to.0)) [
              | inl b ↦ by_sides f _ _ (ap (λ (s : Placed). sender_side s f) (anew_other f.from.0 a)) (receiver_anew f.to.0 f b) (more (receiver_again_is_step w.params (view w f)) none)
              | inr b ↦ by_sides f _ _ (ap (λ (s : Placed). sender_side s f) (anew_other f.from.0 a)) (ap (λ (s : Placed). receiver_side s f) (anew_other f.to.0 b)) none
            ]
      ]

  all_emptied : (P : Waiting Mark → Type 0) (outs : List (Out Mark)) → AllOuts P (map (λ (o : Out Mark). let q : Out Mark = empty_out o.link o.pace in q) outs)
  all_emptied P [] = tt
  all_emptied P (o ∷ os) = (All-nil P, all_emptied P os)

  restarts_keeps : GoesTo w anew
  restarts_keeps =
      let k : (f : Flow) → Kept w.params (view w f) (view anew f) [] = λ f. steps_keep w.params (view w f) (view anew f) [] limits (restart_steps f) (facts.flows f) in
      let on : Onward w.params (view w) (view anew) = λ g q z. (k g).packets q z in
      let old = all_look ℕ Placed ◌==◌ nat_self nat_is (IsPlaced w.params w.now (view w)) n at w.stations there facts.stations in (
        record {
          flows = λ f. (k f).facts;
          copies = All-weaker (IsCopy w.params w.now (view w)) (IsCopy w.params w.now (view anew)) (λ c z. copy_on w.params w.now (view w) (view anew) c on z) w.copies facts.copies;
          stations = all_write ℕ Placed ◌==◌ nat_self nat_is (IsPlaced w.params w.now (view anew)) n again w.stations
              (record { me = old.me; host = record { one_sender = tt; one_receiver = tt; senders = tt; receivers = tt }; waiting = all_emptied (IsWaiting w.params w.now at.zero (view anew)) at.station.relay.outs; transmitted = tt })
              (all_entries_weaker (IsPlaced w.params w.now (view w)) (IsPlaced w.params w.now (view anew)) (λ m a z. placed_on w.params w.now (view w) (view anew) m a on z) w.stations facts.stations);
          charges = λ link a e.
              let to = (link_in link w.links).to in
              elim (cases_Bool (n == to)) [
                | inl y ↦
                    let same : n ≡ to = nat_is n to y in
                    let found : look ◌==◌ to (write ◌==◌ n again w.stations) ≡ Some again = subst (λ (k : ℕ). look ◌==◌ k (write ◌==◌ n again w.stations) ≡ Some again) same (look_write ℕ Placed ◌==◌ nat_self nat_is n again w.stations) in
                    let one : Some again ≡ Some a = sym found ∙ e in
                    let is : again ≡ a = cc in
                    sym (ap (λ (x : Placed). charge_of link x.station.relay.ins) is) ∙ facts.charges link at (subst (λ (k : ℕ). look ◌==◌ k w.stations ≡ Some at) same there)
                | inr o ↦ facts.charges link a (sym (look_write_other ℕ Placed ◌==◌ nat_self nat_is to n again w.stations o) ∙ e)
              ];
        },
        λ f. (k f).lift,
      )

-- what an event needs, by the world's flows
pub possible_here : (w : World) (n : ℕ) (at : Placed) (there : look ◌==◌ n w.stations ≡ Some at) (facts : WorldFacts w) (e : Event Mark) → IsPossible w n e → Possible w n (placed w n).station (noted_at w) e
possible_here w n at there facts (Send f octets begin end) can = can
possible_here w n at there facts (Read f most) can = can
possible_here w n at there facts Tick can = can
possible_here w n at there facts (Arrive link parcel) can =
    record {
      put = can.put;
      age = can.age;
      packet = packet_on w.params (view w) (views w n (placed w n).station.host w.ledgers) parcel (same_on w.params (view w) (views w n (placed w n).station.host w.ledgers) (view_here w n at there facts)) can.packet;
      held = can.held;
    }

-- EACH STEP KEEPS THE FACTS

not_less : (m n : ℕ) → nat_lt m n ≡ false → n ≤ m
not_less m n h = grind (arith, nat_tests)

is_less : (m n : ℕ) → nat_lt m n ≡ true → m < n
is_less m n h = grind (arith, nat_tests)

-- the tests of a list of which none refuses
passed : {F : Type 0} (test : Bool × F) (rest : List (Bool × F)) → first_refusal (test ∷ rest) ≡ None → (test.0 ≡ false) × (first_refusal rest ≡ None)
passed test rest e = elim (cases_Bool test.0) [ inl y ↦ let some : Some test.1 ≡ None = rw y at e in absurd cc | inr o ↦ (o, rw o at e) ]

not_false : (b : Bool) → not b ≡ false → b ≡ true
not_false true e = refl
not_false false e = absurd cc

module _ (w : World) (limits : IsWithinLimits w.params) (facts : WorldFacts w) where
  stays_world : GoesTo w w
  stays_world = (facts, λ f. no_lift w.params (view w f))

  at_keeps : (n : ℕ) (e : Event Mark) (o : Option Placed) → look ◌==◌ n w.stations ≡ o → ((at : Placed) → look ◌==◌ n w.stations ≡ Some at → Possible w n (placed w n).station (noted_at w) e) → GoesTo w (event_at w n e o).1
  at_keeps n e None is can = stays_world
  at_keeps n e (Some at) is can = event_keeps w n at is facts limits e (can at is)

  restart_keeps : (n : ℕ) (o : Option Placed) → look ◌==◌ n w.stations ≡ o → GoesTo w (restart_at w n o).1
  restart_keeps n None is = stays_world
  restart_keeps n (Some at) is = restarts_keeps w n at is limits facts

  copy_there : (k : ℕ) (rest : List (Bool × StepFault)) → first_refusal (lacks_copy w k ∷ rest) ≡ None → k < length w.copies
  copy_there k rest e = is_less _ _ (not_false (nat_lt k (length w.copies)) (passed (lacks_copy w k) rest e).0)

  -- A COPY THAT ISN'T REFUSED CAN COME
  pub copy_can_come : (k : ℕ) (at : Placed) → first_refusal (refusals w (Arrives k)) ≡ None → look ◌==◌ (link_for w k).to w.stations ≡ Some at → CanCome w (link_for w k).to (copy_at w k).link (copy_at w k).parcel
  copy_can_come k at clear there =
      let c = copy_at w k in
      let l = link_for w k in
      let is : IsCopy w.params w.now (view w) c = all_get (IsCopy w.params w.now (view w)) w.copies k _ facts.copies (copy_there k (is_lost w k ∷ is_late_copy w k ∷ []) clear) in
      let in_time = (passed (is_late_copy w k) [] (passed (is_lost w k) (is_late_copy w k ∷ []) (passed (lacks_copy w k) (is_lost w k ∷ is_late_copy w k ∷ []) clear).1).1).0 in
      let charge : charge_of c.link at.station.relay.ins ≡ l.charge = facts.charges c.link at there in
      let same : charge_of c.link (placed w l.to).station.relay.ins ≡ charge_of c.link at.station.relay.ins = ap (λ (a : Placed). charge_of c.link a.station.relay.ins) (placed_is w l.to at there facts) in
      record { put = c.put; age = is.age; packet = is.packet; held = omega (arith, not_less _ _ in_time, charge, same) }

  arrives_keeps : (k : ℕ) → first_refusal (refusals w (Arrives k)) ≡ None → GoesTo w (after_event w (Arrives k)).1
  arrives_keeps k clear =
      let to = (link_for w k).to in
      let e = Arrive (copy_at w k).link (copy_at w k).parcel in
      at_keeps to e (look ◌==◌ to w.stations) refl (λ at there. possible_here w to at there facts e (copy_can_come k at clear there))

  pub effect_keeps : (e : WorldEvent) → CanHappen e → first_refusal (refusals w e) ≡ None → GoesTo w (after_event w e).1
  effect_keeps (Passes by) can clear = passes_keeps w by limits facts
  effect_keeps (Sends f octets begin end) can clear = at_keeps f.from.0 (Send f octets begin end) (look ◌==◌ f.from.0 w.stations) refl (λ at there. (can, refl))
  effect_keeps (Reads f most) can clear = at_keeps f.to.0 (Read f most) (look ◌==◌ f.to.0 w.stations) refl (λ at there. (can, refl))
  effect_keeps (Ticks n) can clear = at_keeps n Tick (look ◌==◌ n w.stations) refl (λ at there. tt)
  effect_keeps (Arrives k) can clear = arrives_keeps k clear
  effect_keeps (Loses k) can clear = loses_keeps w k (copy_there k (is_lost w k ∷ []) clear) facts
  effect_keeps (Restarts n) can clear = restart_keeps n (look ◌==◌ n w.stations) refl

  stepped_is : (o : Option StepFault) (r : List Entry × World) (lines : List Entry) (after : World) → step_unless o r ≡ Stepped lines after → (o ≡ None) × (r.1 ≡ after)
  stepped_is None r lines after e = (refl, cc)
  stepped_is (Some fault) r lines after e = absurd cc

  pub step_keeps_world : (e : WorldEvent) (lines : List Entry) (after : World) → CanHappen e → world_step w e ≡ Stepped lines after → GoesTo w after
  step_keeps_world e lines after can is = let k = stepped_is (first_refusal (refusals w e)) (after_event w e) lines after is in subst (λ (v : World). GoesTo w v) k.1 (effect_keeps e can k.0)
