-- What holds while a station's event is played: of its host and its relay, and of what the world keeps meanwhile.
use Rattle.std.proofs.Common.{ℕ, ◌+◌, ◌≡◌, false, List, [], ◌∷◌, Option, Some, None, refl, sym, subst, inl, inr, ◌∙◌}
use Rattle.std.specs.List.{All}
use Rattle.std.proofs.lemmas.Bool.{cases_Bool}
use Rattle.std.proofs.lemmas.List.Elements.{All-weaker}
use Rattle.dt_units.specs.declared.parameters.Params.{Params}
use Rattle.dt_units.specs.declared.endpoints.Flow.{Flow}
use Rattle.dt_units.specs.Limits.{IsWithinLimits}
use Rattle.dt_flow_model.specs.Facts.{AllFit, Facts, Fits, FitsSome}
use Rattle.dt_flow_model.specs.Steps.{Step, Steps}
use Rattle.dt_flow_laws.proofs.Laws as laws
use Rattle.dt_flow_model.specs.Flow.{FlowState, Packet}
use Rattle.dt_world_model.specs.Tables.{same_flow}
use Rattle.dt_flow_model.specs.Frames.{Mark, marked_packet, value_in}
use Rattle.dt_world_model.specs.Host.{Host, IsHost}
use Rattle.dt_world_model.specs.Relay.{Parcel, Waiting, Out, Relay}
use Rattle.dt_world_model.specs.Script.{Done, ◌>>=◌, play}
use Rattle.dt_world_model.specs.Station.{Station, station_with, pass_on, send_off}
use Rattle.dt_world_laws.proofs.Books.{Cause}
use Rattle.dt_world_model.specs.Ledgers.{Ledgers, Occasion, mark_of}
use Rattle.dt_world_model.specs.World.{World, Copy, Noted, placed, world_handler}
use Rattle.dt_world_model.specs.WorldFacts.{IsPacket, IsWaiting, IsCopy, AllOuts}
use Rattle.dt_world_laws.specs.Lift.{IsLifted}
use Rattle.dt_world_laws.proofs.Lifting.{lift_then, many_lift, no_lift, step_lift}
use Rattle.dt_world_model.proofs.Tables.{flow_is}
use Rattle.dt_world_laws.proofs.Views.{views}
use Rattle.dt_world_laws.proofs.Plays.{play_then}
use Rattle.dt_world_laws.proofs.Flushing.{Copies, Outs, pass_on_keeps}

-- what waits, by a weaker predicate
pub all_outs_weaker : (P Q : Waiting Mark → Type 0) → ((x : Waiting Mark) → P x → Q x) → (outs : List (Out Mark)) → AllOuts P outs → AllOuts Q outs
all_outs_weaker P Q on [] h = tt
all_outs_weaker P Q on (out ∷ outs) h = (All-weaker P Q on out.waits h.0, all_outs_weaker P Q on outs h.1)

-- packets that fit are packets still
abbrev pub Onward : Params → (Flow → FlowState) → (Flow → FlowState) → Type 0
Onward p before after = (g : Flow) (q : Packet) → Fits p (before g) q → Fits p (after g) q

fits_on : (p : Params) (s t : FlowState) (q : Option Packet) → ((k : Packet) → Fits p s k → Fits p t k) → FitsSome p s q → FitsSome p t q
fits_on p s t None on h = h
fits_on p s t (Some q) on h = on q h

pub packet_on : (p : Params) (before after : Flow → FlowState) (parcel : Parcel Mark) → Onward p before after → IsPacket p before parcel → IsPacket p after parcel
packet_on p before after parcel on h = record { gram = h.gram; carries = h.carries; fits = fits_on p _ _ (marked_packet parcel.tag (value_in parcel.octets)) (λ q k. on _ q k) h.fits }

pub waiting_on : (p : Params) (now z : ℕ) (before after : Flow → FlowState) (x : Waiting Mark) → Onward p before after → IsWaiting p now z before x → IsWaiting p now z after x
waiting_on p now z before after x on h = record { since = h.since; reading = h.reading; age = h.age; packet = packet_on p before after x.parcel on h.packet }

pub copy_on : (p : Params) (now : ℕ) (before after : Flow → FlowState) (c : Copy) → Onward p before after → IsCopy p now before c → IsCopy p now after c
copy_on p now before after c on h = record { age = h.age; packet = packet_on p before after c.parcel on h.packet }

-- what steps of a flow keep: its facts, its packets, and each fate that isn't Open
pub record Kept (p : Params) (s after : FlowState) (made : List Packet) : Type 0 where
  pub facts : Facts p after
  pub packets : (q : Packet) → Fits p s q → Fits p after q
  pub made_fit : AllFit p after made
  pub lift : IsLifted p s after

pub step_keeps : (p : Params) (s after : FlowState) (ins made : List Packet) → IsWithinLimits p → Step p s ins made after → Facts p s → AllFit p s ins → Kept p s after made
step_keeps p s after ins made limits step f h = let k = laws.step_keeps p s after ins made limits step f h in record { facts = k.facts; packets = k.packets; made_fit = k.made_fit; lift = step_lift p s after ins made h step }

pub steps_keep : (p : Params) (s after : FlowState) (made : List Packet) → IsWithinLimits p → Steps p s [] made after → Facts p s → Kept p s after made
steps_keep p s after made limits step f = let k = laws.steps_keep p s after [] made limits step f tt in record { facts = k.facts; packets = k.packets; made_fit = k.made_fit; lift = many_lift p s after made step }

-- one flow moves, the others stay
pub record Moves (p : Params) (before after : Flow → FlowState) (f : Flow) (made : List Packet) : Type 0 where
  pub kept : Kept p (before f) (after f) made
  pub others : (g : Flow) → same_flow f g ≡ false → after g ≡ before g

module _ (p : Params) (before after : Flow → FlowState) (f : Flow) (made : List Packet) (m : Moves p before after f made) where
  pub moves_facts : ((g : Flow) → Facts p (before g)) → (g : Flow) → Facts p (after g)
  moves_facts h g =
      elim (cases_Bool (same_flow f g)) [
        | inl y ↦ subst (λ k. Facts p (after k)) (flow_is f g y) m.kept.facts
        | inr n ↦ subst (λ s. Facts p s) (sym (m.others g n)) (h g)
      ]

  pub moves_on : Onward p before after
  moves_on g q h =
      elim (cases_Bool (same_flow f g)) [
        | inl y ↦ let e = flow_is f g y in subst (λ k. Fits p (after k) q) e (m.kept.packets q (subst (λ k. Fits p (before k) q) (sym e) h))
        | inr n ↦ subst (λ s. Fits p s q) (sym (m.others g n)) h
      ]

  pub moves_lifts : (g : Flow) → IsLifted p (before g) (after g)
  moves_lifts g =
      elim (cases_Bool (same_flow f g)) [
        | inl y ↦ subst (λ k. IsLifted p (before k) (after k)) (flow_is f g y) m.kept.lift
        | inr n ↦ subst (λ (s : FlowState). IsLifted p (before g) s) (sym (m.others g n)) (no_lift p (before g))
      ]

module _ (w : World) (n : ℕ) (cause : Cause) where
  abbrev pub stage : Occasion
  stage = record { params = w.params; now = w.now; node = n; life = (placed w n).life; items = cause.0; place = cause.1 }

  abbrev pub reading : ℕ
  reading = w.now + (placed w n).zero

  pub record Good (st : Station Mark) (d : Noted) : Type 0 where
    pub me : st.host.me ≡ n
    pub host : IsHost w.params st.host
    pub flows : (f : Flow) → Facts w.params (views w n st.host d.ledgers f)
    pub outs : Outs w.params stage (views w n st.host d.ledgers) (placed w n).zero st.relay.outs
    pub copies : Copies w.params stage (views w n st.host d.ledgers) (placed w n).zero d.copies

  -- what a part of the event leaves
  pub record Leads (st : Station Mark) (d : Noted) (r : Noted × Station Mark) : Type 0 where
    pub good : Good r.1 r.0
    pub on : Onward w.params (views w n st.host d.ledgers) (views w n r.1.host r.0.ledgers)
    pub lifts : (f : Flow) → IsLifted w.params (views w n st.host d.ledgers f) (views w n r.1.host r.0.ledgers f)
    pub until : r.1.host.until ≡ st.host.until
    pub ins : r.1.relay.ins ≡ st.relay.ins
    pub routes : r.1.relay.routes ≡ st.relay.routes

  pub stays : (st : Station Mark) (d : Noted) → Good st d → Leads st d (d, st)
  stays st d h = record { good = h; on = λ g q k. k; lifts = λ f. no_lift w.params (views w n st.host d.ledgers f); until = refl; ins = refl; routes = refl }

  pub leads_then : (st : Station Mark) (d : Noted) (r q : Noted × Station Mark) → Leads st d r → Leads r.1 r.0 q → Leads st d q
  leads_then st d r q h k = record { good = k.good; on = λ g z l. k.on g z (h.on g z l); lifts = λ f. lift_then w.params (views w n st.host d.ledgers f) (views w n r.1.host r.0.ledgers f) (views w n q.1.host q.0.ledgers f) (h.lifts f) (k.lifts f); until = k.until ∙ h.until; ins = k.ins ∙ h.ins; routes = k.routes ∙ h.routes }

  -- one flow has moved: by the host, and by what was told
  pub good_moves : (st : Station Mark) (d d' : Noted) (host : Host) (f : Flow) (made : List Packet) → Good st d → IsHost w.params host → host.me ≡ n → d'.copies ≡ d.copies
      → Moves w.params (views w n st.host d.ledgers) (views w n host d'.ledgers) f made → Good (station_with host st.relay) d'
  good_moves st d d' host f made h is me same m =
      let on = moves_on w.params (views w n st.host d.ledgers) (views w n host d'.ledgers) f made m in
      record {
        me = me;
        host = is;
        flows = moves_facts w.params (views w n st.host d.ledgers) (views w n host d'.ledgers) f made m h.flows;
        outs = all_outs_weaker (IsWaiting w.params w.now (placed w n).zero (views w n st.host d.ledgers)) (IsWaiting w.params w.now (placed w n).zero (views w n host d'.ledgers))
            (λ x k. waiting_on w.params w.now (placed w n).zero (views w n st.host d.ledgers) (views w n host d'.ledgers) x on k) st.relay.outs h.outs;
        copies = subst (λ (cs : List Copy). All (IsCopy w.params w.now (views w n host d'.ledgers)) cs) (sym same)
            (All-weaker (IsCopy w.params w.now (views w n st.host d.ledgers)) (IsCopy w.params w.now (views w n host d'.ledgers)) (λ c k. copy_on w.params w.now (views w n st.host d.ledgers) (views w n host d'.ledgers) c on k) d.copies h.copies);
      }

  -- what only the relay did
  pub relay_leads : (st : Station Mark) (d : Noted) (relay : Relay Mark) (d' : Noted) → Good st d → d'.ledgers ≡ d.ledgers → Outs w.params stage (views w n st.host d.ledgers) (placed w n).zero relay.outs → Copies w.params stage (views w n st.host d.ledgers) (placed w n).zero d'.copies
      → relay.ins ≡ st.relay.ins → relay.routes ≡ st.relay.routes → Leads st d (d', station_with st.host relay)
  relay_leads st d relay d' h books outs copies ins routes =
      let g : Good (station_with st.host relay) (record { ledgers = d.ledgers; copies = d'.copies; lines = d'.lines }) = record { me = h.me; host = h.host; flows = h.flows; outs = outs; copies = copies } in
      let k : Leads st d (record { ledgers = d.ledgers; copies = d'.copies; lines = d'.lines }, station_with st.host relay) = record { good = g; on = λ g q z. z; lifts = λ f. no_lift w.params (views w n st.host d.ledgers f); until = refl; ins = ins; routes = routes } in
      subst (λ (bs : Ledgers). Leads st d (record { ledgers = bs; copies = d'.copies; lines = d'.lines }, station_with st.host relay)) (sym books) k

  -- a packet is passed on
  pub pass_on_leads : (parcel : Parcel Mark) (st : Station Mark) (d : Noted) → Good st d → IsWaiting w.params w.now (placed w n).zero (views w n st.host d.ledgers) (record { parcel = parcel; since = reading })
      → Leads st d (play (world_handler stage) (pass_on parcel reading st.relay >>= λ relay. Done (station_with st.host relay)) d)
  pass_on_leads parcel st d h one =
      let k = pass_on_keeps w.params stage (views w n st.host d.ledgers) (placed w n).zero parcel st.relay d h.outs h.copies one in
      let r = play (world_handler stage) (pass_on parcel reading st.relay) d in
      play_then (world_handler stage) (Leads st d) (pass_on parcel reading st.relay) (λ relay. Done (station_with st.host relay)) d (relay_leads st d r.1 r.0 h k.ledgers k.rest.0 k.copies k.rest.1 k.rest.2)

  -- a frame that the host made, if it made one, goes off: with its tag it is a packet that can wait
  abbrev pub CanGo : Host → Noted → Option (List ℕ) → Type 0
  CanGo host d None = Unit {0}
  CanGo host d (Some octets) = IsWaiting w.params w.now (placed w n).zero (views w n host d.ledgers) (record { parcel = record { octets = octets; tag = mark_of stage d.ledgers host octets }; since = reading })

  pub send_off_leads : (frame : Option (List ℕ)) (st : Station Mark) (d : Noted) → Good st d → CanGo st.host d frame → Leads st d (play (world_handler stage) (send_off reading st.host frame st.relay) d)
  send_off_leads None st d h can = stays st d h
  send_off_leads (Some octets) st d h can = pass_on_leads (record { octets = octets; tag = mark_of stage d.ledgers st.host octets }) st d h can
