-- The host's acts, one at a time.
use Rattle.std.proofs.Common.{subst, inr, ◌≡◌, ℕ, zero, suc, ◌<◌, ◌≤◌, List, [], ◌∷◌, Bool, true, false, cond, Option, Some, None, IfSome, is_some, refl, sym, ap, ◌∙◌, arith, unwrap_or, option_map}
use Rattle.dt_units.specs.declared.parameters.Params.{Params}
use Rattle.dt_units.specs.declared.endpoints.Flow.{Flow}
use Rattle.dt_layout.specs.Carried.{IsGram}
use Rattle.dt_reports.specs.Told.{Told}
use Rattle.dt_reports.specs.declared.reports.Report.TheVariants as report
use Rattle.dt_flow_model.specs.declared.acts.SendAct.TheVariants as A
use Rattle.dt_flow_model.specs.declared.acts.RecvAct.TheVariants as R
use Rattle.dt_flow_model.specs.declared.acts.RecvKind.TheVariants as K
use Rattle.dt_flow_model.specs.SendActs.{give_up, meet, release, renew, resend, send}
use Rattle.dt_host.specs.declared.acts.Act.{Act as ActDone}
use Rattle.dt_host.specs.declared.acts.Act.TheVariants as act
use Rattle.dt_host.specs.declared.acts.Done.{Done as DoneAct}
use Rattle.dt_host.specs.Answers.{frame_made, host_after, told_act, told_done}
use Rattle.dt_host.specs.Hosts.{HostValue}
use Rattle.dt_world_model.specs.Host.{Host, HostAct, IsCurrentHost, Offer, Turn, least, next_turn, offers, recv_act, send_act, turn_of, work}
use Rattle.dt_world_model.specs.Relay.{Parcel, Relay, with_outs}
use Rattle.dt_world_model.specs.Script.{Done, Plays, Script, Stops, Tell, ◌>>=◌}
use Rattle.dt_world_model.specs.Station.{Station, do_turns, send_off, station_with}
use Rattle.dt_station.specs.Acts.{makes_frame}
use Rattle.dt_station.specs.Stations.{StationValue, Stays}
use Rattle.dt_station.proofs.Flushes.{kept}
use Rattle.dt_station.proofs.Playing.{Leads, leads_after, leads_here, stops_within}

-- WHICH ACTS MAKE A FRAME is seen of what is told
abbrev tells_frame : Told → Bool
tells_frame (report.Sent flow number length drf begin end) = true
tells_frame (report.Resent flow number length drf begin end) = true
tells_frame (report.Met flow number) = true
tells_frame (report.Acked flow number window) = true
tells_frame _ = false

told_makes : (f : Flow) (a : ActDone) → tells_frame (told_act f a) ≡ makes_frame a
told_makes f (act.Send (A.GaveUp count)) = refl
told_makes f (act.Send A.Released) = refl
told_makes f (act.Send A.Renewed) = refl
told_makes f (act.Send (A.Resent cut)) = refl
told_makes f (act.Send (A.Sent cut)) = refl
told_makes f (act.Send (A.Met number)) = refl
told_makes f (act.Recv R.Released) = refl
told_makes f (act.Recv (R.Acked number window)) = refl

turn_makes : (p : Params) (now : ℕ) (host : Host) (a : HostAct) → is_some (turn_of p now host a).frame ≡ tells_frame (turn_of p now host a).told
turn_makes p now host (send_act f x (give_up g rest)) = refl
turn_makes p now host (send_act f x release) = refl
turn_makes p now host (send_act f x renew) = refl
turn_makes p now host (send_act f x (resend before g after)) = refl
turn_makes p now host (send_act f x (send cut rest)) = refl
turn_makes p now host (send_act f x meet) = refl
turn_makes p now host (recv_act f y K.Release) = refl
turn_makes p now host (recv_act f y K.Ack) = refl

turn_me : (p : Params) (now : ℕ) (host : Host) (a : HostAct) → (turn_of p now host a).host.me ≡ host.me
turn_me p now host (send_act f x a) = refl
turn_me p now host (recv_act f y kind) = refl

-- the host stays that of its node
me_of : (p : Params) (now : ℕ) (host : Host) (o : Option Offer) → (host_after host (option_map (λ o. turn_of p now host o.act) o)).me ≡ host.me
me_of p now host None = refl
me_of p now host (Some o) = turn_me p now host o.act

pub next_me : (p : Params) (now : ℕ) (host : Host) → (host_after host (next_turn p now host)).me ≡ host.me
next_me p now host = me_of p now host (least (offers p now host))

-- no turn is next where no act is due
none_least : (os : List Offer) → least os ≡ None → os ≡ []
none_least [] h = refl
none_least (o ∷ os) h = absurd (cc)

none_mapped : {A B : Type 0} (f : A → B) (o : Option A) → option_map f o ≡ None → o ≡ None
none_mapped f None h = refl
none_mapped f (Some a) h = absurd (cc)

pub current_of : (p : Params) (now : ℕ) (host : Host) → None ≡ option_map (λ (t : Turn). t.told) (next_turn p now host) → IsCurrentHost p now host
current_of p now host h =
    none_least (offers p now host) (none_mapped (λ (o : Offer). turn_of p now host o.act) (least (offers p now host)) (none_mapped (λ (t : Turn). t.told) (next_turn p now host) (sym h)))

-- the act that was done is the next turn
turn_is : (o : Option Turn) (told : Told) → Some told ≡ option_map (λ (t : Turn). t.told) o → (turn : Turn) × (o ≡ Some turn) × (told ≡ turn.told)
turn_is None told h = absurd (cc)
turn_is (Some turn) told h = (turn, refl, cc)

made_from : (p : Params) (now : ℕ) (host : Host) (o : Option Offer) (turn : Turn) → option_map (λ o. turn_of p now host o.act) o ≡ Some turn → is_some turn.frame ≡ tells_frame turn.told
made_from p now host None turn h = absurd (cc)
made_from p now host (Some o) turn h =
    let e : turn_of p now host o.act ≡ turn = cc in subst (λ (t : Turn). is_some t.frame ≡ tells_frame t.told) e (turn_makes p now host o.act)

makes_of : (p : Params) (now : ℕ) (host : Host) (turn : Turn) (done : DoneAct) → next_turn p now host ≡ Some turn → told_done done ≡ turn.told → is_some turn.frame ≡ makes_frame done.act
makes_of p now host turn done e same = made_from p now host (least (offers p now host)) turn e ∙ ap tells_frame (sym same) ∙ told_makes done.flow done.act

-- the frame that is there after an act is that of the turn, where the act makes one
frame_is : (frame : Option (List ℕ)) (made : Bool) (was left : List ℕ) → is_some frame ≡ made → left ≡ unwrap_or frame was → frame ≡ cond made (Some left) None
frame_is None true was left e h = absurd (cc)
frame_is None false was left e h = refl
frame_is (Some octets) true was left e h = ap Some (sym h)
frame_is (Some octets) false was left e h = absurd (cc)

gram_is : (frame : Option (List ℕ)) (made : Bool) (was left : List ℕ) → is_some frame ≡ made → left ≡ unwrap_or frame was → IfSome frame (λ octets. IsGram octets) → made ≡ true → IsGram left
gram_is None made was left e h reads t = absurd (cc)
gram_is (Some octets) made was left e h reads t = subst IsGram (sym h) reads

-- what a call of next did
module _ (p : Params) (now : ℕ) (host new : Host) (done : DoneAct) (was left : List ℕ) (turn : Some (told_done done) ≡ option_map (λ (t : Turn). t.told) (next_turn p now host))
    (frame : left ≡ unwrap_or (frame_made (next_turn p now host)) was) (after : new ≡ host_after host (next_turn p now host)) where
  pub record Turned : Type 0 where
    pub next : Turn
    pub is_next : next_turn p now host ≡ Some next
    pub told : next.told ≡ told_done done
    pub made : next.frame ≡ cond (makes_frame done.act) (Some left) None
    pub host_is : next.host ≡ new

  pub turned : Turned
  turned =
      let t = turn_is (next_turn p now host) (told_done done) turn in
      let made : is_some t.0.frame ≡ makes_frame done.act = makes_of p now host t.0 done t.1 t.2 in
      record {
        next = t.0;
        is_next = t.1;
        told = sym t.2;
        made = frame_is t.0.frame (makes_frame done.act) was left made (frame ∙ ap (λ (o : Option Turn). unwrap_or (frame_made o) was) t.1);
        host_is = sym (after ∙ ap (host_after host) t.1);
      }

  pub reads_made : IfSome (frame_made (next_turn p now host)) (λ octets. IsGram octets) → makes_frame done.act ≡ true → IsGram left
  reads_made reads m =
      let t = turn_is (next_turn p now host) (told_done done) turn in
      let made : is_some t.0.frame ≡ makes_frame done.act = makes_of p now host t.0 done t.1 t.2 in
      gram_is t.0.frame (makes_frame done.act) was left made (frame ∙ ap (λ (o : Option Turn). unwrap_or (frame_made o) was) t.1) (subst (λ (o : Option Turn). IfSome (frame_made o) (λ octets. IsGram octets)) t.1 reads) m

turns_go : {T : Type 0} (p : Params) (now most : ℕ) (host : Host) (relay : Relay T) (turn : Turn) → next_turn p now host ≡ Some turn →
    do_turns (suc most) p now (station_with host relay) ≡ (Tell turn.told (send_off now turn.host turn.frame relay) >>= do_turns most p now)
turns_go p now most host relay turn h = rw h refl

pub turns_none : {T : Type 0} (p : Params) (now most : ℕ) (host : Host) (relay : Relay T) → IsCurrentHost p now host → do_turns most p now (station_with host relay) ≡ Done (station_with host relay)
turns_none p now zero host relay h = refl
turns_none p now (suc most) host relay h = rw h refl

-- an act as it was done: what is told, and then its frame goes off
abbrev pub act_script : {T : Type 0} → ℕ → DoneAct → Host → List ℕ → Relay T → Script T (Station T)
act_script now done host left relay = Tell (told_done done) (send_off now host (cond (makes_frame done.act) (Some left) None) relay)

module _ {V T : Type 0} (tells : V → Told → V → Type 0) (tags : V → Host → List ℕ → T → V → Type 0) (hands : V → ℕ → Parcel T → V → Type 0) (fails : V → V → Type 0) where
  -- Some number of acts, no fewer than the host can do, leads to the end of all.
  pub record Turning (p : Params) (now : ℕ) (whole : Script T (Station T)) (first : V) (host : Host) (relay : Relay T) (here : V) : Type 0 where
    pub most : ℕ
    pub enough : work p now host ≤ most
    pub leads : Leads tells tags hands fails whole first (do_turns most p now (station_with host relay)) here

  module _ (p : Params) (now : ℕ) (whole : Script T (Station T)) (first here : V) (host new : Host) (relay : Relay T) (done : DoneAct) (left : List ℕ) (falls : work p now new < work p now host)
      (next : Turn) (is_next : next_turn p now host ≡ Some next) (told : next.told ≡ told_done done) (made : next.frame ≡ cond (makes_frame done.act) (Some left) None) (host_is : next.host ≡ new) where
    same_script : Tell next.told (send_off now next.host next.frame relay) ≡ act_script now done new left relay
    same_script = rw (told, made, host_is) refl

    leads_on : (most : ℕ) → Leads tells tags hands fails whole first (do_turns (suc most) p now (station_with host relay)) here → Leads tells tags hands fails whole first (act_script now done new left relay >>= do_turns most p now) here
    leads_on most leads =
        subst (λ (s : Script T (Station T)). Leads tells tags hands fails whole first (s >>= do_turns most p now) here) same_script
        (subst (λ (s : Script T (Station T)). Leads tells tags hands fails whole first s here) (turns_go p now most host relay next is_next) leads)

    on_by : (most : ℕ) (rest : Relay T) (m : V) → work p now host ≤ most → Leads tells tags hands fails whole first (do_turns most p now (station_with host relay)) here →
        Plays tells tags hands (act_script now done new left relay) here m (station_with new rest) → Turning p now whole first new rest m
    on_by zero rest m enough leads played = absurd (omega arith)
    on_by (suc most) rest m enough leads played = record {
      most = most;
      enough = omega arith;
      leads = leads_after tells tags hands fails whole first (act_script now done new left relay) (do_turns most p now) here m (station_with new rest) (leads_on most leads) played;
    }

    pub turning_on : (rest : Relay T) (m : V) → Turning p now whole first host relay here → Plays tells tags hands (act_script now done new left relay) here m (station_with new rest) → Turning p now whole first new rest m
    turning_on rest m t played = on_by t.most rest m t.enough t.leads played

    stops_by : (most : ℕ) (w : V) → work p now host ≤ most → Leads tells tags hands fails whole first (do_turns most p now (station_with host relay)) here →
        Stops tells tags hands fails (act_script now done new left relay) here w → Stops tells tags hands fails whole first w
    stops_by zero w enough leads stopped = absurd (omega arith)
    stops_by (suc most) w enough leads stopped =
        let on = leads_on most leads in
        on.stops w (stops_within tells tags hands fails (act_script now done new left relay) (do_turns most p now) here w stopped)

    pub turning_stops : (w : V) → Turning p now whole first host relay here → Stops tells tags hands fails (act_script now done new left relay) here w → Stops tells tags hands fails whole first w
    turning_stops w t stopped = stops_by t.most w t.enough t.leads stopped

-- THE LOOP OVER THE ACTS, of a station whose host is at its latest moment.
module _ {V T : Type 0} (tells : V → Told → V → Type 0) (tags : ℕ → V → Host → List ℕ → T → V → Type 0) (hands : V → ℕ → Parcel T → V → Type 0) (fails : V → V → Type 0) where
  -- before each act: what is left to do leads to the end of all
  pub record Looping (first : StationValue T) (begin : V) (host : HostValue) (then : ℕ) (relay : Relay T) (here : V) : Type 0 where
    pub turning : Turning tells (tags first.latest) hands fails first.rules first.latest (do_turns (work first.rules first.latest first.state.host) first.rules first.latest first.state) begin host.state relay here
    pub rules : host.rules ≡ first.rules
    pub now : then ≡ first.latest
    pub me : host.state.me ≡ first.state.host.me
    pub latest : host.latest ≤ then
    pub others : relay ≡ with_outs first.state.relay relay.outs

  pub loop_starts : (first : StationValue T) (begin : V) (host : HostValue) (then : ℕ) (spent : Bool) (relay : Relay T) →
      record { rules = host.rules; latest = then; spent = spent; state = station_with host.state relay } ≡ first → host.latest ≤ then → Looping first begin host then relay begin
  loop_starts first begin host then spent relay seen latest =
      subst (λ (s : StationValue T). Looping s begin host then relay begin) seen
      record {
        turning = record {
          most = work host.rules then host.state;
          enough = omega arith;
          leads = leads_here tells (tags then) hands fails (do_turns (work host.rules then host.state) host.rules then (station_with host.state relay)) begin;
        };
        rules = refl;
        now = refl;
        me = refl;
        latest = latest;
        others = refl;
      }

  pub loop_past : (first : StationValue T) (begin here : V) (host lent : HostValue) (then : ℕ) (relay : Relay T) → Looping first begin host then relay here → lent ≡ host → lent.latest ≤ then
  loop_past first begin here host lent then relay loop lends = subst (λ (h : HostValue). h.latest ≤ then) (sym lends) loop.latest

  -- what a call of next left, which was lent the host at that moment
  module _ (first : StationValue T) (begin here : V) (host lent new : HostValue) (then : ℕ) (relay : Relay T) (loop : Looping first begin host then relay here) (lends : lent ≡ host)
      (after : new ≡ record { rules = lent.rules; latest = then; state = host_after lent.state (next_turn lent.rules then lent.state) }) where
    by_first : (fact : Params → ℕ → Host → Type 0) → fact lent.rules then lent.state → fact first.rules first.latest host.state
    by_first fact h =
        subst (λ (n : ℕ). fact first.rules n host.state) loop.now
        (subst (λ (p : Params). fact p then host.state) loop.rules
        (subst (λ (v : HostValue). fact v.rules then v.state) lends h))

    state_is : new.state ≡ host_after host.state (next_turn first.rules first.latest host.state)
    state_is = by_first (λ p now h. new.state ≡ host_after h (next_turn p now h)) (ap (λ (h : HostValue). h.state) after)

    rules_is : new.rules ≡ first.rules
    rules_is = ap (λ (h : HostValue). h.rules) after ∙ ap (λ (h : HostValue). h.rules) lends ∙ loop.rules

    me_is : new.state.me ≡ first.state.host.me
    me_is = ap (λ (h : Host). h.me) state_is ∙ next_me first.rules first.latest host.state ∙ loop.me

    pub loop_latest : new.latest ≤ then
    loop_latest = subst (λ (h : HostValue). h.latest ≤ then) (sym after) (omega arith)

    -- the station with a relay of which the queues alone changed
    pub loop_stays : (spent : Bool) (rest : Relay T) → rest ≡ with_outs first.state.relay rest.outs → Stays first (record { rules = new.rules; latest = then; spent = spent; state = station_with new.state rest })
    loop_stays spent rest others = record { rules = rules_is; latest = loop.now; me = me_is; links = others }

    -- no act was due
    module _ (none : None ≡ option_map (λ (t : Turn). t.told) (next_turn lent.rules then lent.state)) where
      not_next : next_turn first.rules first.latest host.state ≡ None
      not_next = none_mapped (λ (t : Turn). t.told) (next_turn first.rules first.latest host.state) (sym (by_first (λ p now h. None ≡ option_map (λ (t : Turn). t.told) (next_turn p now h)) none))

      same_state : new.state ≡ host.state
      same_state = state_is ∙ ap (host_after host.state) not_next

      current : IsCurrentHost first.rules first.latest host.state
      current = current_of first.rules first.latest host.state (by_first (λ p now h. None ≡ option_map (λ (t : Turn). t.told) (next_turn p now h)) none)

      pub loop_current : IsCurrentHost new.rules then new.state
      loop_current =
          subst (λ (p : Params). IsCurrentHost p then new.state) (sym rules_is)
          (subst (λ (n : ℕ). IsCurrentHost first.rules n new.state) (sym loop.now)
          (subst (λ (h : Host). IsCurrentHost first.rules first.latest h) (sym same_state) current))

      pub loop_ends : Plays tells (tags first.latest) hands (do_turns (work first.rules first.latest first.state.host) first.rules first.latest first.state) begin here (station_with new.state relay)
      loop_ends =
          let t = loop.turning in
          t.leads.plays here (station_with new.state relay)
          (subst (λ (s : Script T (Station T)). Plays tells (tags first.latest) hands s here here (station_with new.state relay)) (sym (turns_none first.rules first.latest t.most host.state relay current))
          (refl, ap (λ (h : Host). station_with h relay) (sym same_state)))

    -- an act was done, and told
    module _ (done : DoneAct) (was left : List ℕ) (turn : Some (told_done done) ≡ option_map (λ (t : Turn). t.told) (next_turn lent.rules then lent.state)) (frame : left ≡ unwrap_or (frame_made (next_turn lent.rules then lent.state)) was)
        (falls : work lent.rules then new.state < work lent.rules then lent.state) where
      t : Turned first.rules first.latest host.state new.state done was left
          (by_first (λ p now h. Some (told_done done) ≡ option_map (λ (t : Turn). t.told) (next_turn p now h)) turn)
          (by_first (λ p now h. left ≡ unwrap_or (frame_made (next_turn p now h)) was) frame) state_is
      t = turned first.rules first.latest host.state new.state done was left _ _ _

      pub loop_falls : work first.rules first.latest new.state < work first.rules first.latest host.state
      loop_falls = by_first (λ p now h. work p now new.state < work p now h) falls

      played_on : (rest : Relay T) (m : V) → rest ≡ with_outs first.state.relay rest.outs → Plays tells (tags first.latest) hands (act_script first.latest done new.state left relay) here m (station_with new.state rest) → Looping first begin new then rest m
      played_on rest m others played = record {
        turning = turning_on tells (tags first.latest) hands fails first.rules first.latest _ begin here host.state new.state relay done left loop_falls t.next t.is_next t.told t.made t.host_is rest m loop.turning played;
        rules = rules_is;
        now = loop.now;
        me = me_is;
        latest = loop_latest;
        others = others;
      }

      module _ (m : V) (report : Told) (is_told : report ≡ told_done done) (tell : tells here report m) where
        told : tells here (told_done done) m
        told = subst (λ (r : Told). tells here r m) is_told tell

        pub loop_unmade : false ≡ makes_frame done.act → Looping first begin new then relay m
        loop_unmade e = played_on relay m loop.others (rw (← e) (m, told, (refl, refl)))

        -- and send_off was lent the same host, frame and relay
        module _ (made : true ≡ makes_frame done.act) (sender : HostValue) (sent : List ℕ) (queues : Relay T) (by : sender ≡ new) (sends : sent ≡ left) (on : queues ≡ relay) where
          by_left : (fact : ℕ → Host → List ℕ → Relay T → Type 0) → fact then sender.state sent queues → fact first.latest new.state left relay
          by_left fact h =
              subst (λ (n : ℕ). fact n new.state left relay) loop.now
              (subst (λ (v : HostValue). fact then v.state left relay) by
              (subst (λ (f : List ℕ). fact then sender.state f relay) sends
              (subst (λ (q : Relay T). fact then sender.state sent q) on h)))

          pub loop_reads : IfSome (frame_made (next_turn lent.rules then lent.state)) (λ octets. IsGram octets) → IsGram sent
          loop_reads reads = subst IsGram (sym sends) (reads_made lent.rules then lent.state new.state done was left turn frame (ap (λ (h : HostValue). h.state) after) reads (sym made))

          relay_on : (rest : Relay T) → rest ≡ with_outs queues rest.outs → rest ≡ with_outs first.state.relay rest.outs
          relay_on rest others = kept first.state.relay relay rest _ (subst (λ (q : Relay T). rest ≡ with_outs q rest.outs) on others) loop.others

          pub loop_made : (w : V) (rest : Relay T) → rest ≡ with_outs queues rest.outs → Plays tells (tags then) hands (send_off then sender.state (Some sent) queues) m w (station_with sender.state rest) → Looping first begin new then rest w
          loop_made w rest others played =
              let moved = by_left (λ n h f q. Plays tells (tags n) hands (send_off n h (Some f) q) m w (station_with h rest)) played in
              played_on rest w (relay_on rest others) (rw (← made) (m, told, moved))

          pub loop_stops : (w : V) → Stops tells (tags then) hands fails (send_off then sender.state (Some sent) queues) m w →
              Stops tells (tags first.latest) hands fails (do_turns (work first.rules first.latest first.state.host) first.rules first.latest first.state) begin w
          loop_stops w stopped =
              let moved = by_left (λ n h f q. Stops tells (tags n) hands fails (send_off n h (Some f) q) m w) stopped in
              turning_stops tells (tags first.latest) hands fails first.rules first.latest _ begin here host.state new.state relay done left loop_falls t.next t.is_next t.told t.made t.host_is w loop.turning (rw (← made) (inr (m, told, moved)))

          pub loop_stays_then : (spent : Bool) (rest : Relay T) → rest ≡ with_outs queues rest.outs → Stays first (record { rules = new.rules; latest = then; spent = spent; state = station_with new.state rest })
          loop_stays_then spent rest others = loop_stays spent rest (relay_on rest others)
