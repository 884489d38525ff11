-- The shelf rule, step by step.
use Rattle.std.proofs.Common.{◌≡◌, ◌∙◌, ◌<◌, ◌≤◌, ◌∷◌, [], Bool, List, Option, Some, None, Result, Ok, ap, arith, length, refl, subst, suc, sym, zero, ℕ}
use Rattle.dt_units.specs.declared.endpoints.Flow.{Flow}
use Rattle.dt_units.specs.declared.parameters.Params.{Params}
use Rattle.dt_edges.specs.Wires.{Datagram}
use Rattle.dt_reports.specs.Told.{Told}
use Rattle.dt_reports.specs.declared.reports.Report.TheVariants as report
use Rattle.dt_world_model.specs.Host.{Host}
use Rattle.dt_world_model.specs.Relay.{Parcel}
use Rattle.dt_world_model.specs.Script.{Concludes, Done, Plays, Script, Stops, ◌>>=◌}
use Rattle.dt_world_model.specs.Station.{Arrive, Station, station_event}
use Rattle.dt_station.proofs.Playing.{Leads, ends_after, ends_with, leads_after, leads_tell, stops_within}
use Rattle.dt_shelf.specs.declared.taken.Taken.{Taken}
use Rattle.dt_shelf.specs.declared.taken.Taken.TheVariants as taken
use Rattle.dt_shelf.specs.Shelves.{Held, Shelf, held_packet, hold, take_held}
use Rattle.dt_shelf.proofs.Keeping.{take_falls}
use Rattle.dt_turn.specs.declared.packet_answers.PacketAnswer.{PacketAnswer}
use Rattle.dt_turn.specs.declared.packet_answers.PacketAnswer.TheVariants as heard
use Rattle.dt_turn.specs.Hearing.{heard_in}
use Rattle.dt_turn.specs.Shelving.{Round, arrive, datagram, early_number, fetch, fetch_on, fetch_turns, first_round, hold_if, inside, plain, round, round_with, rounds, told_held, use_shelf}

-- WHAT WAITS FOR A NUMBER
module _ (flow : Flow) (number now : ℕ) where
  on_pair : (again : Shelf → Script (Unit {0}) (Option Datagram × Shelf)) (shelf after : Shelf) (t : Option Taken) → t ≡ (take_held flow number now shelf).0 → after ≡ (take_held flow number now shelf).1 → fetch_on again flow number (take_held flow number now shelf) ≡ fetch_on again flow number (t, after)
  on_pair again shelf after t e left = sym (ap (λ (t : Option Taken). fetch_on again flow number (t, after)) e ∙ ap (λ (s : Shelf). fetch_on again flow number ((take_held flow number now shelf).0, s)) left)

  -- as many turns as packets are held are enough for one that is taken
  pub one_more : (most : ℕ) (shelf after : Shelf) (t : Taken) → length shelf.held ≤ most → Some t ≡ (take_held flow number now shelf).0 → after ≡ (take_held flow number now shelf).1 → (rest : ℕ) × (length after.held ≤ rest) × (fetch_turns most flow number now shelf ≡ fetch_on (fetch_turns rest flow number now) flow number (Some t, after))
  one_more zero shelf after t few e left = let less = take_falls flow number now shelf after t e left in absurd (omega (arith, few, less))
  one_more (suc rest) shelf after t few e left = let less = take_falls flow number now shelf after t e left in (rest, omega (arith, few, less), on_pair (fetch_turns rest flow number now) shelf after (Some t) e left)

  none_held : (room : ℕ) (hs : List Held) (after : Shelf) → length hs ≤ 0 → (let shelf : Shelf = record { room = room; held = hs } in after ≡ (take_held flow number now shelf).1 → fetch_turns zero flow number now shelf ≡ Done (None, after))
  none_held room [] after few left = ap (λ (s : Shelf). let script : Script (Unit {0}) (Option Datagram × Shelf) = Done (None, s) in script) (sym left)
  none_held room (x ∷ hs) after few left = absurd (omega (arith, few))

  pub no_more : (most : ℕ) (shelf after : Shelf) → length shelf.held ≤ most → None ≡ (take_held flow number now shelf).0 → after ≡ (take_held flow number now shelf).1 → fetch_turns most flow number now shelf ≡ Done (None, after)
  no_more zero shelf after few e left = none_held shelf.room shelf.held after few left
  no_more (suc rest) shelf after few e left = on_pair (fetch_turns rest flow number now) shelf after None e left

-- ROUND AFTER ROUND
pub rounds_end : (most : ℕ) (p : Params) (now : ℕ) (r : Round) → r.next ≡ None → rounds most p now r ≡ Done r
rounds_end zero p now r e = refl
rounds_end (suc most) p now r e = rw e refl

pub rounds_next : (most : ℕ) (p : Params) (now : ℕ) (r : Round) (d : Datagram) → r.next ≡ Some d → rounds (suc most) p now r ≡ (round p now d r.station r.shelf >>= rounds most p now)
rounds_next most p now r d e = rw e refl

-- BEFORE A VISITOR
module _ {V : Type 0} (tells : V → Told → V → Type 0) (tags : V → Host → List ℕ → Unit {0} → V → Type 0) (hands : V → ℕ → Parcel (Unit {0}) → V → Type 0) (fails : V → V → Type 0) where
  pub hold_plays : (now : ℕ) (d : Datagram) (flow : Flow) (number : ℕ) (told : Option ℕ) (shelf after : Shelf) (room : Bool) (v w : V) → told ≡ Some number → room ≡ (hold (held_packet d.link flow number d.octets now) shelf).0 → after ≡ (hold (held_packet d.link flow number d.octets now) shelf).1 → tells v (told_held flow number room) w → Plays tells tags hands (hold_if now d flow told shelf) v w after
  hold_plays now d flow number told shelf after room v w is answer left h =
      let there = subst (λ (b : Bool). tells v (told_held flow number b) w) answer h in
      subst (λ (n : Option ℕ). Plays tells tags hands (hold_if now d flow n shelf) v w after) (sym is)
      (subst (λ (s : Shelf). Plays tells tags hands (hold_if now d flow (Some number) shelf) v w s) (sym left) (w, there, (refl, refl)))

  module _ (whole : Script (Unit {0}) (Option Datagram × Shelf)) (first : V) (flow : Flow) (number now most : ℕ) (shelf after : Shelf) (here : V) (few : length shelf.held ≤ most) (leads : Leads tells tags hands fails whole first (fetch_turns most flow number now shelf) here) (left : after ≡ (take_held flow number now shelf).1) where
    pub stale_goes : (there : V) → Some taken.Stale ≡ (take_held flow number now shelf).0 → tells here (report.Stale flow number) there → (rest : ℕ) × (length after.held ≤ rest) × Leads tells tags hands fails whole first (fetch_turns rest flow number now after) there
    stale_goes there e h =
        let m = one_more flow number now most shelf after taken.Stale few e left in
        (m.0, m.1, leads_tell tells tags hands fails whole (fetch_turns most flow number now shelf) (fetch_turns m.0 flow number now after) first here there (report.Stale flow number) leads m.2 h)

    again_goes : (there : V) (link : ℕ) (octets : List ℕ) → Some (taken.Again link octets) ≡ (take_held flow number now shelf).0 → tells here (report.Again flow number) there → Leads tells tags hands fails whole first (Done (Some (datagram link octets), after)) there
    again_goes there link octets e h =
        let m = one_more flow number now most shelf after (taken.Again link octets) few e left in
        leads_tell tells tags hands fails whole (fetch_turns most flow number now shelf) (Done (Some (datagram link octets), after)) first here there (report.Again flow number) leads m.2 h

    pub again_plays : (there : V) (link : ℕ) (octets : List ℕ) → Some (taken.Again link octets) ≡ (take_held flow number now shelf).0 → tells here (report.Again flow number) there → Plays tells tags hands whole first there (Some (datagram link octets), after)
    again_plays there link octets e h = (again_goes there link octets e h).plays there (Some (datagram link octets), after) (refl, refl)

    pub none_plays : None ≡ (take_held flow number now shelf).0 → Plays tells tags hands whole first here (None, after)
    none_plays e =
        leads.plays here (None, after)
        (subst (λ (s : Script (Unit {0}) (Option Datagram × Shelf)). Plays tells tags hands s here here (None, after)) (sym (no_more flow number now most shelf after few e left)) (refl, refl))

  module _ (p : Params) (now : ℕ) (d : Datagram) (station : Station (Unit {0})) (shelf : Shelf) (v : V) where
    pub round_stops : (w : V) → Stops tells tags hands fails (station_event p now (Arrive d.link (plain d.octets)) station) v w → Stops tells tags hands fails (round p now d station shelf) v w
    round_stops w h =
        let event = station_event p now (Arrive d.link (plain d.octets)) station in
        stops_within tells tags hands fails event (λ after. use_shelf now d (heard_in event heard.Nothing) after shelf) v w h

    pub round_ends : {U E : Type 0} (result : Result U E) (m w : V) (after : Station (Unit {0})) (h : PacketAnswer) (b : Round) → h ≡ heard_in (station_event p now (Arrive d.link (plain d.octets)) station) heard.Nothing → Plays tells tags hands (station_event p now (Arrive d.link (plain d.octets)) station) v m after → Concludes tells tags hands fails result (use_shelf now d h after shelf) m w b → Concludes tells tags hands fails result (round p now d station shelf) v w b
    round_ends result m w after h b is plays ends =
        let event = station_event p now (Arrive d.link (plain d.octets)) station in
        ends_after tells tags hands fails event (λ after. use_shelf now d (heard_in event heard.Nothing) after shelf) v m w after b result plays
        (subst (λ (h : PacketAnswer). Concludes tells tags hands fails result (use_shelf now d h after shelf) m w b) is ends)

  -- what is done after an answer
  pub fetched_ends : {U E : Type 0} (result : Result U E) (now : ℕ) (d : Datagram) (flow : Flow) (next : ℕ) (station : Station (Unit {0})) (shelf after : Shelf) (handed : Option Datagram) (v w : V) → Concludes tells tags hands fails result (fetch flow next now shelf) v w (handed, after) → Concludes tells tags hands fails result (use_shelf now d (heard.Accepted flow next) station shelf) v w (round_with station after handed)
  fetched_ends result now d flow next station shelf after handed v w h =
      ends_with tells tags hands fails (fetch flow next now shelf) (λ r. round_with station r.1 r.0) v w (handed, after) (round_with station after handed) result h refl

  pub held_then : (now : ℕ) (d : Datagram) (flow : Flow) (replied number : Option ℕ) (station : Station (Unit {0})) (shelf after : Shelf) (v w : V) → number ≡ early_number replied d.octets → Plays tells tags hands (hold_if now d flow number shelf) v w after → Plays tells tags hands (use_shelf now d (heard.Refused flow replied) station shelf) v w (round_with station after None)
  held_then now d flow replied number station shelf after v w early h =
      let is = subst (λ (k : Option ℕ). Plays tells tags hands (hold_if now d flow k shelf) v w after) early h in
      let done : Result (Unit {0}) (Unit {0}) = Ok tt in
      ends_with tells tags hands fails (hold_if now d flow (early_number replied d.octets) shelf) (λ s. round_with station s None) v w after (round_with station after None) done is refl

  one_left : (whole : Script (Unit {0}) Round) (first here : V) (p : Params) (now : ℕ) (d : Datagram) (station : Station (Unit {0})) (shelf : Shelf) (most : ℕ) → length shelf.held < most → Leads tells tags hands fails whole first (rounds most p now (first_round d station shelf)) here → (rest : ℕ) × (most ≡ suc rest) × Leads tells tags hands fails whole first (round p now d station shelf >>= rounds rest p now) here
  one_left whole first here p now d station shelf zero few leads = absurd (omega (arith, few))
  one_left whole first here p now d station shelf (suc rest) few leads = (rest, refl, leads)

  module _ (whole : Script (Unit {0}) Round) (first here : V) (p q : Params) (now most : ℕ) (d : Datagram) (station : Station (Unit {0})) (shelf : Shelf) (params : q ≡ p) (few : length shelf.held < most) (leads : Leads tells tags hands fails whole first (rounds most p now (first_round d station shelf)) here) where
    plays_at : (there : V) (b : Round) → Plays tells tags hands (round q now d station shelf) here there b → Plays tells tags hands (round p now d station shelf) here there b
    plays_at there b h = subst (λ (p : Params). Plays tells tags hands (round p now d station shelf) here there b) params h

    stops_at : (there : V) → Stops tells tags hands fails (round q now d station shelf) here there → Stops tells tags hands fails (round p now d station shelf) here there
    stops_at there h = subst (λ (p : Params). Stops tells tags hands fails (round p now d station shelf) here there) params h

    -- one round more is left
    some_left : (rest : ℕ) × (most ≡ suc rest) × Leads tells tags hands fails whole first (round p now d station shelf >>= rounds rest p now) here
    some_left = one_left whole first here p now d station shelf most few leads

    pub rounds_stop : (there : V) → Stops tells tags hands fails (round q now d station shelf) here there → Stops tells tags hands fails whole first there
    rounds_stop there h =
        let k = some_left in
        k.2.stops there (stops_within tells tags hands fails (round p now d station shelf) (rounds k.0 p now) here there (stops_at there h))

    pub rounds_go : (there : V) (next : Datagram) (st : Station (Unit {0})) (sh : Shelf) → length sh.held < length shelf.held → Plays tells tags hands (round q now d station shelf) here there (round_with st sh (Some next)) → (rest : ℕ) × (length sh.held < rest) × Leads tells tags hands fails whole first (rounds rest p now (first_round next st sh)) there
    rounds_go there next st sh less h =
        let k = some_left in
        let e = k.1 in
        (k.0, omega (arith, few, less, e), leads_after tells tags hands fails whole first (round p now d station shelf) (rounds k.0 p now) here there (round_with st sh (Some next)) k.2 (plays_at there (round_with st sh (Some next)) h))

    pub rounds_done : (there : V) (st : Station (Unit {0})) (sh : Shelf) → Plays tells tags hands (round q now d station shelf) here there (round_with st sh None) → Plays tells tags hands whole first there (round_with st sh None)
    rounds_done there st sh h =
        let k = some_left in
        let r = round_with st sh None in
        let l = leads_after tells tags hands fails whole first (round p now d station shelf) (rounds k.0 p now) here there r k.2 (plays_at there r h) in
        l.plays there r (subst (λ (s : Script (Unit {0}) Round). Plays tells tags hands s there there r) (sym (rounds_end k.0 p now r refl)) (refl, refl))

  -- an arrival at a node
  pub shelf_ends : {E : Type 0} (result : Result (Unit {0}) E) (p : Params) (now : ℕ) (d : Datagram) (station st : Station (Unit {0})) (held : Option Shelf) (shelf sh : Shelf) (v w : V) → held ≡ Some shelf → Concludes tells tags hands fails result (rounds (suc (length shelf.held)) p now (first_round d station shelf)) v w (round_with st sh None) → Concludes tells tags hands fails result (arrive p now d station held) v w (inside st (Some sh))
  shelf_ends result p now d station st held shelf sh v w is h =
      subst (λ (s : Option Shelf). Concludes tells tags hands fails result (arrive p now d station s) v w (inside st (Some sh))) (sym is)
      (ends_with tells tags hands fails (rounds (suc (length shelf.held)) p now (first_round d station shelf)) (λ r. inside r.station (Some r.shelf)) v w (round_with st sh None) (inside st (Some sh)) result h refl)

  pub plain_ends : {E : Type 0} (result : Result (Unit {0}) E) (p : Params) (now : ℕ) (d : Datagram) (station st : Station (Unit {0})) (held : Option Shelf) (v w : V) → held ≡ None → Concludes tells tags hands fails result (station_event p now (Arrive d.link (plain d.octets)) station) v w st → Concludes tells tags hands fails result (arrive p now d station held) v w (inside st held)
  plain_ends result p now d station st held v w is h =
      subst (λ (s : Option Shelf). Concludes tells tags hands fails result (arrive p now d station s) v w (inside st s)) (sym is)
      (ends_with tells tags hands fails (station_event p now (Arrive d.link (plain d.octets)) station) (λ after. inside after None) v w st (inside st None) result h refl)
