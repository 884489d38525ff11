-- A relay: a queue for each out link, and the routes. A packet pays with its life for its time in a queue, and for the link that it came over. Moments are readings of the station's clock.
use Rattle.std.specs.Prelude.{ℕ, ◌+◌, ◌-◌, ◌==◌, List, [], ◌∷◌, ◌++◌, map, length, Option, Some, None, nat_lt, nat_le, if◌then◌else◌}
use Rattle.dt_layout.specs.Carried.{life_of, to_of, lowered}
use Rattle.dt_world_model.specs.declared.links.Entered.{Entered}
use Rattle.dt_world_model.specs.declared.links.Entered.TheVariants.{Queued, NoRoute, Full}
use Rattle.dt_world_model.specs.declared.links.OutLink.{OutLink}
use Rattle.dt_world_model.specs.declared.links.InLink.{InLink}
use Rattle.dt_world_model.specs.declared.links.Route.{Route}
use Rattle.dt_world_model.specs.Tables.{earliest}

-- a packet as a value: its octets, and what is written on it
pub record Parcel (T : Type 0) : Type 0 where
  pub octets : List ℕ
  pub tag : T

-- a packet that waits, since a moment
pub record Waiting (T : Type 0) : Type 0 where
  pub parcel : Parcel T
  pub since : ℕ

-- the queue of an out link, with its pace and the moment when a packet left last, or none before the first
pub record Out (T : Type 0) : Type 0 where
  pub link : ℕ
  pub pace : ℕ
  pub waits : List (Waiting T)
  pub last : Option ℕ

pub record Relay (T : Type 0) : Type 0 where
  pub outs : List (Out T)
  pub ins : List InLink
  pub routes : List Route

-- the same packet with less life
abbrev pub lower_parcel : {T : Type 0} → ℕ → Parcel T → Parcel T
lower_parcel by parcel = record { octets = lowered by parcel.octets; tag = parcel.tag }

-- A CHANGE OF ONE QUEUE: what it answers, and the queues after it. A link that isn't there changes nothing.
abbrev pub on_link : {A T : Type 0} → ℕ → A → (Out T → A × Out T) → List (Out T) → A × List (Out T)
on_link link otherwise change [] = (otherwise, [])
on_link link otherwise change (out ∷ outs) =
    if out.link == link then ((change out).0, (change out).1 ∷ outs)
    else ((on_link link otherwise change outs).0, out ∷ (on_link link otherwise change outs).1)

abbrev pub with_outs : {T : Type 0} → Relay T → List (Out T) → Relay T
with_outs relay outs = record { outs = outs; ins = relay.ins; routes = relay.routes }

-- A PACKET ENTERS: it goes to the end of the queue of the link that the route to its node names. First the route is tested, then the room. What isn't queued is dropped.
-- how many packets may wait on a link
abbrev pub most_on_link : ℕ
most_on_link = 64

abbrev pub with_waits : {T : Type 0} → Out T → List (Waiting T) → Option ℕ → Out T
with_waits out waits last = record { link = out.link; pace = out.pace; waits = waits; last = last }

abbrev pub push : {T : Type 0} → Parcel T → ℕ → Out T → Entered × Out T
push parcel now out =
    if nat_lt (length out.waits) most_on_link then (Queued out.link, with_waits out (out.waits ++ (record { parcel = parcel; since = now }) ∷ []) out.last)
    else (Full out.link, out)

abbrev pub route_to : ℕ → List Route → Option ℕ
route_to to [] = None
route_to to (route ∷ routes) = if route.to == to then Some route.link else route_to to routes

abbrev pub enter_by : {T : Type 0} → Option ℕ → Parcel T → ℕ → Relay T → Entered × Relay T
enter_by None parcel now relay = (NoRoute (to_of parcel.octets), relay)
enter_by (Some link) parcel now relay =
    let r = on_link link (NoRoute (to_of parcel.octets)) (push parcel now) relay.outs in
    (r.0, with_outs relay r.1)

abbrev pub enter : {T : Type 0} → Parcel T → ℕ → Relay T → Entered × Relay T
enter parcel now relay = enter_by (route_to (to_of parcel.octets) relay.routes) parcel now relay

-- A PACKET LEAVES a queue, the first that waits. Nothing does where a packet has left and the link still keeps its pace. What hasn't the life for its charge leaves as nothing.
pub data Left (T : Type 0) : Type 0 where
  Goes : Parcel T → Left T
  Expired : Left T

-- what a packet pays for its time in the queue: that time, and one millisecond more
abbrev pub time_charge : ℕ → ℕ → ℕ
time_charge now since = now - since + 1

abbrev pub left_of : {T : Type 0} → ℕ → Waiting T → Left T
left_of now w = let charge = time_charge now w.since in if nat_le (life_of w.parcel.octets) charge then Expired else Goes (lower_parcel charge w.parcel)

-- the last moment out, after it
abbrev pub last_out : {T : Type 0} → ℕ → Option ℕ → Left T → Option ℕ
last_out now last (Goes parcel) = Some now
last_out now last Expired = last

-- the moment from which on the next may leave
abbrev pub may_leave_from : ℕ → Option ℕ → ℕ
may_leave_from pace None = 0
may_leave_from pace (Some last) = last + pace

abbrev pub leave_first : {T : Type 0} → ℕ → Out T → List (Waiting T) → Option (Left T) × Out T
leave_first now out [] = (None, out)
leave_first now out (w ∷ ws) =
    if nat_lt now (may_leave_from out.pace out.last) then (None, out)
    else (Some (left_of now w), with_waits out ws (last_out now out.last (left_of now w)))

abbrev pub leave : {T : Type 0} → ℕ → Out T → Option (Left T) × Out T
leave now out = leave_first now out out.waits

-- A PACKET IS ADMITTED on an in link: lowered by the link's charge, or not at all where it hasn't the life.
-- a link that isn't there charges nothing
abbrev pub charge_of : ℕ → List InLink → ℕ
charge_of link [] = 0
charge_of link (i ∷ is) = if i.link == link then i.charge else charge_of link is

abbrev pub admit_for : {T : Type 0} → ℕ → Parcel T → Option (Parcel T)
admit_for charge parcel = if nat_le (life_of parcel.octets) charge then None else Some (lower_parcel charge parcel)

abbrev pub admit : {T : Type 0} → ℕ → Parcel T → Relay T → Option (Parcel T)
admit link parcel relay = admit_for (charge_of link relay.ins) parcel

-- A RELAY BEGINS, or begins anew after a restart: nothing waits, and nothing has left.
abbrev pub empty_out : {T : Type 0} → ℕ → ℕ → Out T
empty_out link pace = record { link = link; pace = pace; waits = []; last = None }

abbrev pub new_relay : {T : Type 0} → List OutLink → List InLink → List Route → Relay T
new_relay outs ins routes = record { outs = map (λ o. empty_out o.link o.pace) outs; ins = ins; routes = routes }

abbrev pub emptied : {T : Type 0} → Relay T → Relay T
emptied relay = with_outs relay (map (λ out. empty_out out.link out.pace) relay.outs)

-- THE WAKE: the least moment at which a packet may leave some link on which one waits.
abbrev pub out_wake : {T : Type 0} → Out T → List (Waiting T) → Option ℕ
out_wake out [] = None
out_wake out (w ∷ ws) = Some (may_leave_from out.pace out.last)

abbrev pub relay_wake : {T : Type 0} → List (Out T) → Option ℕ
relay_wake outs = earliest (λ out. out_wake out out.waits) outs
