-- A station's event, put together from its parts.
use Rattle.std.proofs.Common.{◌≡◌, ℕ, ◌+◌, ◌<◌, List, map, length, Result, Ok, Err, refl, subst, sym, ◌∙◌}
use Rattle.std.specs.Prelude.{OnOk}
use Rattle.dt_units.specs.declared.parameters.Params.{Params}
use Rattle.dt_units.specs.declared.endpoints.Flow.{Flow}
use Rattle.dt_reports.specs.Told.{Told}
use Rattle.dt_flow_model.specs.Acting.{record_for}
use Rattle.dt_flow_model.specs.Keeping.{octets_below, taken_by}
use Rattle.dt_relay.specs.Places.{link_of}
use Rattle.dt_world_model.specs.Host.{Host, sender_at, work}
use Rattle.dt_world_model.specs.Relay.{Parcel, Relay, with_outs}
use Rattle.dt_world_model.specs.Script.{Concludes, Plays, Stops, ◌>>=◌}
use Rattle.dt_world_model.specs.Station.{Event, Station, do_turns, flush_links, happen, settle_station, station_event, station_with}
use Rattle.dt_station.specs.declared.events.LocalEvent.{LocalEvent}
use Rattle.dt_station.specs.declared.events.LocalEvent.TheVariants as local
use Rattle.dt_station.specs.Events.{IsBufferNow, LeavesBufferHere, MayHappenHere, MayHappenHereNow, MaySend, MaySendNow, ReadsIntoHere}
use Rattle.dt_station.specs.Stations.{StationValue, Stays}
use Rattle.dt_station.proofs.Flushes.{kept}
use Rattle.dt_station.proofs.Playing.{answers_hold, ends_after, stops_after, stops_within}

module _ {V T : Type 0} (tells : V → Told → V → Type 0) (tags : V → Host → List ℕ → T → V → Type 0) (hands : V → ℕ → Parcel T → V → Type 0) (fails : V → V → Type 0) where
  pub ends_settle : {U E : Type 0} (p : Params) (now : ℕ) (host : Host) (relay flushed : Relay T) (v m w : V) (b : Station T) (result : Result U E) →
      Plays tells tags hands (flush_links now (map link_of relay.outs) relay.outs) v m flushed.outs → flushed ≡ with_outs relay flushed.outs →
      Concludes tells tags hands fails result (do_turns (work p now host) p now (station_with host flushed)) m w b → Concludes tells tags hands fails result (settle_station p now (station_with host relay)) v w b
  ends_settle p now host relay flushed v m w b result played same h =
      ends_after tells tags hands fails (flush_links now (map link_of relay.outs) relay.outs) (λ outs. do_turns (work p now host) p now (station_with host (with_outs relay outs))) v m w flushed.outs b result played
      (subst (λ (x : Relay T). Concludes tells tags hands fails result (do_turns (work p now host) p now (station_with host x)) m w b) same h)

  pub stops_settle : (p : Params) (now : ℕ) (host : Host) (relay : Relay T) (v w : V) → Stops tells tags hands fails (flush_links now (map link_of relay.outs) relay.outs) v w → Stops tells tags hands fails (settle_station p now (station_with host relay)) v w
  stops_settle p now host relay v w h =
      stops_within tells tags hands fails (flush_links now (map link_of relay.outs) relay.outs) (λ outs. do_turns (work p now host) p now (station_with host (with_outs relay outs))) v w h

  -- an event stops in its first part, in its second, or ends with its third
  module _ (p : Params) (now : ℕ) (e : Event T) (station : Station T) (first : V) where
    pub stops_first : (w : V) → Stops tells tags hands fails (settle_station p now station) first w → Stops tells tags hands fails (station_event p now e station) first w
    stops_first w h = stops_within tells tags hands fails (settle_station p now station) (λ before. happen p now e before >>= λ after. settle_station p now after) first w h

    pub stops_second : (before : Station T) (m w : V) → Plays tells tags hands (settle_station p now station) first m before → Stops tells tags hands fails (happen p now e before) m w → Stops tells tags hands fails (station_event p now e station) first w
    stops_second before m w played h =
        stops_after tells tags hands fails (settle_station p now station) (λ before. happen p now e before >>= λ after. settle_station p now after) first m w before played
        (stops_within tells tags hands fails (happen p now e before) (λ after. settle_station p now after) m w h)

    pub ends_third : {U E : Type 0} (before after : Station T) (m n w : V) (b : Station T) (result : Result U E) → Plays tells tags hands (settle_station p now station) first m before →
        Plays tells tags hands (happen p now e before) m n after → Concludes tells tags hands fails result (settle_station p now after) n w b → Concludes tells tags hands fails result (station_event p now e station) first w b
    ends_third before after m n w b result played happened h =
        ends_after tells tags hands fails (settle_station p now station) (λ before. happen p now e before >>= λ after. settle_station p now after) first m w before b result played
        (ends_after tells tags hands fails (happen p now e before) (λ after. settle_station p now after) m n w after b result happened h)

  module _ (p : Params) (now : ℕ) (station settled : Station T) (first m : V) (played : Plays tells tags hands (settle_station p now station) first m settled) where
    may_send : (flow : Flow) (count : ℕ) → settled.host.me ≡ station.host.me → MaySend p now station flow count → MaySendNow p now settled.host flow count
    may_send flow count me may = record {
      from = may.from ∙ sym me;
      to = rw me may.to;
      some = may.some;
      counted = answers_hold tells tags hands fails (λ (s : Station T). taken_by (record_for p now (sender_at s.host flow)) + count < octets_below) (settle_station p now station) first m settled may.counted played;
    }

    -- what may happen to a station may happen to it once it has settled
    pub may_now : (most : ℕ) (event : LocalEvent) → settled.host.me ≡ station.host.me → MayHappenHere p now station most event → MayHappenHereNow p now settled.host most event
    may_now most (local.Send flow sent) me may = may_send flow (length sent.octets.now) me may
    may_now most (local.Read flow) me may = may
    may_now most local.Tick me may = tt

    -- a read of the host that has settled fills the buffer as it is told of the whole event
    pub reads_now : (old new : List ℕ) (event : LocalEvent) → IsBufferNow p now settled.host event old new → ReadsIntoHere tells tags hands p now event station first old new
    reads_now old new (local.Send flow sent) h = tt
    reads_now old new (local.Read flow) h = record { settled = settled; seen = m; settles = played; filled = h }
    reads_now old new local.Tick h = tt

-- what stays in two parts of an event stays in both
pub stays_on : {T : Type 0} (a b c : StationValue T) → Stays a b → Stays b c → Stays a c
stays_on a b c before after = record {
  rules = after.rules ∙ before.rules;
  latest = after.latest ∙ before.latest;
  me = after.me ∙ before.me;
  links = kept a.state.relay b.state.relay c.state.relay _ after.links before.links;
}

-- a buffer that nothing was done to is left
pub leaves_it : (event : LocalEvent) (old : List ℕ) → LeavesBufferHere event old old
leaves_it (local.Send flow sent) old = refl
leaves_it (local.Read flow) old = tt
leaves_it local.Tick old = refl

pub leaves_now : (p : Params) (now : ℕ) (host : Host) (event : LocalEvent) (old new : List ℕ) → IsBufferNow p now host event old new → LeavesBufferHere event old new
leaves_now p now host (local.Send flow sent) old new h = h
leaves_now p now host (local.Read flow) old new h = tt
leaves_now p now host local.Tick old new h = h

-- after any answer, so at Ok
pub on_any : {A E : Type 0} (r : Result A E) (P : Type 0) → P → OnOk r P
on_any (Ok a) P h = h
on_any (Err e) P h = tt
