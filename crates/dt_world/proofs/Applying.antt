-- What an event that isn't refused leaves of a world's parts, one kind of event after the other.
use Rattle.std.proofs.Common.{ℕ, ◌+◌, ◌<◌, ◌≤◌, ◌≡◌, Bool, Bor, List, length, take, OnErr, OnOk, Result, Ok, Err, refl, sym, ap, subst, arith, rules}
use Rattle.dt_units.specs.declared.endpoints.Flow.{Flow}
use Rattle.dt_units.specs.Flows.{IsFlow}
use Rattle.dt_reports.specs.Entries.{Entry}
use Rattle.dt_flow_model.specs.Keeping.{octets_below}
use Rattle.dt_world_model.specs.Ledgers.{ledger_of}
use Rattle.dt_world_model.specs.Station.{Read, Send}
use Rattle.dt_world_model.specs.Tables.{AllEntries}
use Rattle.dt_world_model.specs.WorldFacts.{CanHappen}
use Rattle.dt_world_model.specs.WorldStep.{after_event, at_station, loss}
use Rattle.dt_notes.specs.declared.events.Event.{Event}
use Rattle.dt_notes.specs.declared.events.Event.TheVariants as event
use Rattle.dt_world.specs.declared.world_parts.WorldParts.{WorldParts}
use Rattle.dt_world.specs.Applying.{IsApplied}
use Rattle.dt_notes.specs.Moments.{most_now}
use Rattle.dt_world.specs.Outcomes.{Happens, HasHappened}
use Rattle.dt_world.specs.Stopping.{ComesAt, ComesTo, IsAtItsEnd, MayStop}
use Rattle.dt_notes.specs.Events.{MayStep, event_of, most_read}
use Rattle.dt_world.specs.Worlds.{IsStationOf, IsWhole, world_seen}
use Rattle.dt_world.proofs.Possible.{not_begun, stopped_at_once}
use Rattle.dt_world.proofs.Restarting.{pass_happened, passed_stations}
use Rattle.dt_notes.proofs.RunTables.{on_ok}

pub on_ok_any : {A E : Type 0} (P : Type 0) (r : Result A E) → P → OnOk r P
on_ok_any P (Ok a) h = h
on_ok_any P (Err e) h = tt

pub on_err_any : {A E : Type 0} (P : Type 0) (r : Result A E) → P → OnErr r P
on_err_any P (Ok a) h = tt
on_err_any P (Err e) h = h

-- what time leaves of the parts, at both ends
passed_rules : {A E : Type 0} (r : Result A E) (old new : WorldParts) (by : ℕ) → OnOk r (new ≡ record old { now = old.now + by }) → OnErr r (new ≡ old) → new.rules ≡ old.rules
passed_rules (Ok a) old new by done same = ap (λ (w : WorldParts). w.rules) done
passed_rules (Err e) old new by done same = ap (λ (w : WorldParts). w.rules) same

passed_links : {A E : Type 0} (r : Result A E) (old new : WorldParts) (by : ℕ) → OnOk r (new ≡ record old { now = old.now + by }) → OnErr r (new ≡ old) → new.links ≡ old.links
passed_links (Ok a) old new by done same = ap (λ (w : WorldParts). w.links) done
passed_links (Err e) old new by done same = ap (λ (w : WorldParts). w.links) same

below_its_end : (taken count : ℕ) → taken + count < octets_below → octets_below ≤ taken + count → ⊥
below_its_end taken count few many = omega arith

length_front : (n : ℕ) (xs : List ℕ) → n ≤ length xs → length (take n xs) ≡ n
length_front n xs h = search rules

module _ {L U E : Type 0} (tells : L → Entry → L → Type 0) (result : Result U E) (old new : WorldParts) (whole : IsWhole old) (what : Event) (before after : L) where
  -- the event by its variant
  by_event : (e : Event) → what ≡ e → IsApplied tells result old (event_of e) before after new → IsApplied tells result old (event_of what) before after new
  by_event e is h = subst (λ (x : Event). IsApplied tells result old (event_of x) before after new) (sym is) h

  -- WHAT A STATION DID: the moment stays
  module _ (e : Event) (is : what ≡ e) (stations : OnOk result (AllEntries (IsStationOf old.rules old.now) new.stations.entries)) (rules : new.rules ≡ old.rules) (now : new.now ≡ old.now) (links : new.links ≡ old.links) where
    pub at_a_station : CanHappen (event_of e) → OnOk result (IsAtItsEnd (world_seen old) (event_of e) → ⊥) → OnErr result (MayStop (world_seen old) (event_of e)) →
        Happens tells result (world_seen old) (ComesTo (world_seen old) (event_of e)) (after_event (world_seen old) (event_of e)) before after (world_seen new) → IsApplied tells result old (event_of what) before after new
    at_a_station can within may happens =
        by_event e is record {
          happens = happens;
          stations = rw (rules, now) stations;
          moment = on_ok_any (new.now ≤ most_now) result (rw now whole.moment);
          can = can;
          within = within;
          may = may;
          rules = rules;
          links = links;
        }

  -- octets were sent that can be counted
  pub sent : (f : Flow) (octets : Bor (List ℕ)) (begin end : Bool) → what ≡ event.Send f octets begin end → length (ledger_of (world_seen old).ledgers f).taken + length octets.now < octets_below → IsFlow f →
      OnOk result (AllEntries (IsStationOf old.rules old.now) new.stations.entries) → new.rules ≡ old.rules → new.now ≡ old.now → new.links ≡ old.links →
      Happens tells result (world_seen old) (ComesAt (world_seen old) f.from.0 (Send f octets.now begin end)) (at_station (world_seen old) f.from.0 (Send f octets.now begin end)) before after (world_seen new) → IsApplied tells result old (event_of what) before after new
  sent f octets begin end is few flow stations rules now links happens =
      at_a_station (event.Send f octets begin end) is stations rules now links flow (on_ok_any _ result (below_its_end (length (ledger_of (world_seen old).ledgers f).taken) (length octets.now) few)) (on_err_any (Unit {0}) result tt) happens

  -- octets were read, into a part of the room
  pub was_read : (f : Flow) (max : ℕ) (room : List ℕ) → what ≡ event.Read f max → MayStep (event_of what) → length room ≡ most_read → IsFlow f →
      OnOk result (AllEntries (IsStationOf old.rules old.now) new.stations.entries) → new.rules ≡ old.rules → new.now ≡ old.now → new.links ≡ old.links →
      Happens tells result (world_seen old) (ComesAt (world_seen old) f.to.0 (Read f (length (take max room)))) (at_station (world_seen old) f.to.0 (Read f (length (take max room)))) before after (world_seen new) → IsApplied tells result old (event_of what) before after new
  was_read f max room is may whole_room flow stations rules now links happens =
      let asked : (1 ≤ max) × (max ≤ most_read) = subst (λ (x : Event). MayStep (event_of x)) is may in
      at_a_station (event.Read f max) is stations rules now links flow (on_ok_any (⊥ → ⊥) result (λ x. x)) (on_err_any (Unit {0}) result tt)
      (subst (λ (k : ℕ). Happens tells result (world_seen old) (ComesAt (world_seen old) f.to.0 (Read f k)) (at_station (world_seen old) f.to.0 (Read f k)) before after (world_seen new)) (length_front max room (omega (arith, asked.1, whole_room))) happens)

-- TIME PASSED, or its moment would have passed its end
pub passed : {L U E : Type 0} (tells : L → Entry → L → Type 0) (result : Result U E) (old new : WorldParts) (whole : IsWhole old) (what : Event) (v : L) (by : ℕ) → what ≡ event.Pass by → OnOk result (new ≡ record old { now = old.now + by }) → OnErr result (new ≡ old) →
    OnOk result (new.now ≤ most_now) → OnOk result (most_now < old.now + by → ⊥) → OnErr result (most_now < old.now + by) → IsApplied tells result old (event_of what) v v new
passed tells result old new whole what v by is done same moment within end =
    by_event tells result old new whole what v v (event.Pass by) is record {
      happens = pass_happened tells result old new whole by by (event.Pass by) v refl refl done same;
      stations = on_ok _ _ result (passed_stations old new by whole) done;
      moment = moment;
      can = tt;
      within = within;
      may = end;
      rules = passed_rules result old new by done same;
      links = passed_links result old new by done same;
    }

-- OCTETS WEREN'T SENT that can't be counted
pub unsent : {L U E : Type 0} (tells : L → Entry → L → Type 0) (fault : E) (old : WorldParts) (whole : IsWhole old) (what : Event) (v : L) (f : Flow) (octets : Bor (List ℕ)) (begin end : Bool) → what ≡ event.Send f octets begin end → IsFlow f →
    IsApplied tells (let r : Result U E = Err fault in r) old (event_of what) v v old
unsent tells fault old whole what v f octets begin end is flow =
    by_event tells (Err fault) old old whole what v v (event.Send f octets begin end) is record {
      happens = stopped_at_once old whole tells (ComesAt (world_seen old) f.from.0 (Send f octets.now begin end)) (at_station (world_seen old) f.from.0 (Send f octets.now begin end)) v (world_seen old) (not_begun old whole f.from.0 (Send f octets.now begin end)) refl;
      stations = tt;
      moment = tt;
      can = flow;
      within = tt;
      may = tt;
      rules = refl;
      links = refl;
    }

-- A COPY WAS LOST
pub lost : {L U E : Type 0} (tells : L → Entry → L → Type 0) (done : U) (old new : WorldParts) (whole : IsWhole old) (what : Event) (before after : L) (copy : ℕ) → what ≡ event.Lose copy → new.stations ≡ old.stations → new.rules ≡ old.rules → new.now ≡ old.now → new.links ≡ old.links →
    HasHappened tells (loss (world_seen old) copy) before after (world_seen new) → IsApplied tells (let r : Result U E = Ok done in r) old (event_of what) before after new
lost tells done old new whole what before after copy is same rules now links happened =
    at_a_station tells (Ok done) old new whole what before after (event.Lose copy) is (rw same whole.stations) rules now links tt (λ x. x) tt happened
