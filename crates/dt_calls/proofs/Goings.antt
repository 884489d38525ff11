-- What an event of the world that begins a step leaves.
use Rattle.std.proofs.Common.{◌≡◌, false, List, sym, subst}
use Rattle.dt_units.specs.declared.endpoints.Flow.{Flow}
use Rattle.dt_world_model.specs.World.{World}
use Rattle.dt_world_model.specs.WorldFacts.{CanHappen}
use Rattle.dt_world_model.specs.WorldStep.{Arrives, Loses, Passes, Reads, Restarts, Sends, Ticks, WorldEvent}
use Rattle.dt_world.specs.Outcomes.{IsDone}
use Rattle.dt_world.specs.Worlds.{WorldValue}
use Rattle.dt_calls_laws.specs.Grown.{IsNoSendOrRead}
use Rattle.dt_calls_model.specs.Calls.{Begun}
use Rattle.dt_calls_model.specs.CallStep.{flows_after}
use Rattle.dt_calls_model.specs.Reads.{happens}
use Rattle.dt_call_parts.specs.declared.dues.Due.{Due}
use Rattle.dt_call_parts.specs.declared.dues.Due.TheVariants as due
use Rattle.dt_calls.specs.declared.call_courses.CallsParts.{CallsParts}
use Rattle.dt_call_parts.specs.Dues.{IsDue, due_after_event}
use Rattle.dt_call_parts.specs.Flows.{flows_seen}
use Rattle.dt_calls.specs.Happening.{HasHappened}
use Rattle.dt_call_parts.specs.Hearing.{HeardValue, Hears, for_event}
use Rattle.dt_call_parts.specs.Kept.{IsKeptWorld}
use Rattle.dt_calls.specs.Parts.{IsWhole}
use Rattle.dt_call_parts.proofs.DuesLeft.{due_left}
use Rattle.dt_calls.proofs.Hearings.{done_happened}
use Rattle.dt_call_parts.proofs.Worlds.{happens_keeps}

-- an event that is no send and no read can happen
can_come : (e : WorldEvent) → IsNoSendOrRead e → CanHappen e
can_come (Passes by) may = tt
can_come (Sends f octets begin end) may = absurd may
can_come (Reads f most) may = absurd may
can_come (Ticks n) may = tt
can_come (Arrives copy) may = tt
can_come (Loses copy) may = tt
can_come (Restarts n) may = tt

module _ {H : Type 0} (e : WorldEvent) (p : CallsParts H) (whole : IsWhole p) (world : WorldValue) (t : HeardValue) where
  module _ (done : IsDone Hears p.world e (for_event p.heard) t world) where
    -- IT IS DONE, and all was heard
    module _ (may : IsNoSendOrRead e) (heard : t.failed ≡ false) where
      has_happened : HasHappened e p.world p.heard world t
      has_happened = done_happened e p.world world p.heard t done heard

      pub world_after : IsKeptWorld world.state
      world_after = subst IsKeptWorld (sym has_happened.world) (happens_keeps e p.world.state (can_come e may) whole.world)

      pub due_then : (flows : List (Flow × Begun)) (d : Due) → IsDue due.Nothing p.world.state (flows_seen p.flows.entries) → flows ≡ flows_after e (flows_seen p.flows.entries) → d ≡ due_after_event e flows t → IsDue d world.state flows
      due_then flows d settled named is =
          let old = flows_seen p.flows.entries in
          let one = subst (λ (h : HeardValue). IsDue (due_after_event e (flows_after e old) h) (happens e p.world.state).1 (flows_after e old)) (sym has_happened.heard_is) (due_left p.world.state whole.world old settled p.heard e may) in
          let two = subst (λ (w : World). IsDue (due_after_event e (flows_after e old) t) w (flows_after e old)) (sym has_happened.world) one in
          let three = subst (λ (fs : List (Flow × Begun)). IsDue (due_after_event e fs t) world.state fs) (sym named) two in
          subst (λ (x : Due). IsDue x world.state flows) (sym is) three
