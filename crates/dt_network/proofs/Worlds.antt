-- Steps of the world that are not refused, and what they keep.
use Rattle.std.proofs.Common.{◌≡◌, ◌≢◌, ◌∙◌, ◌==◌, ◌+◌, ℕ, Bool, true, false, List, Option, Some, None, refl, sym, ap, subst}
use Rattle.std.proofs.lemmas.List.Elements.{All-contains}
use Rattle.dt_units.specs.declared.endpoints.Flow.{Flow}
use Rattle.dt_units.specs.Flows.{IsFlow}
use Rattle.dt_units.specs.Limits.{IsWithinLimits}
use Rattle.dt_flow_model.specs.Frames.{Mark}
use Rattle.dt_world_model.proofs.Tables.{all_look, nat_is, nat_self}
use Rattle.dt_world_model.specs.Station.{Event, Read, Send, Tick}
use Rattle.dt_world_model.specs.Tables.{look}
use Rattle.dt_world_model.specs.World.{Copy, Placed, World, view}
use Rattle.dt_world_model.specs.WorldFacts.{CanHappen, IsCopy, IsPlaced, WorldFacts}
use Rattle.dt_world_model.specs.WorldStep.{Passes, Reads, Restarts, Sends, Stepped, Ticks, WorldEvent, after_event, at_station, event_at, first_refusal, refusals, restart_at, step_unless, world_step}
use Rattle.dt_world_laws.proofs.Lifting.{lifted_fates}
use Rattle.dt_world_laws.proofs.Worlds.{GoesTo, event_keeps, possible_here, step_keeps_world}
use Rattle.dt_endpoint.proofs.Waited.{late_can_come}
use Rattle.dt_endpoint.specs.Networks.{ComesLate, late_event}
use Rattle.dt_network.specs.Beside.{IsLate, KeepsAllFates, Onward, by_event, by_late, on_link, stays}
use Rattle.std.specs.Prelude.{unwrap_or}
use Rattle.dt_reports.specs.Entries.{Entry}
use Rattle.dt_world_laws.proofs.Books.{no_placed}
use Rattle.dt_world_model.proofs.Tables.{look_write}
use Rattle.dt_world_model.specs.Relay.{lower_parcel}
use Rattle.dt_world_model.specs.Tables.{same_flow, write}
use Rattle.dt_world_model.specs.World.{placed}
use Rattle.dt_world_model.specs.WorldStep.{restarted}
use Rattle.dt_calls_laws.proofs.Calm.{others_calm, piece_gone, read_calm, restart_gone, send_steady}
use Rattle.dt_calls_laws.proofs.Sendings.{send_leaves}
use Rattle.dt_calls_laws.specs.Calm.{AllIsGone, Calm, PieceIsGone, Steady}
use Rattle.dt_calls_laws.specs.Sent.{SendLeaves}
use Rattle.dt_calls_model.specs.Heard.{tells_refusal}
use Rattle.dt_network.proofs.Late.{arrival_calm}

-- a world goes on to one that has the facts, and no fate changes
pub record Goes (w v : World) : Type 0 where
  pub onward : Onward w v
  pub facts : WorldFacts v
  pub fates : KeepsAllFates w v

fates_kept : (w v : World) → GoesTo w v → KeepsAllFates w v
fates_kept w v h f = lifted_fates w.params (view w f) (view v f) (h.1 f)

-- a step that isn't refused leads to the world after the event
steps_to : (w : World) (e : WorldEvent) (after : World) → first_refusal (refusals w e) ≡ None → (after_event w e).1 ≡ after → world_step w e ≡ Stepped (after_event w e).0 after
steps_to w e after clear same = ap (λ o. step_unless o (after_event w e)) clear ∙ ap (λ (v : World). Stepped (after_event w e).0 v) same

pub goes_by : (w : World) → IsWithinLimits w.params → WorldFacts w → (e : WorldEvent) (after : World) → CanHappen e → first_refusal (refusals w e) ≡ None → (after_event w e).1 ≡ after → Goes w after
goes_by w limits facts e after can clear same =
    let is = steps_to w e after clear same in
    let kept = step_keeps_world w limits facts e (after_event w e).0 after can is in
    record { onward = by_event e (after_event w e).0 can is stays; facts = kept.0; fates = fates_kept w after kept }

pub goes_in_time : (w : World) (by : ℕ) → IsWithinLimits w.params → WorldFacts w → Goes w (record w { now = w.now + by })
goes_in_time w by limits facts = goes_by w limits facts (Passes by) (record w { now = w.now + by }) tt refl refl

-- at a station that is there
module _ (w : World) (n : ℕ) (at : Placed) (there : look ◌==◌ n w.stations ≡ Some at) (limits : IsWithinLimits w.params) (facts : WorldFacts w) where
  pub is_named : at.station.host.me ≡ n
  is_named = (all_look ℕ Placed ◌==◌ nat_self nat_is (IsPlaced w.params w.now (view w)) n at w.stations there facts.stations).me

  pub here : (e : Event Mark) → (at_station w n e).1 ≡ (event_at w n e (Some at)).1
  here e = ap (λ (o : Option Placed). (event_at w n e o).1) there

  pub goes_by_tick : Goes w (event_at w n Tick (Some at)).1
  goes_by_tick = goes_by w limits facts (Ticks n) (event_at w n Tick (Some at)).1 tt (rw there refl) (here Tick)

  pub goes_by_send : (f : Flow) (octets : List ℕ) (begin end : Bool) → IsFlow f → f.from.0 ≡ n → (f.from.0 == f.to.0) ≡ false → Goes w (event_at w n (Send f octets begin end) (Some at)).1
  goes_by_send f octets begin end flow from other =
      let e = Send f octets begin end in
      let found : look ◌==◌ f.from.0 w.stations ≡ Some at = rw from there in
      goes_by w limits facts (Sends f octets begin end) (event_at w n e (Some at)).1 flow (rw (other, found) refl)
      (subst (λ (k : ℕ). (at_station w k e).1 ≡ (event_at w n e (Some at)).1) (sym from) (here e))

  pub goes_by_read : (f : Flow) (most : ℕ) → IsFlow f → f.to.0 ≡ n → (f.from.0 == f.to.0) ≡ false → Goes w (event_at w n (Read f most) (Some at)).1
  goes_by_read f most flow to other =
      let e = Read f most in
      let found : look ◌==◌ f.to.0 w.stations ≡ Some at = rw to there in
      goes_by w limits facts (Reads f most) (event_at w n e (Some at)).1 flow (rw (other, found) refl)
      (subst (λ (k : ℕ). (at_station w k e).1 ≡ (event_at w n e (Some at)).1) (sym to) (here e))

  pub goes_by_restart : Goes w (restart_at w n (Some at)).1
  goes_by_restart = goes_by w limits facts (Restarts n) (restart_at w n (Some at)).1 tt (rw there refl) (ap (λ (o : Option Placed). (restart_at w n o).1) there)

  -- a copy on any link there
  comes_late : (link : ℕ) (c : Copy) (waited : ℕ) → IsLate w n at link c waited → ComesLate w n at (on_link link c) waited
  comes_late link c waited late =
      let is : IsCopy w.params w.now (view w) c = All-contains (IsCopy w.params w.now (view w)) w.copies c facts.copies late.copy in
      record { there = there; copy = record { age = is.age; packet = is.packet }; below = late.below; in_time = late.in_time }

  pub goes_late : (link : ℕ) (c : Copy) (waited : ℕ) → IsLate w n at link c waited → Goes w (event_at w n (late_event (on_link link c) waited) (Some at)).1
  goes_late link c waited late =
      let e = late_event (on_link link c) waited in
      let kept = event_keeps w n at there facts limits e (possible_here w n at there facts e (late_can_come w n at (on_link link c) waited facts (comes_late link c waited late))) in
      record { onward = by_late n at link c waited late stays; facts = kept.0; fates = fates_kept w (event_at w n e (Some at)).1 kept }

  -- WHAT FLOWS TOOK and what is gone of them, after each
  pub tick_calm : (g : Flow) → Calm w (event_at w n Tick (Some at)).1 g
  tick_calm g = subst (λ (v : World). Calm w v g) (here Tick) (others_calm w limits facts (Ticks n) g tt (rw there refl) tt tt)

  pub late_calm : (link : ℕ) (c : Copy) (waited : ℕ) → IsLate w n at link c waited → (g : Flow) → Calm w (event_at w n (late_event (on_link link c) waited) (Some at)).1 g
  late_calm link c waited late g =
      let e = late_event (on_link link c) waited in
      arrival_calm w n at link (lower_parcel waited c.parcel) g there facts (event_keeps w n at there facts limits e (possible_here w n at there facts e (late_can_come w n at (on_link link c) waited facts (comes_late link c waited late))))

  at_node : (m : ℕ) (e : Event Mark) → m ≡ n → at_station w m e ≡ event_at w n e (Some at)
  at_node m e same = subst (λ (k : ℕ). at_station w k e ≡ event_at w n e (Some at)) (sym same) (ap (event_at w n e) there)

  pub send_does : (f : Flow) (octets : List ℕ) (begin end : Bool) → f.from.0 ≡ n → let r = event_at w n (Send f octets begin end) (Some at) in SendLeaves (tells_refusal r.0) f octets begin end w.ledgers r.1.ledgers
  send_does f octets begin end from =
      let found : look ◌==◌ f.from.0 w.stations ≡ Some at = rw from there in
      subst (λ (r : List Entry × World). SendLeaves (tells_refusal r.0) f octets begin end w.ledgers r.1.ledgers) (at_node f.from.0 (Send f octets begin end) from) (send_leaves w f octets begin end at found)

  pub send_is_steady : (f : Flow) (octets : List ℕ) (begin end : Bool) → IsFlow f → f.from.0 ≡ n → (g : Flow) → Steady w (event_at w n (Send f octets begin end) (Some at)).1 g
  send_is_steady f octets begin end flow from g =
      let found : look ◌==◌ f.from.0 w.stations ≡ Some at = rw from there in
      subst (λ (r : List Entry × World). Steady w r.1 g) (at_node f.from.0 (Send f octets begin end) from) (send_steady w limits facts f octets begin end at flow found g)

  pub piece_goes : (f : Flow) (most : ℕ) → IsFlow f → f.to.0 ≡ n → PieceIsGone w (event_at w n (Read f most) (Some at)).1 f most
  piece_goes f most flow to =
      let found : look ◌==◌ f.to.0 w.stations ≡ Some at = rw to there in
      subst (λ (r : List Entry × World). PieceIsGone w r.1 f most) (at_node f.to.0 (Read f most) to) (piece_gone w limits facts f most at flow found)

  pub read_is_calm : (f : Flow) (most : ℕ) → IsFlow f → f.to.0 ≡ n → (g : Flow) → same_flow f g ≡ false → Calm w (event_at w n (Read f most) (Some at)).1 g
  read_is_calm f most flow to g other =
      let found : look ◌==◌ f.to.0 w.stations ≡ Some at = rw to there in
      subst (λ (r : List Entry × World). Calm w r.1 g) (at_node f.to.0 (Read f most) to) (read_calm w limits facts f most at flow found g other)

  restarts : (after_event w (Restarts n)).1 ≡ (restart_at w n (Some at)).1
  restarts = ap (λ (o : Option Placed). (restart_at w n o).1) there

  pub restart_loses : (g : Flow) → n ≡ g.to.0 → AllIsGone w (restart_at w n (Some at)).1 g
  restart_loses g is = subst (λ (v : World). AllIsGone w v g) restarts (restart_gone w limits facts n at g there is)

  pub restart_calm : (g : Flow) → (n == g.to.0) ≡ false → Calm w (restart_at w n (Some at)).1 g
  restart_calm g other =
      let apart : n ≢ g.to.0 = λ same. let yes : (n == g.to.0) ≡ true = rw same (nat_self g.to.0) in let no : true ≡ false = sym yes ∙ other in absurd cc in
      subst (λ (v : World). Calm w v g) restarts (others_calm w limits facts (Restarts n) g tt (rw there refl) tt apart)

  pub life_again : (m : ℕ) → n ≡ m → (placed (restart_at w n (Some at)).1 m).life ≡ (placed w m).life + 1
  life_again m is =
      let new = restarted w.params w.now at in
      let after : look ◌==◌ n (write ◌==◌ n new w.stations) ≡ Some new = look_write ℕ Placed ◌==◌ nat_self nat_is n new w.stations in
      let life : (placed (restart_at w n (Some at)).1 n).life ≡ (placed w n).life + 1 =
      ap (λ (o : Option Placed). (unwrap_or o (no_placed n)).life) after ∙ sym (ap (λ (o : Option Placed). (unwrap_or o (no_placed n)).life + 1) there) in
      subst (λ (k : ℕ). (placed (restart_at w n (Some at)).1 k).life ≡ (placed w k).life + 1) is life

  pub restart_life : (g : Flow) → n ≡ g.to.0 → (placed (restart_at w n (Some at)).1 g.to.0).life ≡ (placed w g.to.0).life + 1
  restart_life g is = life_again g.to.0 is
