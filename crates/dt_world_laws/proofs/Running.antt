-- A run keeps what each of its steps keeps.
use Rattle.std.proofs.Common.{ℕ, ◌≡◌, ◌==◌, List, [], ◌∷◌, ◌++◌, Option, Some, None, refl, sym, ap, subst, ◌∙◌}
use Rattle.std.proofs.lemmas.List.{append_assoc, append-nil}
use Rattle.std.specs.List.{All}
use Rattle.std.proofs.lemmas.List.Elements.{All-nil, All-cons, All-head, All-tail}
use Rattle.dt_units.specs.declared.parameters.Params.{Params}
use Rattle.dt_units.specs.declared.endpoints.Flow.{Flow}
use Rattle.dt_units.specs.Limits.{IsWithinLimits}
use Rattle.dt_reports.specs.declared.faults.StepFault.{StepFault}
use Rattle.dt_reports.specs.Entries.{Entry}
use Rattle.dt_world_laws.specs.Lift.{IsLifted}
use Rattle.dt_world_laws.proofs.Lifting.{lift_then, lifted_fates, no_lift}
use Rattle.dt_flow_model.specs.Facts.{KeepsFates}
use Rattle.dt_flow_model.specs.Frames.{Mark}
use Rattle.dt_flow_model.specs.Safe.{Safe}
use Rattle.dt_world_model.specs.Tables.{look}
use Rattle.dt_world_model.specs.Setup.{Setup, new_world}
use Rattle.dt_world_model.specs.Station.{Event, Send, Read, Tick, Arrive}
use Rattle.dt_world_model.specs.World.{Placed, World, view}
use Rattle.dt_world_model.specs.WorldStep.{Outcome, Refused, Stepped, WorldEvent, Passes, Sends, Reads, Ticks, Arrives, Loses, Restarts, after_event, copy_at, event_at, first_refusal, link_for, refusals, restart_at, run, run_from, step_unless, then_step, world_after, world_step}
use Rattle.dt_world_model.specs.WorldFacts.{CanHappen, SafeWorld, WorldFacts}
use Rattle.dt_world_laws.proofs.Promise.{facts_are_safe}
use Rattle.dt_world_laws.proofs.Starts.{new_world_facts}
use Rattle.dt_world_laws.proofs.Worlds.{GoesTo, effect_keeps}

-- no event changes the parameters
event_params : (w : World) (n : ℕ) (e : Event Mark) (o : Option Placed) → (event_at w n e o).1.params ≡ w.params
event_params w n e None = refl
event_params w n e (Some at) = refl

restart_params : (w : World) (n : ℕ) (o : Option Placed) → (restart_at w n o).1.params ≡ w.params
restart_params w n None = refl
restart_params w n (Some at) = refl

effect_params : (w : World) (e : WorldEvent) → (after_event w e).1.params ≡ w.params
effect_params w (Passes by) = refl
effect_params w (Sends f octets begin end) = event_params w f.from.0 (Send f octets begin end) (look ◌==◌ f.from.0 w.stations)
effect_params w (Reads f most) = event_params w f.to.0 (Read f most) (look ◌==◌ f.to.0 w.stations)
effect_params w (Ticks n) = event_params w n Tick (look ◌==◌ n w.stations)
effect_params w (Arrives k) = event_params w (link_for w k).to (Arrive (copy_at w k).link (copy_at w k).parcel) (look ◌==◌ (link_for w k).to w.stations)
effect_params w (Loses k) = refl
effect_params w (Restarts n) = restart_params w n (look ◌==◌ n w.stations)

-- a step, refused or not
abbrev Goes : World → World → Type 0
Goes w after = GoesTo w after × (after.params ≡ w.params)

goes_by : (w : World) (e : WorldEvent) (lines : List Entry) → IsWithinLimits w.params → WorldFacts w → CanHappen e → (o : Option StepFault) → first_refusal (refusals w e) ≡ o → Goes w (then_step (lines, w) (step_unless o (after_event w e))).1
goes_by w e lines limits facts can None clear = (effect_keeps w limits facts e can clear, effect_params w e)
goes_by w e lines limits facts can (Some fault) clear = ((facts, λ f. no_lift w.params (view w f)), refl)

pub run_goes : (es : List WorldEvent) (r : List Entry × World) → IsWithinLimits r.1.params → WorldFacts r.1 → All CanHappen es → Goes r.1 (run_from es r).1
run_goes [] r limits facts can = ((facts, λ f. no_lift r.1.params (view r.1 f)), refl)
run_goes (e ∷ es) r limits facts can =
    let next = then_step r (world_step r.1 e) in
    let one : Goes r.1 next.1 = goes_by r.1 e r.0 limits facts (All-head CanHappen e es can) (first_refusal (refusals r.1 e)) refl in
    let rest : Goes next.1 (run_from es next).1 = run_goes es next (subst IsWithinLimits (sym one.1) limits) one.0.0 (All-tail CanHappen e es can) in
    ((rest.0.0, λ f. lift_then r.1.params (view r.1 f) (view next.1 f) (view (run_from es next).1 f) (one.0.1 f) (subst (λ (p : Params). IsLifted p (view next.1 f) (view (run_from es next).1 f)) one.1 (rest.0.1 f))), rest.1 ∙ one.1)

-- THE WORLD AFTER EVERY LIST OF EVENTS
pub run_facts : (setup : Setup) (es : List WorldEvent) → IsWithinLimits setup.params → All CanHappen es → WorldFacts (world_after (new_world setup) es)
run_facts setup es limits can = (run_goes es ([], new_world setup) limits (new_world_facts setup) can).0.0

pub run_lifts : (setup : Setup) (es : List WorldEvent) (f : Flow) → IsWithinLimits setup.params → All CanHappen es → IsLifted setup.params (view (new_world setup) f) (view (world_after (new_world setup) es) f)
run_lifts setup es f limits can = (run_goes es ([], new_world setup) limits (new_world_facts setup) can).0.1 f

pub run_is_safe : (setup : Setup) (es : List WorldEvent) → IsWithinLimits setup.params → All CanHappen es → SafeWorld (world_after (new_world setup) es)
run_is_safe setup es limits can f = facts_are_safe (world_after (new_world setup) es) f (run_facts setup es limits can)

-- THE LAWS OF RUNS
pub refused_is_nothing : (w : World) (e : WorldEvent) (es : List WorldEvent) (fault : StepFault) → world_step w e ≡ Refused fault → run (e ∷ es) w ≡ run es w
refused_is_nothing w e es fault is = ap (λ (o : Outcome). run_from es (then_step ([], w) o)) is

-- the lines before a run are before its lines, and change nothing
then_after : (lines : List Entry) (r : List Entry × World) (o : Outcome) → then_step (lines ++ r.0, r.1) o ≡ (lines ++ (then_step r o).0, (then_step r o).1)
then_after lines r (Refused fault) = refl
then_after lines r (Stepped more after) = ap (λ (ls : List Entry). (ls, after)) (append_assoc lines r.0 more)

run_after : (lines : List Entry) (es : List WorldEvent) (r : List Entry × World) → run_from es (lines ++ r.0, r.1) ≡ (lines ++ (run_from es r).0, (run_from es r).1)
run_after lines [] r = refl
run_after lines (e ∷ es) r = ap (run_from es) (then_after lines r (world_step r.1 e)) ∙ run_after lines es (then_step r (world_step r.1 e))

joined_from : (es more : List WorldEvent) (r : List Entry × World) → run_from (es ++ more) r ≡ run_from more (run_from es r)
joined_from [] more r = refl
joined_from (e ∷ es) more r = joined_from es more (then_step r (world_step r.1 e))

pub run_joined : (w : World) (es more : List WorldEvent) → run (es ++ more) w ≡ ((run es w).0 ++ (run more (world_after w es)).0, (run more (world_after w es)).1)
run_joined w es more =
    joined_from es more ([], w)
    ∙ ap (λ (ls : List Entry). run_from more (ls, world_after w es)) (sym (append-nil (run es w).0))
    ∙ run_after (run es w).0 more ([], world_after w es)

-- what of it is said by its parts
pub run_ledger : (setup : Setup) (es : List WorldEvent) (f : Flow) → IsWithinLimits setup.params → All CanHappen es → Safe (view (world_after (new_world setup) es) f)
run_ledger setup es f limits can = run_is_safe setup es limits can f

all_left : (xs ys : List WorldEvent) → All CanHappen (xs ++ ys) → All CanHappen xs
all_left [] ys h = All-nil CanHappen
all_left (x ∷ xs) ys h = All-cons CanHappen x xs (All-head CanHappen x (xs ++ ys) h) (all_left xs ys (All-tail CanHappen x (xs ++ ys) h))

all_right : (xs ys : List WorldEvent) → All CanHappen (xs ++ ys) → All CanHappen ys
all_right [] ys h = h
all_right (x ∷ xs) ys h = all_right xs ys (All-tail CanHappen x (xs ++ ys) h)

pub fates_stay : (setup : Setup) (es more : List WorldEvent) (f : Flow) → IsWithinLimits setup.params → All CanHappen (es ++ more) → KeepsFates (view (world_after (new_world setup) es) f).taken (view (world_after (new_world setup) (es ++ more)) f).taken
fates_stay setup es more f limits can =
    let start : List Entry × World = ([], new_world setup) in
    let first = run_goes es start limits (new_world_facts setup) (all_left es more can) in
    let rest = run_goes more (run_from es start) (subst IsWithinLimits (sym first.1) limits) first.0.0 (all_right es more can) in
    subst (λ (r : List Entry × World). KeepsFates (view (run_from es start).1 f).taken (view r.1 f).taken) (sym (joined_from es more start)) (lifted_fates (run_from es start).1.params (view (run_from es start).1 f) (view (run_from more (run_from es start)).1 f) (rest.0.1 f))
