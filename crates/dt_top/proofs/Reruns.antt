-- A run that was traced is run again: it ends with the same status and the same log, where there is memory and nothing fails.
use Rattle.std.proofs.Common.{◌≡◌, ◌⊎◌, ◌≤◌, ◌<◌, ◌^◌, ℕ, List, length, Option, Some, None, IfSome, inl, inr, refl, sym, ap, subst, arith}
use Rattle.dt_edges.specs.Counts.{HasRisen}
use Rattle.dt_edges.specs.Sinks.{SinkSight}
use Rattle.dt_log.specs.Logs.{log_text}
use Rattle.dt_node.specs.Acts.{fates, log_lines}
use Rattle.dt_script.specs.Drafts.{script_of}
use Rattle.dt_script.specs.Orders.{Orders}
use Rattle.dt_node.specs.Serving.{Edges, IsWhole, Serves}
use Rattle.dt_node.specs.declared.output_forms.OutputForm.TheVariants as forms
use Rattle.dt_node.specs.declared.outcomes.NodeOutcome.{NodeOutcome}
use Rattle.dt_node.specs.declared.outcomes.NodeOutcome.TheVariants as node
use Rattle.dt_node.specs.Reaching.{GoesToStop}
use Rattle.dt_node.specs.Repeating.{Repeats, joined}
use Rattle.dt_node.specs.Retracing.{Retraces}
use Rattle.dt_node.proofs.Reached.{MeetsStop, meets_stop}
use Rattle.dt_node.proofs.Repeated.{run_again}
use Rattle.dt_command.specs.declared.command.Command.TheVariants.{Serve}
use Rattle.dt_top.specs.declared.ending.Ending.{Ending}
use Rattle.dt_top.specs.declared.ending.Ending.TheVariants.{Done, Usage, TooLong, Refused, NoMemory, WireFault, ClockStill, ReadFault, WriteFault}
use Rattle.dt_command.specs.declared.job.Job.TheVariants.{Retrace}
use Rattle.dt_top.specs.Endings.{node_ending, status_of}
use Rattle.dt_top.specs.Inputs.{limit}
use Rattle.dt_top.specs.Serving.{Ends, RunsAgain, job_owes}
use Rattle.dt_top.specs.Streams.{Effects, OwesFor, Served, StreamSights}

-- by what an answer of `retrace` leaves
by_answer : (log : List ℕ) (outcome again : NodeOutcome) (old new : SinkSight) → Repeats log outcome again old new → RunsAgain log outcome (status_of (node_ending again)) old new
by_answer log outcome node.Done old new h = inl (ap (λ n. status_of (node_ending n)) h.same, h.log)
by_answer log outcome node.WireFault old new h = inl (ap (λ n. status_of (node_ending n)) h.same, h.log)
by_answer log outcome node.ClockStill old new h = inl (ap (λ n. status_of (node_ending n)) h.same, h.log)
by_answer log outcome node.NoMemory old new h = inr (inl refl)
by_answer log outcome node.WriteFault old new h = inr (inr (inr refl))
by_answer log outcome node.Refused old new h = absurd h

-- the input that is left, and what `retrace` leaves over it
record Again (log octets : List ℕ) (outcome : NodeOutcome) (s : StreamSights) : Type 0 where
  left : s.source_before.left ≡ Some octets
  fits : length octets ≤ limit
  repeats : (again : NodeOutcome) → Retraces octets again s.effects.out_before s.effects.out_after → Repeats log outcome again s.effects.out_before s.effects.out_after

abbrev Leaves : List ℕ → NodeOutcome → ℕ → StreamSights → Type 0
Leaves log outcome status s = RunsAgain log outcome status s.effects.out_before s.effects.out_after

by_served : (log octets : List ℕ) (outcome again : NodeOutcome) (s : StreamSights) → Again log octets outcome s → Served (λ xs e. Retraces xs again e.out_before e.out_after) s → Leaves log outcome (status_of (node_ending again)) s
by_served log octets outcome again s a h =
    let is : octets ≡ h.octets = subst (λ l. IfSome l (λ all. all ≡ h.octets)) a.left h.input.whole in
    by_answer log outcome again s.effects.out_before s.effects.out_after (a.repeats again (subst (λ xs. Retraces xs again s.effects.out_before s.effects.out_after) (sym is) h.owes))

by_owes : (ending : Ending) (log octets : List ℕ) (outcome : NodeOutcome) (s : StreamSights) → Again log octets outcome s → OwesFor (job_owes Retrace) ending s → Leaves log outcome (status_of ending) s
by_owes Done log octets outcome s a h = by_served log octets outcome node.Done s a h
by_owes Usage log octets outcome s a h = absurd h
by_owes TooLong log octets outcome s a h =
    let long : limit < length octets = subst (λ l. IfSome l (λ all. limit < length all)) a.left h.0 in
    absurd (omega (arith, a.fits, long))
by_owes Refused log octets outcome s a h = by_served log octets outcome node.Refused s a h
by_owes NoMemory log octets outcome s a h = inr (inl refl)
by_owes WireFault log octets outcome s a h = by_served log octets outcome node.WireFault s a h
by_owes ClockStill log octets outcome s a h = by_served log octets outcome node.ClockStill s a h
by_owes ReadFault log octets outcome s a h = inr (inr (inl refl))
by_owes WriteFault log octets outcome s a h = by_served log octets outcome node.WriteFault s a h

by_ending : (ending : Ending) (log octets : List ℕ) (outcome : NodeOutcome) (s : StreamSights) → Again log octets outcome s → Ends (Some (Serve Retrace)) ending s → Leaves log outcome (status_of ending) s
by_ending ending log octets outcome s a h = elim h [
  | inl owes ↦ by_owes ending log octets outcome s a owes
  | inr lacks ↦ subst (λ e. Leaves log outcome (status_of e) s) (sym lacks.0) (inr (inl refl))
]

pub runs_again : (ending : Ending) (result : ℕ) (s : StreamSights) → result ≡ status_of ending → Ends (Some (Serve Retrace)) ending s → (left : Option (List ℕ)) → s.source_before.left ≡ left
    → IfSome left (λ octets. (script : List ℕ) (o : Orders) (outcome : NodeOutcome) (before after : Edges) → script_of script ≡ Some o → (first : Serves forms.Trace o outcome before after) → IsWhole outcome → length (fates first.deeds) < 2 ^ 64
    → octets ≡ joined script first.text → length octets ≤ limit
    → RunsAgain (log_text (log_lines o.setup.me first.deeds)) outcome result s.effects.out_before s.effects.out_after)
runs_again ending result s is h None e = tt
runs_again ending result s is h (Some octets) e = λ script o outcome before after accepted first whole few whole_input fits.
    let log = log_text (log_lines o.setup.me first.deeds) in
    let old = s.effects.out_before in
    let new = s.effects.out_after in
    let repeats : (again : NodeOutcome) → Retraces octets again old new → Repeats log outcome again old new =
    λ again r. run_again o outcome before after first whole few script accepted again old new (subst (λ xs. Retraces xs again old new) whole_input r)
    in
    subst (λ status. Leaves log outcome status s) (sym is) (by_ending ending log octets outcome s (record { left = e; fits = fits; repeats = repeats }) h)

-- AN INPUT THAT GOES TO THE STOP is served

abbrev Ended : ℕ → Type 0
Ended status = (status ≡ 0) ⊎ (status ≡ 4)

-- what the run begins with, and that nothing fails
record Goes (octets : List ℕ) (s : StreamSights) : Type 0 where
  left : s.source_before.left ≡ Some octets
  fits : length octets ≤ limit
  goes : GoesToStop octets
  source : HasRisen s.source_before.faults s.source_after.faults → ⊥
  out : HasRisen s.effects.out_before.faults s.effects.out_after.faults → ⊥

stop_met : (outcome : NodeOutcome) → MeetsStop outcome → Ended (status_of (node_ending outcome))
stop_met outcome h = elim h [
  | inl e ↦ subst (λ n. Ended (status_of (node_ending n))) (sym e) (inl refl)
  | inr e ↦ subst (λ n. Ended (status_of (node_ending n))) (sym e) (inr refl)
]

served_again : (outcome : NodeOutcome) (octets : List ℕ) (s : StreamSights) → Goes octets s → Served (λ xs e. Retraces xs outcome e.out_before e.out_after) s → Ended (status_of (node_ending outcome))
served_again outcome octets s g h =
    let is : octets ≡ h.octets = subst (λ l. IfSome l (λ all. all ≡ h.octets)) g.left h.input.whole in
    stop_met outcome (meets_stop octets g.goes s.effects.out_before s.effects.out_after g.out outcome (subst (λ xs. Retraces xs outcome s.effects.out_before s.effects.out_after) (sym is) h.owes))

owes_again : (ending : Ending) (octets : List ℕ) (s : StreamSights) → Goes octets s → OwesFor (job_owes Retrace) ending s → Ended (status_of ending)
owes_again Done octets s g h = inl refl
owes_again Usage octets s g h = absurd h
owes_again TooLong octets s g h =
    let long : limit < length octets = subst (λ l. IfSome l (λ all. limit < length all)) g.left h.0 in
    absurd (omega (arith, g.fits, long))
owes_again Refused octets s g h = served_again node.Refused octets s g h
owes_again NoMemory octets s g h = inr refl
owes_again WireFault octets s g h = served_again node.WireFault octets s g h
owes_again ClockStill octets s g h = served_again node.ClockStill octets s g h
owes_again ReadFault octets s g h = absurd (g.source h.0)
owes_again WriteFault octets s g h = served_again node.WriteFault octets s g h

ends_again : (ending : Ending) (octets : List ℕ) (s : StreamSights) → Goes octets s → Ends (Some (Serve Retrace)) ending s → Ended (status_of ending)
ends_again ending octets s g h = elim h [
  | inl owes ↦ owes_again ending octets s g owes
  | inr lacks ↦ subst (λ e. Ended (status_of e)) (sym lacks.0) (inr refl)
]

pub retrace_completes : (ending : Ending) (result : ℕ) (s : StreamSights) → result ≡ status_of ending → Ends (Some (Serve Retrace)) ending s → (left : Option (List ℕ)) → s.source_before.left ≡ left
    → IfSome left (λ octets. length octets ≤ limit → GoesToStop octets → (HasRisen s.source_before.faults s.source_after.faults → ⊥) → (HasRisen s.effects.out_before.faults s.effects.out_after.faults → ⊥) → Ended result)
retrace_completes ending result s is h None e = tt
retrace_completes ending result s is h (Some octets) e = λ fits goes source out. subst Ended (sym is) (ends_again ending octets s (record { left = e; fits = fits; goes = goes; source = source; out = out }) h)
