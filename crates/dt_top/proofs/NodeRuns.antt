-- A node's run, traced or not, over a clock whose plan reaches the stop, where nothing fails, ends with 0 or with 4.
use Rattle.std.proofs.Common.{◌≡◌, ◌⊎◌, ◌≤◌, ◌<◌, ℕ, List, [], length, Option, Some, None, IfSome, inl, inr, refl, sym, subst, arith}
use Rattle.dt_edges.specs.Counts.{HasRisen}
use Rattle.dt_node.specs.Completing.{ReachesStop}
use Rattle.dt_script.specs.Drafts.{script_of}
use Rattle.dt_script.specs.Orders.{Orders}
use Rattle.dt_node.specs.declared.output_forms.OutputForm.{OutputForm}
use Rattle.dt_node.specs.declared.output_forms.OutputForm.TheVariants as forms
use Rattle.dt_node.specs.declared.outcomes.NodeOutcome.{NodeOutcome}
use Rattle.dt_node.specs.declared.outcomes.NodeOutcome.TheVariants as node
use Rattle.dt_command.specs.declared.command.Command.TheVariants.{Serve}
use Rattle.dt_top.specs.declared.ending.Ending.{Ending}
use Rattle.dt_top.specs.declared.ending.Ending.TheVariants.{Done, Usage, TooLong, Refused, NoMemory, WireFault, ClockStill, ReadFault, WriteFault}
use Rattle.dt_command.specs.declared.job.Job.{Job}
use Rattle.dt_command.specs.declared.job.Job.TheVariants.{Node, Trace}
use Rattle.dt_top.specs.Endings.{node_ending, status_of}
use Rattle.dt_top.specs.Inputs.{limit}
use Rattle.dt_top.specs.Serving.{Ends, NodeAnswers, job_owes, node_owes}
use Rattle.dt_top.specs.Streams.{OwesFor, Served, StreamSights}

abbrev Ended : ℕ → Type 0
Ended status = (status ≡ 0) ⊎ (status ≡ 4)

-- what the run begins with, and that nothing fails
record Runs (octets : List ℕ) (o : Orders) (plan : List ℕ) (s : StreamSights) : Type 0 where
  left : s.source_before.left ≡ Some octets
  fits : length octets ≤ limit
  script : script_of octets ≡ Some o
  planned : s.effects.clock_before.plan ≡ Some plan
  fresh : s.effects.clock_before.readings ≡ Some []
  reaches : ReachesStop o.stop plan
  source : HasRisen s.source_before.faults s.source_after.faults → ⊥
  out : HasRisen s.effects.out_before.faults s.effects.out_after.faults → ⊥
  take : HasRisen s.effects.wire_before.take_faults s.effects.wire_after.take_faults → ⊥

by_outcome : (outcome : NodeOutcome) → (outcome ≡ node.Done) ⊎ (outcome ≡ node.NoMemory) → Ended (status_of (node_ending outcome))
by_outcome outcome h = elim h [
  | inl e ↦ subst (λ n. Ended (status_of (node_ending n))) (sym e) (inl refl)
  | inr e ↦ subst (λ n. Ended (status_of (node_ending n))) (sym e) (inr refl)
]

by_answers : (form : OutputForm) (outcome : NodeOutcome) (octets : List ℕ) (o : Orders) (plan : List ℕ) (s : StreamSights) → Runs octets o plan s → Served (NodeAnswers form outcome) s → Ended (status_of (node_ending outcome))
by_answers form outcome octets o plan s runs h =
    let is : octets ≡ h.octets = subst (λ l. IfSome l (λ all. all ≡ h.octets)) runs.left h.input.whole in
    by_outcome outcome (h.owes.completes o plan (subst (λ xs. script_of xs ≡ Some o) is runs.script) runs.planned runs.fresh runs.reaches runs.take runs.out)

by_owes : (form : OutputForm) (ending : Ending) (octets : List ℕ) (o : Orders) (plan : List ℕ) (s : StreamSights) → Runs octets o plan s → OwesFor (node_owes form) ending s → Ended (status_of ending)
by_owes form Done octets o plan s runs h = inl refl
by_owes form Usage octets o plan s runs h = absurd h
by_owes form TooLong octets o plan s runs h =
    let long : limit < length octets = subst (λ l. IfSome l (λ all. limit < length all)) runs.left h.0 in
    absurd (omega (arith, runs.fits, long))
by_owes form Refused octets o plan s runs h = by_answers form node.Refused octets o plan s runs h
by_owes form NoMemory octets o plan s runs h = inr refl
by_owes form WireFault octets o plan s runs h = by_answers form node.WireFault octets o plan s runs h
by_owes form ClockStill octets o plan s runs h = by_answers form node.ClockStill octets o plan s runs h
by_owes form ReadFault octets o plan s runs h = absurd (runs.source h.0)
by_owes form WriteFault octets o plan s runs h = by_answers form node.WriteFault octets o plan s runs h

by_ending : (job : Job) (ending : Ending) (s : StreamSights) → ((e : Ending) → OwesFor (job_owes job) e s → Ended (status_of e)) → Ends (Some (Serve job)) ending s → Ended (status_of ending)
by_ending job ending s owes h = elim h [
  | inl owed ↦ owes ending owed
  | inr lacks ↦ subst (λ e. Ended (status_of e)) (sym lacks.0) (inr refl)
]

-- what is said of a node's run and of a traced one
abbrev pub Completed : ℕ → StreamSights → List ℕ → Type 0
Completed result s octets =
    (o : Orders) (plan : List ℕ) → length octets ≤ limit → script_of octets ≡ Some o
    → s.effects.clock_before.plan ≡ Some plan → s.effects.clock_before.readings ≡ Some [] → ReachesStop o.stop plan
    → (HasRisen s.source_before.faults s.source_after.faults → ⊥) → (HasRisen s.effects.out_before.faults s.effects.out_after.faults → ⊥)
    → (HasRisen s.effects.wire_before.take_faults s.effects.wire_after.take_faults → ⊥)
    → Ended result

completed : (job : Job) (ending : Ending) (result : ℕ) (s : StreamSights) → result ≡ status_of ending → Ends (Some (Serve job)) ending s → (left : Option (List ℕ)) → s.source_before.left ≡ left
    → ((octets : List ℕ) (o : Orders) (plan : List ℕ) → Runs octets o plan s → (e : Ending) → OwesFor (job_owes job) e s → Ended (status_of e)) → IfSome left (Completed result s)
completed job ending result s is h None e owes = tt
completed job ending result s is h (Some octets) e owes = λ o plan fits script planned fresh reaches source out take.
    let runs : Runs octets o plan s = record { left = e; fits = fits; script = script; planned = planned; fresh = fresh; reaches = reaches; source = source; out = out; take = take } in
    subst Ended (sym is) (by_ending job ending s (owes octets o plan runs) h)

pub node_completes : (ending : Ending) (result : ℕ) (s : StreamSights) → result ≡ status_of ending → Ends (Some (Serve Node)) ending s → (left : Option (List ℕ)) → s.source_before.left ≡ left → IfSome left (Completed result s)
node_completes ending result s is h left e = completed Node ending result s is h left e (λ octets o plan runs ending owes. by_owes forms.Log ending octets o plan s runs owes)

pub trace_completes : (ending : Ending) (result : ℕ) (s : StreamSights) → result ≡ status_of ending → Ends (Some (Serve Trace)) ending s → (left : Option (List ℕ)) → s.source_before.left ≡ left → IfSome left (Completed result s)
trace_completes ending result s is h left e = completed Trace ending result s is h left e (λ octets o plan runs ending owes. by_owes forms.Trace ending octets o plan s runs owes)
