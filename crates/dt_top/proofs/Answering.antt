-- What a run answers follows from how it ends.
use Rattle.std.proofs.Common.{arith, ◌≡◌, ◌⊎◌, ◌≤◌, ◌<◌, ◌+◌, ℕ, Bool, true, false, List, length, Option, Some, None, Result, Ok, Err, IfSome, inl, inr, refl, sym, subst, ◌∙◌}
use Rattle.dt_audit.specs.Audits.{has_flaw}
use Rattle.dt_calls_input.proofs.CallFolds.{own_answers}
use Rattle.dt_calls_input.specs.CallAnswers.{TellsOwnAnswers}
use Rattle.dt_calls_input.specs.CallInputs.{are_calls_accepted, calls_text}
use Rattle.dt_edges.specs.Counts.{HasRisen}
use Rattle.dt_edges.specs.Sinks.{SinkSight, Takes}
use Rattle.dt_fold.specs.Logging.{HasAll, HasPart}
use Rattle.dt_make.specs.Schedules.{make_text}
use Rattle.dt_node.specs.Answering.{Answers as NodeLeaves, AnswersBy}
use Rattle.dt_script.specs.Drafts.{refusal_text, script_of}
use Rattle.dt_script.specs.Orders.{Orders}
use Rattle.dt_node.specs.Serving.{Edges, edges}
use Rattle.dt_node.specs.declared.output_forms.OutputForm.{OutputForm}
use Rattle.dt_node.specs.declared.output_forms.OutputForm.TheVariants as forms
use Rattle.dt_node.specs.declared.outcomes.NodeOutcome.TheVariants as node
use Rattle.dt_replay.proofs.Scenes.{all_safe}
use Rattle.dt_replay.specs.Schedules.{is_accepted, replay_text, world_of}
use Rattle.dt_reports.specs.declared.faults.LineFault.{LineFault}
use Rattle.dt_node.specs.InputParts.{cut_lines}
use Rattle.dt_node.specs.InputParts as parts
use Rattle.dt_node.specs.Retracing.{RerunsBy, Retraces, RetracesBy, edges_before}
use Rattle.dt_text.specs.InputLines.{lines_of}
use Rattle.dt_trace.specs.Traces.{Recorded, nothing, read_from}
use Rattle.dt_command.specs.declared.command.Command.{Command}
use Rattle.dt_command.specs.declared.command.Command.TheVariants.{Serve, Make}
use Rattle.dt_top.specs.declared.ending.Ending.{Ending}
use Rattle.dt_top.specs.declared.ending.Ending.TheVariants.{Done, Usage, TooLong, Refused, NoMemory, WireFault, ClockStill, ReadFault, WriteFault}
use Rattle.dt_command.specs.declared.job.Job.{Job}
use Rattle.dt_command.specs.declared.job.Job.TheVariants.{Replay, Node, Trace, Retrace, Calls, Audit}
use Rattle.dt_world_model.specs.WorldFacts.{SafeWorld}
use Rattle.dt_top.specs.Answering.{Answers, IsAudited, IsBrokenOff, IsCalled, IsEnded, IsMade, Misnames, RanAgain, RanNode, Replayed}
use Rattle.dt_top.specs.Endings.{status_of, text_of}
use Rattle.dt_top.specs.Inputs.{limit}
use Rattle.dt_top.specs.Runs.{After, IsFor, IsServedOrLacksMemory, Leaves, PutFailed, Run, Serves, TakeFailed}
use Rattle.dt_top.specs.Serving.{Ends, MakeOwes, NodeAnswers, OwesNothing, RefusesInput, Says, WireFailed, after, before, job_owes}
use Rattle.dt_top.specs.Streams.{Effects, NoEffects, OwesFor, Served, StreamSights}
use Rattle.dt_top.proofs.NodeRuns.{node_completes, trace_completes}
use Rattle.dt_top.proofs.Reruns.{retrace_completes, runs_again}

-- THE ENDING THAT A STATUS TELLS

is_done : (e : Ending) → status_of e ≡ 0 → e ≡ Done
is_done Done h = refl
is_done _ h = absurd (omega arith)

is_usage : (e : Ending) → status_of e ≡ 2 → e ≡ Usage
is_usage Usage h = refl
is_usage _ h = absurd (omega arith)

is_refused : (e : Ending) → status_of e ≡ 3 → (e ≡ TooLong) ⊎ (e ≡ Refused)
is_refused TooLong h = inl refl
is_refused Refused h = inr refl
is_refused _ h = absurd (omega arith)

is_no_memory : (e : Ending) → status_of e ≡ 4 → e ≡ NoMemory
is_no_memory NoMemory h = refl
is_no_memory _ h = absurd (omega arith)

is_wire_fault : (e : Ending) → status_of e ≡ 5 → e ≡ WireFault
is_wire_fault WireFault h = refl
is_wire_fault _ h = absurd (omega arith)

is_clock_still : (e : Ending) → status_of e ≡ 6 → e ≡ ClockStill
is_clock_still ClockStill h = refl
is_clock_still _ h = absurd (omega arith)

is_read_fault : (e : Ending) → status_of e ≡ 7 → e ≡ ReadFault
is_read_fault ReadFault h = refl
is_read_fault _ h = absurd (omega arith)

is_write_fault : (e : Ending) → status_of e ≡ 8 → e ≡ WriteFault
is_write_fault WriteFault h = refl
is_write_fault _ h = absurd (omega arith)

-- OF THE INPUT

-- what is true of an input that was read is true of what the source had left
of_left : (owed : List ℕ → Effects → Type 0) (s : StreamSights) → Served owed s → (left : Option (List ℕ)) → s.source_before.left ≡ left → IfSome left (λ octets. owed octets s.effects)
of_left owed s h None e = tt
of_left owed s h (Some octets) e =
    let is : octets ≡ h.octets = subst (λ l. IfSome l (λ all. all ≡ h.octets)) e h.input.whole in
    subst (λ xs. owed xs s.effects) (sym is) h.owes

-- that, and that it is within the limit
with_limit : (owed : List ℕ → Effects → Type 0) (s : StreamSights) → Served owed s → Served (λ octets e. (length octets ≤ limit) × owed octets e) s
with_limit owed s h = record { octets = h.octets; input = h.input; owes = (h.input.within, h.owes) }

of_any : (P : List ℕ → Type 0) → ((octets : List ℕ) → P octets) → (left : Option (List ℕ)) → IfSome left P
of_any P f None = tt
of_any P f (Some octets) = f octets

weaken : (P Q : List ℕ → Type 0) → ((octets : List ℕ) → P octets → Q octets) → (left : Option (List ℕ)) → IfSome left P → IfSome left Q
weaken P Q f None h = tt
weaken P Q f (Some octets) h = f octets h

-- how a run ends of which the command and the ending are known
ends_as : (r : Run) (h : IsEnded r) (found : Option Command) (ending : Ending) → r.command ≡ found → h.ending ≡ ending → Ends found ending r.streams
ends_as r h found ending e k = subst (λ c. Ends c ending r.streams) e (subst (λ x. Ends r.command x r.streams) k h.ends)

told : (r : Run) (h : IsEnded r) (status : ℕ) → r.status ≡ status → status_of h.ending ≡ status
told r h status e = sym h.status ∙ e

-- AFTER 0, 5, 6 AND 8 a job has had its input

done_served : (job : Job) (s : StreamSights) → Ends (Some (Serve job)) Done s → Served (job_owes job Done) s
done_served job s h = elim h [ inl owes ↦ owes | inr lacks ↦ absurd (let e = lacks.0 in cc) ]

wire_served : (job : Job) (s : StreamSights) → Ends (Some (Serve job)) WireFault s → Served (job_owes job WireFault) s
wire_served job s h = elim h [ inl owes ↦ owes | inr lacks ↦ absurd (let e = lacks.0 in cc) ]

still_served : (job : Job) (s : StreamSights) → Ends (Some (Serve job)) ClockStill s → Served (job_owes job ClockStill) s
still_served job s h = elim h [ inl owes ↦ owes | inr lacks ↦ absurd (let e = lacks.0 in cc) ]

write_served : (job : Job) (s : StreamSights) → Ends (Some (Serve job)) WriteFault s → Served (job_owes job WriteFault) s
write_served job s h = elim h [ inl owes ↦ owes | inr lacks ↦ absurd (let e = lacks.0 in cc) ]

after_done : (job : Job) (r : Run) → IsEnded r → After job 0 (λ octets. job_owes job Done octets r.streams.effects) r
after_done job r h is status =
    let s = r.streams in
    of_left (job_owes job Done) s (done_served job s (ends_as r h (Some (Serve job)) Done is (is_done h.ending (told r h 0 status)))) s.source_before.left refl

after_wire_fault : (job : Job) (r : Run) → IsEnded r → After job 5 (λ octets. job_owes job WireFault octets r.streams.effects) r
after_wire_fault job r h is status =
    let s = r.streams in
    of_left (job_owes job WireFault) s (wire_served job s (ends_as r h (Some (Serve job)) WireFault is (is_wire_fault h.ending (told r h 5 status)))) s.source_before.left refl

after_write_fault : (job : Job) (r : Run) → IsEnded r → After job 8 (λ octets. job_owes job WriteFault octets r.streams.effects) r
after_write_fault job r h is status =
    let s = r.streams in
    of_left (job_owes job WriteFault) s (write_served job s (ends_as r h (Some (Serve job)) WriteFault is (is_write_fault h.ending (told r h 8 status)))) s.source_before.left refl

-- WHAT IS ACCEPTED IS SERVED

-- what a job owes of an accepted input where it doesn't serve it
record Excuses (owed : Ending → List ℕ → Effects → Type 0) (Accepted : List ℕ → Type 0) : Type 0 where
  refused : (octets : List ℕ) (e : Effects) → Accepted octets → owed Refused octets e → ⊥
  wire_fault : (octets : List ℕ) (e : Effects) → owed WireFault octets e → ⊥
  clock_still : (octets : List ℕ) (e : Effects) → owed ClockStill octets e → ⊥
  write_fault : (octets : List ℕ) (e : Effects) → owed WriteFault octets e → HasRisen e.out_before.faults e.out_after.faults

-- an accepted input, and nothing fails
record IsFree (Accepted : List ℕ → Type 0) (octets : List ℕ) (s : StreamSights) : Type 0 where
  left : s.source_before.left ≡ Some octets
  fits : length octets ≤ limit
  accepted : Accepted octets
  source : HasRisen s.source_before.faults s.source_after.faults → ⊥
  out : HasRisen s.effects.out_before.faults s.effects.out_after.faults → ⊥

abbrev IsServed : ℕ → Type 0
IsServed status = (status ≡ 0) ⊎ (status ≡ 4)

free_input : (Accepted : List ℕ → Type 0) (octets : List ℕ) (s : StreamSights) (owed : List ℕ → Effects → Type 0) → IsFree Accepted octets s → (h : Served owed s) → Accepted h.octets
free_input Accepted octets s owed free h =
    let is : octets ≡ h.octets = subst (λ l. IfSome l (λ all. all ≡ h.octets)) free.left h.input.whole in
    subst Accepted is free.accepted

by_owes : (owed : Ending → List ℕ → Effects → Type 0) (Accepted : List ℕ → Type 0) (excuses : Excuses owed Accepted) (ending : Ending) (octets : List ℕ) (s : StreamSights) → IsFree Accepted octets s → OwesFor owed ending s → IsServed (status_of ending)
by_owes owed Accepted excuses Done octets s free h = inl refl
by_owes owed Accepted excuses Usage octets s free h = absurd h
by_owes owed Accepted excuses TooLong octets s free h =
    let long : limit < length octets = subst (λ l. IfSome l (λ all. limit < length all)) free.left h.0 in
    let fits : length octets ≤ limit = free.fits in
    absurd (omega (arith, fits, long))
by_owes owed Accepted excuses Refused octets s free h = absurd (excuses.refused h.octets s.effects (free_input Accepted octets s (owed Refused) free h) h.owes)
by_owes owed Accepted excuses NoMemory octets s free h = inr refl
by_owes owed Accepted excuses WireFault octets s free h = absurd (excuses.wire_fault h.octets s.effects h.owes)
by_owes owed Accepted excuses ClockStill octets s free h = absurd (excuses.clock_still h.octets s.effects h.owes)
by_owes owed Accepted excuses ReadFault octets s free h = absurd (free.source h.0)
by_owes owed Accepted excuses WriteFault octets s free h = absurd (free.out (excuses.write_fault h.octets s.effects h.owes))

by_ends : (job : Job) (Accepted : List ℕ → Type 0) → Excuses (job_owes job) Accepted → (ending : Ending) (octets : List ℕ) (s : StreamSights) → IsFree Accepted octets s → Ends (Some (Serve job)) ending s → IsServed (status_of ending)
by_ends job Accepted excuses ending octets s free h = elim h [
  | inl owes ↦ by_owes (job_owes job) Accepted excuses ending octets s free owes
  | inr lacks ↦ subst (λ e. IsServed (status_of e)) (sym lacks.0) (inr refl)
]

serves_left : (job : Job) (Accepted : List ℕ → Type 0) → Excuses (job_owes job) Accepted → (r : Run) (h : IsEnded r) → IsFor job r → (left : Option (List ℕ)) → r.streams.source_before.left ≡ left
    → IfSome left (λ octets. length octets ≤ limit → Accepted octets → (TakeFailed r → ⊥) → (PutFailed r → ⊥) → IsServedOrLacksMemory r)
serves_left job Accepted excuses r h is None e = tt
serves_left job Accepted excuses r h is (Some octets) e = λ fits accepted source out.
    subst IsServed (sym h.status) (by_ends job Accepted excuses h.ending octets r.streams (record { left = e; fits = fits; accepted = accepted; source = source; out = out }) (ends_as r h (Some (Serve job)) h.ending is refl))

serves : (job : Job) (Accepted : List ℕ → Type 0) → Excuses (job_owes job) Accepted → (r : Run) → IsEnded r → Serves job Accepted r
serves job Accepted excuses r h is = serves_left job Accepted excuses r h is r.streams.source_before.left refl

-- COMMAND BY COMMAND

replay_excuses : Excuses (job_owes Replay) (λ octets. is_accepted octets ≡ true)
replay_excuses = record {
  refused = λ octets e accepted owes. let no = owes.0 in cc;
  wire_fault = λ octets e owes. owes;
  clock_still = λ octets e owes. owes;
  write_fault = λ octets e owes. owes.1;
}

calls_excuses : Excuses (job_owes Calls) (λ octets. are_calls_accepted octets ≡ true)
calls_excuses = record {
  refused = λ octets e accepted owes. let no = owes.0 in cc;
  wire_fault = λ octets e owes. owes;
  clock_still = λ octets e owes. owes;
  write_fault = λ octets e owes. owes.1;
}

audit_excuses : Excuses (job_owes Audit) (λ octets. has_flaw octets ≡ false)
audit_excuses = record {
  refused = λ octets e accepted owes. let no = owes.0 in cc;
  wire_fault = λ octets e owes. owes;
  clock_still = λ octets e owes. owes;
  write_fault = λ octets e owes. owes.faults;
}

abbrev IsLogged : (List ℕ → Bool) → (List ℕ → List ℕ) → Run → List ℕ → Type 0
IsLogged accepted text r octets = (accepted octets ≡ true) × Leaves HasAll (text octets) r

replayed : (r : Run) → IsEnded r → Replayed r
replayed r h = record {
  done = λ is status. weaken (λ octets. job_owes Replay Done octets r.streams.effects) (IsLogged is_accepted replay_text r) (λ octets owes. (owes.0, owes.1)) r.streams.source_before.left (after_done Replay r h is status);
  part_of_log = λ is status. weaken (λ octets. job_owes Replay WriteFault octets r.streams.effects) (λ octets. Leaves HasPart (replay_text octets) r) (λ octets owes. owes.0) r.streams.source_before.left (after_write_fault Replay r h is status);
  whole = λ is. of_any (λ octets. IfSome (world_of octets) SafeWorld) all_safe r.streams.source_before.left;
  complete = serves Replay (λ octets. is_accepted octets ≡ true) replay_excuses r h;
}

ran_node : (r : Run) → IsEnded r → RanNode r
ran_node r h = record {
  stopped = after_done Node r h;
  traced = after_done Trace r h;
  complete_node = λ is. node_completes h.ending r.status r.streams h.status (ends_as r h (Some (Serve Node)) h.ending is refl) r.streams.source_before.left refl;
  complete_trace = λ is. trace_completes h.ending r.status r.streams h.status (ends_as r h (Some (Serve Trace)) h.ending is refl) r.streams.source_before.left refl;
}

ran_again : (r : Run) → IsEnded r → RanAgain r
ran_again r h = record {
  retraced = after_done Retrace r h;
  runs_again = λ is. runs_again h.ending r.status r.streams h.status (ends_as r h (Some (Serve Retrace)) h.ending is refl) r.streams.source_before.left refl;
  complete_retrace = λ is. retrace_completes h.ending r.status r.streams h.status (ends_as r h (Some (Serve Retrace)) h.ending is refl) r.streams.source_before.left refl;
}

is_called : (r : Run) → IsEnded r → IsCalled r
is_called r h = record {
  called = λ is status. weaken (λ octets. job_owes Calls Done octets r.streams.effects) (IsLogged are_calls_accepted calls_text r) (λ octets owes. (owes.0, owes.1)) r.streams.source_before.left (after_done Calls r h is status);
  own_answers = λ is. of_any (λ octets. length octets ≤ limit → TellsOwnAnswers octets) own_answers r.streams.source_before.left;
  complete_calls = serves Calls (λ octets. are_calls_accepted octets ≡ true) calls_excuses r h;
}

is_audited : (r : Run) → IsEnded r → IsAudited r
is_audited r h = record {
  passed = after_done Audit r h;
  complete_audit = serves Audit (λ octets. has_flaw octets ≡ false) audit_excuses r h;
}

-- `make`

make_done : (n : ℕ) (s : StreamSights) → Ends (Some (Make n)) Done s → Takes (make_text n) s.effects.out_before s.effects.out_after
make_done n s h = elim h [ inl owes ↦ owes.1 | inr lacks ↦ absurd (let e = lacks.0 in cc) ]

make_cut_off : (n : ℕ) (s : StreamSights) → Ends (Some (Make n)) WriteFault s → HasPart (make_text n) s.effects.out_before s.effects.out_after
make_cut_off n s h = elim h [ inl owes ↦ let part = owes.1 in (part.count, part.held) | inr lacks ↦ absurd (let e = lacks.0 in cc) ]

abbrev IsMadeOrUntouched : ℕ → StreamSights → Type 0
IsMadeOrUntouched status s = (status ≡ 0) ⊎ ((status ≡ 4) × (s.effects.out_after ≡ s.effects.out_before))

make_owes : (n : ℕ) (ending : Ending) (e : Effects) → (HasRisen e.out_before.faults e.out_after.faults → ⊥) → MakeOwes n ending e → status_of ending ≡ 0
make_owes n Done e free h = refl
make_owes n WriteFault e free h = absurd (free h.faults)
make_owes n Usage e free h = absurd h
make_owes n TooLong e free h = absurd h
make_owes n Refused e free h = absurd h
make_owes n NoMemory e free h = absurd h
make_owes n WireFault e free h = absurd h
make_owes n ClockStill e free h = absurd h
make_owes n ReadFault e free h = absurd h

make_ends : (n : ℕ) (ending : Ending) (s : StreamSights) → (HasRisen s.effects.out_before.faults s.effects.out_after.faults → ⊥) → Ends (Some (Make n)) ending s → IsMadeOrUntouched (status_of ending) s
make_ends n ending s free h = elim h [
  | inl owes ↦ inl (make_owes n ending s.effects free owes.1)
  | inr lacks ↦ subst (λ e. IsMadeOrUntouched (status_of e) s) (sym lacks.0) (inr (refl, lacks.1.effects.out))
]

is_made : (r : Run) → IsEnded r → IsMade r
is_made r h = record {
  made = λ n is status. make_done n r.streams (ends_as r h (Some (Make n)) Done is (is_done h.ending (told r h 0 status)));
  part_of_schedule = λ n is status. make_cut_off n r.streams (ends_as r h (Some (Make n)) WriteFault is (is_write_fault h.ending (told r h 8 status)));
  complete_make = λ n is free. subst (λ status. IsMadeOrUntouched status r.streams) (sym h.status) (make_ends n h.ending r.streams free (ends_as r h (Some (Make n)) h.ending is refl));
}

-- WORDS THAT NAME NO COMMAND

usage_untouched : (found : Option Command) (s : StreamSights) → Ends found Usage s → (found ≡ None) × (s.source_after ≡ s.source_before) × (s.effects.out_after ≡ s.effects.out_before)
usage_untouched None s h = (refl, h.source, h.effects.out)
usage_untouched (Some (Serve job)) s h = elim h [ inl owes ↦ absurd owes | inr lacks ↦ absurd (let e = lacks.0 in cc) ]
usage_untouched (Some (Make n)) s h = elim h [ inl owes ↦ absurd owes.1 | inr lacks ↦ absurd (let e = lacks.0 in cc) ]

none_ends : (ending : Ending) (s : StreamSights) → OwesNothing ending s → (status_of ending ≡ 2) ⊎ (status_of ending ≡ 4)
none_ends Usage s h = inl refl
none_ends NoMemory s h = inr refl
none_ends Done s h = absurd h
none_ends TooLong s h = absurd h
none_ends Refused s h = absurd h
none_ends WireFault s h = absurd h
none_ends ClockStill s h = absurd h
none_ends ReadFault s h = absurd h
none_ends WriteFault s h = absurd h

misnames : (r : Run) → IsEnded r → Misnames r
misnames r h = record {
  usage = λ status. usage_untouched r.command r.streams (ends_as r h r.command Usage refl (is_usage h.ending (told r h 2 status)));
  no_command = λ is. subst (λ status. (status ≡ 2) ⊎ (status ≡ 4)) (sym h.status) (none_ends h.ending r.streams (ends_as r h None h.ending is refl));
}

-- STATUS BY STATUS, for any command

-- a job that was named, and what is true of the input
abbrev Jobs : Option Command → StreamSights → (Job → List ℕ → Type 0) → Type 0
Jobs found s Owed = (job : Job) × (found ≡ Some (Serve job)) × IfSome s.source_before.left (Owed job)

abbrev Refuses : Option Command → StreamSights → Type 0
Refuses found s = Jobs found s (λ job octets. RefusesInput job octets s.effects)

too_long : (found : Option Command) (s : StreamSights) → Ends found TooLong s → Refuses found s
too_long None s h = absurd h
too_long (Some (Serve job)) s h = elim h [
  | inl owes ↦ (job, refl, weaken (λ octets. limit < length octets) (λ octets. RefusesInput job octets s.effects) (λ octets long. inl (long, owes.1)) s.source_before.left owes.0)
  | inr lacks ↦ absurd (let e = lacks.0 in cc)
]
too_long (Some (Make n)) s h = elim h [ inl owes ↦ absurd owes.1 | inr lacks ↦ absurd (let e = lacks.0 in cc) ]

refuses : (found : Option Command) (s : StreamSights) → Ends found Refused s → Refuses found s
refuses None s h = absurd h
refuses (Some (Serve job)) s h = elim h [
  | inl served ↦ (
    job,
    refl,
    weaken (λ octets. (length octets ≤ limit) × job_owes job Refused octets s.effects) (λ octets. RefusesInput job octets s.effects) (λ octets owes. inr (owes.0, owes.1)) s.source_before.left
        (of_left (λ octets e. (length octets ≤ limit) × job_owes job Refused octets e) s (with_limit (job_owes job Refused) s served) s.source_before.left refl),
  )
  | inr lacks ↦ absurd (let e = lacks.0 in cc)
]
refuses (Some (Make n)) s h = elim h [ inl owes ↦ absurd owes.1 | inr lacks ↦ absurd (let e = lacks.0 in cc) ]

lacks_memory : (found : Option Command) (s : StreamSights) → Ends found NoMemory s → NoEffects s.effects ⊎ Jobs found s (λ job octets. job_owes job NoMemory octets s.effects)
lacks_memory None s h = inl h.effects
lacks_memory (Some (Serve job)) s h = elim h [
  | inl owes ↦ elim owes [
    | inl none ↦ inl none
    | inr served ↦ inr (job, refl, of_left (job_owes job NoMemory) s served s.source_before.left refl)
  ]
  | inr lacks ↦ inl lacks.1.effects
]
lacks_memory (Some (Make n)) s h = elim h [ inl owes ↦ absurd owes.1 | inr lacks ↦ inl lacks.1.effects ]

stands_still : (found : Option Command) (s : StreamSights) → Ends found ClockStill s → Jobs found s (λ job octets. job_owes job ClockStill octets s.effects)
stands_still None s h = absurd h
stands_still (Some (Serve job)) s h = (job, refl, of_left (job_owes job ClockStill) s (still_served job s h) s.source_before.left refl)
stands_still (Some (Make n)) s h = elim h [ inl owes ↦ absurd owes.1 | inr lacks ↦ absurd (let e = lacks.0 in cc) ]

reads_failed : (found : Option Command) (s : StreamSights) → Ends found ReadFault s → HasRisen s.source_before.faults s.source_after.faults × (s.effects.out_after ≡ s.effects.out_before)
reads_failed None s h = absurd h
reads_failed (Some (Serve job)) s h = elim h [ inl owes ↦ (owes.0, owes.1.out) | inr lacks ↦ absurd (let e = lacks.0 in cc) ]
reads_failed (Some (Make n)) s h = elim h [ inl owes ↦ absurd owes.1 | inr lacks ↦ absurd (let e = lacks.0 in cc) ]

-- a node whose wire failed, and one whose put failed
wire_of_node : (form : OutputForm) (octets : List ℕ) (e : Effects) → NodeAnswers form node.WireFault octets e → HasRisen e.wire_before.take_faults e.wire_after.take_faults
wire_of_node form octets e h = by_orders (script_of octets) h.answers
  where
    by_orders : (o : Option Orders) → AnswersBy form o (refusal_text octets) node.WireFault (before e) (after e) → HasRisen e.wire_before.take_faults e.wire_after.take_faults
    by_orders None a = absurd a.may
    by_orders (Some o) a = a.take_faults

put_of_node : (form : OutputForm) (octets : List ℕ) (old new : Edges) → NodeLeaves form octets node.WriteFault old new → HasRisen old.faults new.faults
put_of_node form octets old new h = by_orders (script_of octets) h
  where
    by_orders : (o : Option Orders) → AnswersBy form o (refusal_text octets) node.WriteFault old new → HasRisen old.faults new.faults
    by_orders None a = a.sink_faults
    by_orders (Some o) a = a.sink_faults

-- and a run that is run again
put_of_rerun : (mark : ℕ) (script : List ℕ) (t : Result Recorded (ℕ × LineFault)) (old new : SinkSight) → RerunsBy mark script t node.WriteFault old new → HasRisen old.faults new.faults
put_of_rerun mark script (Ok t) old new h = put_of_node forms.Log script (edges_before t old) (edges h.wire h.clock new) h.answers
put_of_rerun mark script (Err (line, fault)) old new h = h.sink_faults

put_of_parts : (lines : ℕ) (cut : Option (List (List ℕ) × List (List ℕ))) (old new : SinkSight) → RetracesBy lines cut node.WriteFault old new → HasRisen old.faults new.faults
put_of_parts lines None old new h = h.sink_faults
put_of_parts lines (Some (script, trace)) old new h = put_of_rerun (length script + 1) (parts.text_of script) (read_from 1 nothing trace) old new h

put_of_retrace : (octets : List ℕ) (old new : SinkSight) → Retraces octets node.WriteFault old new → HasRisen old.faults new.faults
put_of_retrace octets old new h = elim h [
  | inl by_parts ↦ put_of_parts (length (lines_of octets)) (cut_lines (lines_of octets)) old new by_parts
  | inr wants ↦ absurd (let e = wants.0 in cc)
]

wire_of_job : (job : Job) (s : StreamSights) → Served (job_owes job WireFault) s → WireFailed job s.source_before.left s.effects
wire_of_job Replay s h = h.owes
wire_of_job Node s h = wire_of_node forms.Log h.octets s.effects h.owes
wire_of_job Trace s h = wire_of_node forms.Trace h.octets s.effects h.owes
wire_of_job Retrace s h = of_left (job_owes Retrace WireFault) s h s.source_before.left refl
wire_of_job Calls s h = h.owes
wire_of_job Audit s h = h.owes

put_of_job : (job : Job) (octets : List ℕ) (e : Effects) → job_owes job WriteFault octets e → HasRisen e.out_before.faults e.out_after.faults
put_of_job Replay octets e h = h.1
put_of_job Node octets e h = put_of_node forms.Log octets (before e) (after e) h.answers
put_of_job Trace octets e h = put_of_node forms.Trace octets (before e) (after e) h.answers
put_of_job Retrace octets e h = put_of_retrace octets e.out_before e.out_after h
put_of_job Calls octets e h = h.1
put_of_job Audit octets e h = h.faults

wire_fails : (found : Option Command) (s : StreamSights) → Ends found WireFault s → (job : Job) × (found ≡ Some (Serve job)) × WireFailed job s.source_before.left s.effects
wire_fails None s h = absurd h
wire_fails (Some (Serve job)) s h = (job, refl, wire_of_job job s (wire_served job s h))
wire_fails (Some (Make n)) s h = elim h [ inl owes ↦ absurd owes.1 | inr lacks ↦ absurd (let e = lacks.0 in cc) ]

put_fails : (found : Option Command) (s : StreamSights) → Ends found WriteFault s → HasRisen s.effects.out_before.faults s.effects.out_after.faults
put_fails None s h = absurd h
put_fails (Some (Serve job)) s h = let served = write_served job s h in put_of_job job served.octets s.effects served.owes
put_fails (Some (Make n)) s h = elim h [ inl owes ↦ owes.1.faults | inr lacks ↦ absurd (let e = lacks.0 in cc) ]

refused_after : (r : Run) → IsEnded r → r.status ≡ 3 → Refuses r.command r.streams
refused_after r h status = elim (is_refused h.ending (told r h 3 status)) [
  | inl long ↦ too_long r.command r.streams (ends_as r h r.command TooLong refl long)
  | inr refused ↦ refuses r.command r.streams (ends_as r h r.command Refused refl refused)
]

broken_off : (r : Run) → IsEnded r → IsBrokenOff r
broken_off r h = record {
  refused = refused_after r h;
  out_of_memory = λ status. lacks_memory r.command r.streams (ends_as r h r.command NoMemory refl (is_no_memory h.ending (told r h 4 status)));
  wire_failed = λ status. wire_fails r.command r.streams (ends_as r h r.command WireFault refl (is_wire_fault h.ending (told r h 5 status)));
  lost_wire = λ job. after_wire_fault job r h;
  stood_still = λ status. stands_still r.command r.streams (ends_as r h r.command ClockStill refl (is_clock_still h.ending (told r h 6 status)));
  read_failed = λ status. reads_failed r.command r.streams (ends_as r h r.command ReadFault refl (is_read_fault h.ending (told r h 7 status)));
  write_failed = λ status. put_fails r.command r.streams (ends_as r h r.command WriteFault refl (is_write_fault h.ending (told r h 8 status)));
  cut_off = λ job. after_write_fault job r h;
}

-- THE WHOLE
pub answered : (ending : Ending) (r : Run) → r.status ≡ status_of ending → Ends r.command ending r.streams → Says (text_of ending) r.err_before r.err_after → Answers r
answered ending r status ends says =
    let h : IsEnded r = record { ending = ending; status = status; ends = ends; says = says } in
    record {
      ends = h;
      by_replay = replayed r h;
      by_node = ran_node r h;
      by_retrace = ran_again r h;
      by_make = is_made r h;
      by_calls = is_called r h;
      by_audit = is_audited r h;
      by_no_command = misnames r h;
      by_status = broken_off r h;
    }
