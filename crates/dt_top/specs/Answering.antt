-- WHAT `run` ANSWERS, by command and by status. `IsEnded` is the whole statement, from which all else follows.
use Rattle.std.specs.Prelude.{ℕ, ◌≡◌, ◌⊎◌, ◌≤◌, ◌<◌, ◌^◌, true, false, List, [], length, Some, None, IfSome}
use Rattle.dt_audit.specs.Audits.{audit_text, has_flaw}
use Rattle.dt_calls_input.specs.CallAnswers.{TellsOwnAnswers}
use Rattle.dt_calls_input.specs.CallInputs.{are_calls_accepted, calls_text}
use Rattle.dt_edges.specs.Sinks.{Takes}
use Rattle.dt_fold.specs.Logging.{HasAll, HasPart}
use Rattle.dt_log.specs.Logs.{log_text}
use Rattle.dt_make.specs.Schedules.{make_text}
use Rattle.dt_node.specs.Acts.{fates, log_lines}
use Rattle.dt_node.specs.Completing.{ReachesStop}
use Rattle.dt_script.specs.Drafts.{script_of}
use Rattle.dt_script.specs.Orders.{Orders}
use Rattle.dt_node.specs.Serving.{Edges, IsWhole}
use Rattle.dt_node.specs.Serving as nodes
use Rattle.dt_node.specs.declared.output_forms.OutputForm.TheVariants as forms
use Rattle.dt_node.specs.declared.outcomes.NodeOutcome.{NodeOutcome}
use Rattle.dt_node.specs.declared.outcomes.NodeOutcome.TheVariants as node
use Rattle.dt_replay.specs.Schedules.{is_accepted, replay_text, world_of}
use Rattle.dt_node.specs.Reaching.{GoesToStop}
use Rattle.dt_node.specs.Repeating.{joined}
use Rattle.dt_node.specs.Retracing.{Retraces}
use Rattle.dt_world_model.specs.WorldFacts.{SafeWorld}
use Rattle.dt_command.specs.declared.command.Command.TheVariants.{Serve, Make}
use Rattle.dt_top.specs.declared.ending.Ending.{Ending}
use Rattle.dt_top.specs.declared.ending.Ending.TheVariants.{ClockStill, NoMemory, WireFault, WriteFault}
use Rattle.dt_command.specs.declared.job.Job.{Job}
use Rattle.dt_command.specs.declared.job.Job.TheVariants.{Replay, Node, Trace, Retrace, Calls, Audit}
use Rattle.dt_top.specs.Endings.{status_of, text_of}
use Rattle.dt_top.specs.Inputs.{limit}
use Rattle.dt_top.specs.Runs.{After, IsFor, IsServedOrLacksMemory, Leaves, OfInput, PutFailed, Run, Serves, TakeFailed, WireTakeFailed}
use Rattle.dt_top.specs.Serving.{Ends, NodeAnswers, RefusesInput, RunsAgain, Says, WireFailed, job_owes}
use Rattle.dt_top.specs.Streams.{Effects, NoEffects}

-- How it ends, and why: no other status is answered, and standard error has the text of the one that is.
pub record IsEnded (r : Run) : Type 0 where
  pub ending : Ending
  pub status : r.status ≡ status_of ending
  pub ends : Ends r.command ending r.streams
  pub says : Says (text_of ending) r.err_before r.err_after

-- `replay`: the log of an accepted schedule, whole, which is THE HEADLINE; a first part of it, where a put failed; that the world of the schedule is safe, whatever the status; and that an accepted schedule is served, where there is memory and nothing fails.
pub record Replayed (r : Run) : Type 0 where
  pub done : After Replay 0 (λ octets. (is_accepted octets ≡ true) × Leaves HasAll (replay_text octets) r) r
  pub part_of_log : After Replay 8 (λ octets. Leaves HasPart (replay_text octets) r) r
  pub whole : IsFor Replay r → OfInput (λ octets. IfSome (world_of octets) SafeWorld) r
  pub complete : Serves Replay (λ octets. is_accepted octets ≡ true) r

-- an accepted script is served by this job, where the clock tells a plan that reaches the stop, there is memory, and nothing fails
abbrev pub CompletesBy : Job → Run → Type 0
CompletesBy job r =
    IsFor job r → OfInput (λ octets. (o : Orders) (plan : List ℕ) → length octets ≤ limit → script_of octets ≡ Some o
    → r.streams.effects.clock_before.plan ≡ Some plan → r.streams.effects.clock_before.readings ≡ Some [] → ReachesStop o.stop plan
    → (TakeFailed r → ⊥) → (PutFailed r → ⊥) → (WireTakeFailed r → ⊥) → IsServedOrLacksMemory r) r

-- `node` and `trace`: all that is said of a node that met its stop, with its log or its trace.
pub record RanNode (r : Run) : Type 0 where
  pub stopped : After Node 0 (λ octets. NodeAnswers forms.Log node.Done octets r.streams.effects) r
  pub traced : After Trace 0 (λ octets. NodeAnswers forms.Trace node.Done octets r.streams.effects) r
  -- By both, an accepted script is served, where the clock tells a plan that reaches the stop, there is memory, and nothing fails.
  pub complete_node : CompletesBy Node r
  pub complete_trace : CompletesBy Trace r

-- `retrace`: a run that was run again, the log of its script over the wire and the clock of its trace.
pub record RanAgain (r : Run) : Type 0 where
  pub retraced : After Retrace 0 (λ octets. Retraces octets node.Done r.streams.effects.out_before r.streams.effects.out_after) r
  -- The same run, again: over the script and the trace of a run that was traced, it ends with the same status and the very log of that run, or with 4, 7 or 8 for itself.
  pub runs_again : IsFor Retrace r → OfInput (λ octets. (script : List ℕ) (o : Orders) (outcome : NodeOutcome) (before after : Edges) → script_of script ≡ Some o
      → (first : nodes.Serves forms.Trace o outcome before after) → IsWhole outcome → length (fates first.deeds) < 2 ^ 64
      → octets ≡ joined script first.text → length octets ≤ limit
      → RunsAgain (log_text (log_lines o.setup.me first.deeds)) outcome r.status r.streams.effects.out_before r.streams.effects.out_after) r
  -- An input without a refused line, whose trace reaches the stop of its script and lists neither an open nor a take that failed, is served.
  pub complete_retrace : Serves Retrace GoesToStop r

-- `make`: the generator's schedule, whole, or a first part of it, where a put failed. No memory is taken but for the words, before anything is written.
pub record IsMade (r : Run) : Type 0 where
  pub made : (n : ℕ) → r.command ≡ Some (Make n) → r.status ≡ 0 → Leaves Takes (make_text n) r
  pub part_of_schedule : (n : ℕ) → r.command ≡ Some (Make n) → r.status ≡ 8 → Leaves HasPart (make_text n) r
  pub complete_make : (n : ℕ) → r.command ≡ Some (Make n) → (PutFailed r → ⊥)
      → (r.status ≡ 0) ⊎ ((r.status ≡ 4) × (r.streams.effects.out_after ≡ r.streams.effects.out_before))

-- `calls`: all that is reported of those of an accepted input, and that it is served. Whatever the status, `answered N` in the text has the octets of the `call` line N in reversed order, and there is such a line.
pub record IsCalled (r : Run) : Type 0 where
  pub called : After Calls 0 (λ octets. (are_calls_accepted octets ≡ true) × Leaves HasAll (calls_text octets) r) r
  pub own_answers : IsFor Calls r → OfInput (λ octets. length octets ≤ limit → TellsOwnAnswers octets) r
  pub complete_calls : Serves Calls (λ octets. are_calls_accepted octets ≡ true) r

-- `audit`: the verdict on a log without a flaw, and that it is served.
pub record IsAudited (r : Run) : Type 0 where
  pub passed : After Audit 0 (λ octets. (has_flaw octets ≡ false) × Leaves Takes (audit_text octets) r) r
  pub complete_audit : Serves Audit (λ octets. has_flaw octets ≡ false) r

-- words that name no command
pub record Misnames (r : Run) : Type 0 where
  pub usage : r.status ≡ 2 → (r.command ≡ None) × (r.streams.source_after ≡ r.streams.source_before) × (r.streams.effects.out_after ≡ r.streams.effects.out_before)
  pub no_command : r.command ≡ None → (r.status ≡ 2) ⊎ (r.status ≡ 4)

-- What is true after each other status, and what stands on the output then: what the job owes by that ending, a first part of its log or verdict, or all lines up to the lost wire. Where no job had its input, nothing was done.
pub record IsBrokenOff (r : Run) : Type 0 where
  -- What is refused is too long, or has a refused line or a flaw, with which what is written ends.
  pub refused : r.status ≡ 3 → (job : Job) × IsFor job r × OfInput (λ octets. RefusesInput job octets r.streams.effects) r
  pub out_of_memory : r.status ≡ 4 → NoEffects r.streams.effects ⊎ ((job : Job) × IsFor job r × OfInput (λ octets. job_owes job NoMemory octets r.streams.effects) r)
  -- The wire failed, or did so in the run that is run again.
  pub wire_failed : r.status ≡ 5 → (job : Job) × IsFor job r × WireFailed job r.streams.source_before.left r.streams.effects
  pub lost_wire : (job : Job) → After job 5 (λ octets. job_owes job WireFault octets r.streams.effects) r
  pub stood_still : r.status ≡ 6 → (job : Job) × IsFor job r × OfInput (λ octets. job_owes job ClockStill octets r.streams.effects) r
  pub read_failed : r.status ≡ 7 → TakeFailed r × (r.streams.effects.out_after ≡ r.streams.effects.out_before)
  pub write_failed : r.status ≡ 8 → PutFailed r
  pub cut_off : (job : Job) → After job 8 (λ octets. job_owes job WriteFault octets r.streams.effects) r

-- ALL OF IT, of one run
pub record Answers (r : Run) : Type 0 where
  pub ends : IsEnded r
  pub by_replay : Replayed r
  pub by_node : RanNode r
  pub by_retrace : RanAgain r
  pub by_make : IsMade r
  pub by_calls : IsCalled r
  pub by_audit : IsAudited r
  pub by_no_command : Misnames r
  pub by_status : IsBrokenOff r
