-- What each command owes, and how a run of the program ends.
use Rattle.std.specs.Prelude.{ℕ, ◌≡◌, ◌⊎◌, ◌<◌, ◌≤◌, List, length, Option, Some, None, IfSome}
use Rattle.std.specs.Io.KnownBytes.{Appends}
use Rattle.dt_audit.specs.declared.outcomes.AuditOutcome.TheVariants as verdict
use Rattle.dt_audit.specs.Audits.{Audits}
use Rattle.dt_calls_input.specs.declared.outcomes.CallsOutcome.TheVariants as called
use Rattle.dt_calls_input.specs.CallEnds.{CallsEnd}
use Rattle.dt_edges.specs.Counts.{HasRisen}
use Rattle.dt_edges.specs.Sinks.{SinkSight, Takes, TakesPart}
use Rattle.dt_make.specs.Schedules.{make_text}
use Rattle.dt_node.specs.Answering.{Answers}
use Rattle.dt_node.specs.Completing.{Completes}
use Rattle.dt_node.specs.Serving.{Edges, edges}
use Rattle.dt_node.specs.declared.output_forms.OutputForm.{OutputForm}
use Rattle.dt_node.specs.declared.output_forms.OutputForm.TheVariants as forms
use Rattle.dt_node.specs.declared.outcomes.NodeOutcome.{NodeOutcome}
use Rattle.dt_node.specs.declared.outcomes.NodeOutcome.TheVariants as node
use Rattle.dt_replay.specs.declared.outcomes.Outcome.TheVariants as outcome
use Rattle.dt_replay.specs.Replays.{Replays}
use Rattle.dt_node.specs.Retracing.{Retraces}
use Rattle.dt_command.specs.declared.command.Command.{Command}
use Rattle.dt_command.specs.declared.command.Command.TheVariants.{Serve, Make}
use Rattle.dt_command.specs.declared.job.Job.{Job}
use Rattle.dt_command.specs.declared.job.Job.TheVariants.{Replay, Node, Trace, Retrace, Calls, Audit}
use Rattle.dt_top.specs.declared.ending.Ending.{Ending}
use Rattle.dt_top.specs.declared.ending.Ending.TheVariants.{Done, Usage, TooLong, Refused, NoMemory, WireFault, ClockStill, ReadFault, WriteFault}
use Rattle.dt_top.specs.Endings.{node_ending, status_of}
use Rattle.dt_top.specs.Inputs.{limit}
use Rattle.dt_top.specs.Streams.{Effects, NoEffects, StreamSights, OwesFor, Untouched}

-- for a schedule: its log
abbrev pub replay_owes : Ending → List ℕ → Effects → Type 0
replay_owes Done octets e = Replays outcome.Done octets e.out_before e.out_after
replay_owes Usage octets e = ⊥
replay_owes TooLong octets e = ⊥
replay_owes Refused octets e = Replays outcome.Refused octets e.out_before e.out_after
replay_owes NoMemory octets e = Replays outcome.NoMemory octets e.out_before e.out_after
replay_owes WireFault octets e = ⊥
replay_owes ClockStill octets e = ⊥
replay_owes ReadFault octets e = ⊥
replay_owes WriteFault octets e = Replays outcome.WriteFault octets e.out_before e.out_after

-- for the script of a node: what the node does, by the form of what is written
abbrev pub before : Effects → Edges
before e = edges e.wire_before e.clock_before e.out_before

abbrev pub after : Effects → Edges
after e = edges e.wire_after e.clock_after e.out_after

pub record NodeAnswers (form : OutputForm) (outcome : NodeOutcome) (octets : List ℕ) (e : Effects) : Type 0 where
  pub answers : Answers form octets outcome (before e) (after e)
  pub completes : Completes octets outcome (before e) (after e)

abbrev pub node_owes : OutputForm → Ending → List ℕ → Effects → Type 0
node_owes form Done octets e = NodeAnswers form node.Done octets e
node_owes form Usage octets e = ⊥
node_owes form TooLong octets e = ⊥
node_owes form Refused octets e = NodeAnswers form node.Refused octets e
node_owes form NoMemory octets e = NodeAnswers form node.NoMemory octets e
node_owes form WireFault octets e = NodeAnswers form node.WireFault octets e
node_owes form ClockStill octets e = NodeAnswers form node.ClockStill octets e
node_owes form ReadFault octets e = ⊥
node_owes form WriteFault octets e = NodeAnswers form node.WriteFault octets e

-- for a script and a trace: what the run does that is run again
abbrev pub retrace_owes : Ending → List ℕ → Effects → Type 0
retrace_owes Done octets e = Retraces octets node.Done e.out_before e.out_after
retrace_owes Usage octets e = ⊥
retrace_owes TooLong octets e = ⊥
retrace_owes Refused octets e = Retraces octets node.Refused e.out_before e.out_after
retrace_owes NoMemory octets e = Retraces octets node.NoMemory e.out_before e.out_after
retrace_owes WireFault octets e = Retraces octets node.WireFault e.out_before e.out_after
retrace_owes ClockStill octets e = Retraces octets node.ClockStill e.out_before e.out_after
retrace_owes ReadFault octets e = ⊥
retrace_owes WriteFault octets e = Retraces octets node.WriteFault e.out_before e.out_after

-- for an input of calls: what is reported of them
abbrev pub calls_owes : Ending → List ℕ → Effects → Type 0
calls_owes Done octets e = CallsEnd called.Done octets e.out_before e.out_after
calls_owes Usage octets e = ⊥
calls_owes TooLong octets e = ⊥
calls_owes Refused octets e = CallsEnd called.Refused octets e.out_before e.out_after
calls_owes NoMemory octets e = CallsEnd called.NoMemory octets e.out_before e.out_after
calls_owes WireFault octets e = ⊥
calls_owes ClockStill octets e = ⊥
calls_owes ReadFault octets e = ⊥
calls_owes WriteFault octets e = CallsEnd called.WriteFault octets e.out_before e.out_after

-- for a log: the verdict on it
abbrev pub audit_owes : Ending → List ℕ → Effects → Type 0
audit_owes Done octets e = Audits verdict.Yes octets e.out_before e.out_after
audit_owes Usage octets e = ⊥
audit_owes TooLong octets e = ⊥
audit_owes Refused octets e = Audits verdict.No octets e.out_before e.out_after
audit_owes NoMemory octets e = Audits verdict.NoMemory octets e.out_before e.out_after
audit_owes WireFault octets e = ⊥
audit_owes ClockStill octets e = ⊥
audit_owes ReadFault octets e = ⊥
audit_owes WriteFault octets e = Audits verdict.WriteFault octets e.out_before e.out_after

-- the generator's schedule, which takes no memory
abbrev pub MakeOwes : ℕ → Ending → Effects → Type 0
MakeOwes n Done e = Takes (make_text n) e.out_before e.out_after
MakeOwes n Usage e = ⊥
MakeOwes n TooLong e = ⊥
MakeOwes n Refused e = ⊥
MakeOwes n NoMemory e = ⊥
MakeOwes n WireFault e = ⊥
MakeOwes n ClockStill e = ⊥
MakeOwes n ReadFault e = ⊥
MakeOwes n WriteFault e = TakesPart (make_text n) e.out_before e.out_after

-- what is owed for an input, by the job and by how it ends
abbrev pub job_owes : Job → Ending → List ℕ → Effects → Type 0
job_owes Replay ending octets e = replay_owes ending octets e
job_owes Node ending octets e = node_owes forms.Log ending octets e
job_owes Trace ending octets e = node_owes forms.Trace ending octets e
job_owes Retrace ending octets e = retrace_owes ending octets e
job_owes Calls ending octets e = calls_owes ending octets e
job_owes Audit ending octets e = audit_owes ending octets e

-- What is true of a failing wire: its count of faults rose, or it is a recorded failure that was met.
abbrev pub WireFailed : Job → Option (List ℕ) → Effects → Type 0
WireFailed Replay left e = ⊥
WireFailed Node left e = HasRisen e.wire_before.take_faults e.wire_after.take_faults
WireFailed Trace left e = HasRisen e.wire_before.take_faults e.wire_after.take_faults
WireFailed Retrace left e = IfSome left (λ octets. Retraces octets node.WireFault e.out_before e.out_after)
WireFailed Calls left e = ⊥
WireFailed Audit left e = ⊥

-- what `retrace` leaves over the script and the trace of a run that left this log and this answer: the same, but where memory ran out, or its own source or sink failed
abbrev pub RunsAgain : (log : List ℕ) → (outcome : NodeOutcome) → (status : ℕ) → (before after : SinkSight) → Type 0
RunsAgain log outcome status before after = ((status ≡ status_of (node_ending outcome)) × Appends before.held after.held log) ⊎ ((status ≡ 4) ⊎ ((status ≡ 7) ⊎ (status ≡ 8)))

-- what is true of an input that is refused: it is too long, and nothing was done, or it is refused by its job
abbrev pub RefusesInput : Job → List ℕ → Effects → Type 0
RefusesInput job octets e = ((limit < length octets) × NoEffects e) ⊎ ((length octets ≤ limit) × job_owes job Refused octets e)

-- WHAT A COMMAND OWES, by how it ends
abbrev pub Owes : Command → Ending → StreamSights → Type 0
Owes (Serve job) ending s = OwesFor (job_owes job) ending s
Owes (Make n) ending s = (s.source_after ≡ s.source_before) × MakeOwes n ending s.effects

-- what is owed where the words name no command
abbrev pub OwesNothing : Ending → StreamSights → Type 0
OwesNothing Done s = ⊥
OwesNothing Usage s = Untouched s
OwesNothing TooLong s = ⊥
OwesNothing Refused s = ⊥
OwesNothing NoMemory s = Untouched s
OwesNothing WireFault s = ⊥
OwesNothing ClockStill s = ⊥
OwesNothing ReadFault s = ⊥
OwesNothing WriteFault s = ⊥

-- HOW A RUN ENDS, and why. Memory may run out with any words, before anything is read.
abbrev pub Ends : Option Command → Ending → StreamSights → Type 0
Ends None ending s = OwesNothing ending s
Ends (Some command) ending s = Owes command ending s ⊎ ((ending ≡ NoMemory) × Untouched s)

-- A text was put on a sink: whole, or a first part of it where the sink's count of faults rose.
abbrev pub Says : List ℕ → SinkSight → SinkSight → Type 0
Says text before after = Takes text before after ⊎ TakesPart text before after
