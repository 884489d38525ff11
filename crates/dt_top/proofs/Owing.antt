-- What a job owes by its ending is what the call says of the outcome that it ends with. Each last lemma takes the job, the ending and the sights after the call by what they are equal to.
use Rattle.std.proofs.Common.{◌≡◌, ◌∙◌, ℕ, List, sym, subst}
use Rattle.dt_audit.specs.Audits.{Audits}
use Rattle.dt_audit.specs.declared.outcomes.AuditOutcome.{AuditOutcome}
use Rattle.dt_audit.specs.declared.outcomes.AuditOutcome.TheVariants as verdict
use Rattle.dt_calls_input.specs.CallEnds.{CallsEnd}
use Rattle.dt_calls_input.specs.declared.outcomes.CallsOutcome.{CallsOutcome}
use Rattle.dt_calls_input.specs.declared.outcomes.CallsOutcome.TheVariants as called
use Rattle.dt_edges.specs.Clocks.{ClockSight}
use Rattle.dt_edges.specs.Sinks.{SinkSight}
use Rattle.dt_edges.specs.Wires.{WireSight}
use Rattle.dt_node.specs.Answering.{Answers}
use Rattle.dt_node.specs.Completing.{Completes}
use Rattle.dt_node.specs.Serving.{Edges, edges}
use Rattle.dt_node.specs.declared.output_forms.OutputForm.{OutputForm}
use Rattle.dt_node.specs.declared.output_forms.OutputForm.TheVariants as forms
use Rattle.dt_node.specs.declared.outcomes.NodeOutcome.{NodeOutcome}
use Rattle.dt_node.specs.declared.outcomes.NodeOutcome.TheVariants as node
use Rattle.dt_replay.specs.Replays.{Replays}
use Rattle.dt_replay.specs.declared.outcomes.Outcome.{Outcome}
use Rattle.dt_replay.specs.declared.outcomes.Outcome.TheVariants as outcome
use Rattle.dt_node.specs.Retracing.{Retraces}
use Rattle.dt_top.specs.declared.ending.Ending.{Ending}
use Rattle.dt_command.specs.declared.job.Job.{Job}
use Rattle.dt_command.specs.declared.job.Job.TheVariants.{Replay, Node, Trace, Retrace, Calls, Audit}
use Rattle.dt_top.specs.Endings.{audit_ending, calls_ending, node_ending, replay_ending}
use Rattle.dt_top.specs.Serving.{NodeAnswers, after, audit_owes, before, calls_owes, job_owes, node_owes, replay_owes, retrace_owes}
use Rattle.dt_top.specs.Streams.{Effects}

replay_of : (result : Outcome) (octets : List ℕ) (e : Effects) → Replays result octets e.out_before e.out_after → replay_owes (replay_ending result) octets e
replay_of outcome.Done octets e h = h
replay_of outcome.Refused octets e h = h
replay_of outcome.NoMemory octets e h = h
replay_of outcome.WriteFault octets e h = h

replay_owed : (result : Outcome) (ending : Ending) (octets : List ℕ) (e : Effects) → ending ≡ replay_ending result
    → Replays result octets e.out_before e.out_after → replay_owes ending octets e
replay_owed result ending octets e is h = subst (λ n. replay_owes n octets e) (sym is) (replay_of result octets e h)

node_of : (form : OutputForm) (result : NodeOutcome) (octets : List ℕ) (e : Effects) → NodeAnswers form result octets e → node_owes form (node_ending result) octets e
node_of form node.Done octets e h = h
node_of form node.Refused octets e h = h
node_of form node.NoMemory octets e h = h
node_of form node.WireFault octets e h = h
node_of form node.ClockStill octets e h = h
node_of form node.WriteFault octets e h = h

node_owed : (form : OutputForm) (result : NodeOutcome) (ending : Ending) (octets : List ℕ) (e : Effects) → ending ≡ node_ending result
    → Answers form octets result (before e) (after e) → Completes octets result (before e) (after e) → node_owes form ending octets e
node_owed form result ending octets e is answers completes =
    subst (λ n. node_owes form n octets e) (sym is) (node_of form result octets e (record { answers = answers; completes = completes }))

retrace_of : (result : NodeOutcome) (octets : List ℕ) (e : Effects) → Retraces octets result e.out_before e.out_after → retrace_owes (node_ending result) octets e
retrace_of node.Done octets e h = h
retrace_of node.Refused octets e h = h
retrace_of node.NoMemory octets e h = h
retrace_of node.WireFault octets e h = h
retrace_of node.ClockStill octets e h = h
retrace_of node.WriteFault octets e h = h

retrace_owed : (result : NodeOutcome) (ending : Ending) (octets : List ℕ) (e : Effects) → ending ≡ node_ending result
    → Retraces octets result e.out_before e.out_after → retrace_owes ending octets e
retrace_owed result ending octets e is h = subst (λ n. retrace_owes n octets e) (sym is) (retrace_of result octets e h)

calls_of : (result : CallsOutcome) (octets : List ℕ) (e : Effects) → CallsEnd result octets e.out_before e.out_after → calls_owes (calls_ending result) octets e
calls_of called.Done octets e h = h
calls_of called.Refused octets e h = h
calls_of called.NoMemory octets e h = h
calls_of called.WriteFault octets e h = h

calls_owed : (result : CallsOutcome) (ending : Ending) (octets : List ℕ) (e : Effects) → ending ≡ calls_ending result
    → CallsEnd result octets e.out_before e.out_after → calls_owes ending octets e
calls_owed result ending octets e is h = subst (λ n. calls_owes n octets e) (sym is) (calls_of result octets e h)

audit_of : (result : AuditOutcome) (octets : List ℕ) (e : Effects) → Audits result octets e.out_before e.out_after → audit_owes (audit_ending result) octets e
audit_of verdict.Yes octets e h = h
audit_of verdict.No octets e h = h
audit_of verdict.NoMemory octets e h = h
audit_of verdict.WriteFault octets e h = h

audit_owed : (result : AuditOutcome) (ending : Ending) (octets : List ℕ) (e : Effects) → ending ≡ audit_ending result
    → Audits result octets e.out_before e.out_after → audit_owes ending octets e
audit_owed result ending octets e is h = subst (λ n. audit_owes n octets e) (sym is) (audit_of result octets e h)

-- BY JOB

pub by_replay : (job : Job) (ending own : Ending) (octets : List ℕ) (e : Effects) (result : Outcome) (out : SinkSight) → job ≡ Replay → ending ≡ own → own ≡ replay_ending result
    → e.out_after ≡ out → Replays result octets e.out_before out → job_owes job ending octets e
by_replay job ending own octets e result out j i is o h =
    subst (λ k. job_owes k ending octets e) (sym j) (replay_owed result ending octets e (i ∙ is) (subst (λ s. Replays result octets e.out_before s) (sym o) h))

pub by_retrace : (job : Job) (ending own : Ending) (octets : List ℕ) (e : Effects) (result : NodeOutcome) (out : SinkSight) → job ≡ Retrace → ending ≡ own → own ≡ node_ending result
    → e.out_after ≡ out → Retraces octets result e.out_before out → job_owes job ending octets e
by_retrace job ending own octets e result out j i is o h =
    subst (λ k. job_owes k ending octets e) (sym j) (retrace_owed result ending octets e (i ∙ is) (subst (λ s. Retraces octets result e.out_before s) (sym o) h))

pub by_calls : (job : Job) (ending own : Ending) (octets : List ℕ) (e : Effects) (result : CallsOutcome) (out : SinkSight) → job ≡ Calls → ending ≡ own → own ≡ calls_ending result
    → e.out_after ≡ out → CallsEnd result octets e.out_before out → job_owes job ending octets e
by_calls job ending own octets e result out j i is o h =
    subst (λ k. job_owes k ending octets e) (sym j) (calls_owed result ending octets e (i ∙ is) (subst (λ s. CallsEnd result octets e.out_before s) (sym o) h))

pub by_audit : (job : Job) (ending own : Ending) (octets : List ℕ) (e : Effects) (result : AuditOutcome) (out : SinkSight) → job ≡ Audit → ending ≡ own → own ≡ audit_ending result
    → e.out_after ≡ out → Audits result octets e.out_before out → job_owes job ending octets e
by_audit job ending own octets e result out j i is o h =
    subst (λ k. job_owes k ending octets e) (sym j) (audit_owed result ending octets e (i ∙ is) (subst (λ s. Audits result octets e.out_before s) (sym o) h))

with_after : (P : Edges → Type 0) (e : Effects) (wire : WireSight) (clock : ClockSight) (out : SinkSight) → e.wire_after ≡ wire → e.clock_after ≡ clock → e.out_after ≡ out → P (edges wire clock out) → P (after e)
with_after P e wire clock out w c o h =
    subst (λ s. P (edges s e.clock_after e.out_after)) (sym w) (subst (λ s. P (edges wire s e.out_after)) (sym c) (subst (λ s. P (edges wire clock s)) (sym o) h))

by_form : (form : OutputForm) (ending own : Ending) (octets : List ℕ) (e : Effects) (result : NodeOutcome) (wire : WireSight) (clock : ClockSight) (out : SinkSight) → ending ≡ own → own ≡ node_ending result
    → e.wire_after ≡ wire → e.clock_after ≡ clock → e.out_after ≡ out → Answers form octets result (before e) (edges wire clock out) → Completes octets result (before e) (edges wire clock out) → node_owes form ending octets e
by_form form ending own octets e result wire clock out i is w c o answers completes =
    node_owed form result ending octets e (i ∙ is)
    (with_after (λ s. Answers form octets result (before e) s) e wire clock out w c o answers)
    (with_after (λ s. Completes octets result (before e) s) e wire clock out w c o completes)

pub by_node : (job : Job) (ending own : Ending) (octets : List ℕ) (e : Effects) (result : NodeOutcome) (wire : WireSight) (clock : ClockSight) (out : SinkSight) → job ≡ Node → ending ≡ own → own ≡ node_ending result
    → e.wire_after ≡ wire → e.clock_after ≡ clock → e.out_after ≡ out → Answers forms.Log octets result (before e) (edges wire clock out) → Completes octets result (before e) (edges wire clock out) → job_owes job ending octets e
by_node job ending own octets e result wire clock out j i is w c o answers completes =
    subst (λ k. job_owes k ending octets e) (sym j) (by_form forms.Log ending own octets e result wire clock out i is w c o answers completes)

pub by_trace : (job : Job) (ending own : Ending) (octets : List ℕ) (e : Effects) (result : NodeOutcome) (wire : WireSight) (clock : ClockSight) (out : SinkSight) → job ≡ Trace → ending ≡ own → own ≡ node_ending result
    → e.wire_after ≡ wire → e.clock_after ≡ clock → e.out_after ≡ out → Answers forms.Trace octets result (before e) (edges wire clock out) → Completes octets result (before e) (edges wire clock out) → job_owes job ending octets e
by_trace job ending own octets e result wire clock out j i is w c o answers completes =
    subst (λ k. job_owes k ending octets e) (sym j) (by_form forms.Trace ending own octets e result wire clock out i is w c o answers completes)
