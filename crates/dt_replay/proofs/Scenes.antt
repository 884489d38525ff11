-- Each line of a schedule keeps the facts of its world: so the world of every schedule is safe.
use Rattle.std.proofs.Common.{ℕ, ◌≡◌, ◌≤◌, suc, List, [], ◌∷◌, length, take, Option, Some, None, refl, subst, sym, IfSome, arith}
use Rattle.std.proofs.lemmas.List.Elements.{All-nil, All-cons}
use Rattle.dt_units.specs.Limits.{IsWithinLimits}
use Rattle.dt_reports.specs.declared.faults.StepFault.{StepFault}
use Rattle.dt_text.specs.InputLines.{lines_of}
use Rattle.dt_text.specs.declared.lines.RunLine.{RunLine}
use Rattle.dt_text.specs.declared.lines.RunLine.TheVariants as runs
use Rattle.dt_text.specs.Tasks.{IsTask, Reads, Sends, Task, task_of}
use Rattle.dt_text.proofs.TaskLaws.{user_task}
use Rattle.dt_world_model.specs.Setup.{Setup, new_world}
use Rattle.dt_world_model.specs.World.{World}
use Rattle.dt_world_model.specs.WorldFacts.{CanHappen, SafeWorld, WorldFacts}
use Rattle.dt_world_model.specs.WorldStep.{WorldEvent, after_event, first_refusal, refusals, step_unless}
use Rattle.dt_world_laws.proofs.Promise.{facts_are_safe}
use Rattle.dt_world_laws.proofs.Running.{run_goes}
use Rattle.dt_world_laws.proofs.Starts.{new_world_facts}
use Rattle.dt_scenario.specs.Parts.{IsLineOf}
use Rattle.dt_scenario.specs.Scenes.{event_by}
use Rattle.dt_scenario.proofs.Happenings.{can_happen}
use Rattle.dt_scenario.proofs.Keeping.{IfTurned, facts_after}
use Rattle.dt_replay.specs.Schedules.{by_step, does, event_of_task, replayed, simulates_world, world_after_lines, world_of}

-- The parameters are within their limits, and the world has its facts, after any number of lines.
abbrev HasFacts : ℕ → World → Type 0
HasFacts count w = IsWithinLimits w.params × WorldFacts w

later : (count more : ℕ) (w : World) → count ≤ more → HasFacts count w → HasFacts more w
later count more w l h = h

starts : (count : ℕ) (setup : Setup) → IsWithinLimits setup.params → HasFacts count (new_world setup)
starts count setup h = (h, new_world_facts setup)

step_kept : (count : ℕ) (w : World) (e : WorldEvent) (fault : Option StepFault) → first_refusal (refusals w e) ≡ fault → HasFacts count w → CanHappen e → IfTurned (HasFacts (suc count)) (by_step (step_unless fault (after_event w e)))
step_kept count w e (Some fault) h facts can = tt
step_kept count w e None h facts can =
    let goes = run_goes (e ∷ []) ([], w) facts.0 facts.1 (All-cons CanHappen e [] can (All-nil CanHappen)) in
    let there = rw h at goes in
    (subst IsWithinLimits (sym there.1) facts.0, there.0.0)

event_kept : (count : ℕ) (w : World) (e : WorldEvent) → HasFacts count w → CanHappen e → IfTurned (HasFacts (suc count)) (by_step (step_unless (first_refusal (refusals w e)) (after_event w e)))
event_kept count w e h can = step_kept count w e (first_refusal (refusals w e)) refl h can

-- the flow of a task has its numbers in their ranges
pub task_can : (task : Task) → IsTask task → CanHappen (event_of_task task)
task_can (Sends flow begin end octets) h = h.0
task_can (Reads flow most) h = h.0

line_kept : (count : ℕ) (w : World) (line : RunLine) → IsLineOf simulates_world line → HasFacts count w → IfTurned (HasFacts (suc count)) (does w line)
line_kept count w (runs.World line) is h = event_kept count w (event_by line) h (can_happen line)
line_kept count w (runs.User line) is h = event_kept count w (event_of_task (task_of line)) h (task_can (task_of line) (user_task line is))
line_kept count w (runs.Call f hex) is h = tt

-- a world with its facts is safe
safe_if : (count : ℕ) (o : Option World) → IfSome o (λ w. HasFacts count w) → IfSome o (λ w. SafeWorld w)
safe_if count None h = tt
safe_if count (Some w) h = λ f. facts_are_safe w f h.1

pub lines_safe : (count : ℕ) (octets : List ℕ) → IfSome (world_after_lines count octets) (λ w. SafeWorld w)
unfolding world_after_lines
lines_safe count octets =
    let lines = take count (lines_of octets) in
    safe_if (length lines) (world_after_lines count octets) (facts_after simulates_world HasFacts later starts line_kept (length lines) lines (omega arith))

pub all_safe : (octets : List ℕ) → IfSome (world_of octets) (λ w. SafeWorld w)
unfolding replayed
all_safe octets =
    let lines = lines_of octets in
    safe_if (length lines) (world_of octets) (facts_after simulates_world HasFacts later starts line_kept (length lines) lines (omega arith))
