-- What each line of a schedule tells passes.
use Rattle.std.proofs.Common.{ℕ, zero, suc, ◌+◌, ◌<◌, ◌≤◌, ◌^◌, ◌≡◌, ◌==◌, false, List, [], ◌∷◌, ◌++◌, length, map, Option, Some, None, Result, Ok, Err, refl, ap, sym, subst, ◌∙◌, append-nil, arith}
use Rattle.std.proofs.lemmas.List.{map-append}
use Rattle.std.proofs.lemmas.List.Concat.{flat_map-append}
use Rattle.dt_units.specs.declared.parameters.Params.{Params}
use Rattle.dt_units.specs.declared.parameters.Field.{Field}
use Rattle.dt_units.specs.Limits.{first_out_of_range}
use Rattle.dt_units.proofs.Within.{within_limits}
use Rattle.dt_reports.specs.Entries.{Entry}
use Rattle.dt_log.specs.Logs.{entry_text, log_text}
use Rattle.dt_reports.specs.declared.faults.Fault.{Fault}
use Rattle.dt_reports.specs.declared.faults.Fault.TheVariants as faults
use Rattle.dt_reports.specs.declared.faults.LineFault.{LineFault}
use Rattle.dt_reports.specs.declared.faults.LineFault.TheVariants.{Order}
use Rattle.dt_reports.specs.declared.faults.SetupFault.{SetupFault}
use Rattle.dt_text.specs.declared.lines.Form.TheVariants.{Schedule}
use Rattle.dt_text.specs.declared.stages.Stage.{Stage}
use Rattle.dt_text.specs.InputLines.{lines_of}
use Rattle.dt_text.specs.declared.lines.Line.TheVariants as said
use Rattle.dt_text.specs.declared.lines.RunLine.{RunLine}
use Rattle.dt_text.specs.declared.lines.RunLine.TheVariants as runs
use Rattle.dt_text.specs.Said.{Said}
use Rattle.dt_text.specs.Tasks.{Reads, Sends, Task, task_of}
use Rattle.dt_text.proofs.TaskLaws.{user_task}
use Rattle.dt_text.specs.declared.lines.SetupLine.{SetupLine}
use Rattle.dt_text.specs.declared.lines.SetupLine.TheVariants as setups
use Rattle.dt_text.specs.declared.lines.WorldLine.{WorldLine}
use Rattle.dt_text.specs.declared.lines.WorldLine.TheVariants as worlds
use Rattle.dt_text.specs.Lines.{line_of}
use Rattle.dt_text.specs.Spelling.{IsLine}
use Rattle.dt_text.specs.Stages.{stage_after}
use Rattle.dt_fold.specs.Folds.{Folded, Turned, closed, fold_from, fold_on, refusal, refusal_entry, refused}
use Rattle.dt_world_model.specs.Setup.{AddLink, AddRoute, AddStation, Setup, SetupCall, added, new_world, setup_refusals, setup_unless}
use Rattle.dt_world_model.specs.Tables.{AllEntries}
use Rattle.dt_world_model.specs.World.{World, last_lines}
use Rattle.dt_world_model.specs.WorldFacts.{CanHappen}
use Rattle.dt_world_model.specs.WorldStep.{Outcome, Refused, Stepped, WorldEvent, first_refusal, world_step}
use Rattle.dt_scenario.specs.Scenes.{Empty, Prepares, Runs, Scene, adds, call_of, event_by, by_params, by_run, by_setup, close, done_by, done_if, goes, happens, scenario_turns, stage_of, turn, turn_read}
use Rattle.dt_scenario.proofs.Happenings.{can_happen}
use Rattle.dt_scenario.proofs.Keeping.{read_line}
use Rattle.dt_replay.proofs.Scenes.{task_can}
use Rattle.dt_replay.specs.Schedules.{by_step, does, event_of_task, replay_text, replayed, simulates_world}
use Rattle.dt_audit.specs.declared.facts.Fact.{Fact}
use Rattle.dt_audit.specs.Audits.{has_flaw}
use Rattle.dt_audit.specs.Books.{Book, begun}
use Rattle.dt_audit.specs.LogRows.{FlowLog, by_rows}
use Rattle.dt_audit.specs.Telling.{AreWritten, fact_told}
use Rattle.dt_audit_laws.specs.Bounds.{IsShort}
use Rattle.dt_audit_laws.specs.Logged.{CanBeSetUp, IsLogged}
use Rattle.dt_audit_laws.specs.Logs.{FactsPass}
use Rattle.dt_audit_laws.proofs.Bounding.{last_pass, last_written, passes_log, written_then}
use Rattle.dt_audit_laws.proofs.Lines.{passes_then}
use Rattle.dt_audit_laws.proofs.Running.{begun_logged, logged_more, step_passes}

-- Before the world nothing was told, and its stations have numbers of 32 bits. The world's log passes, up to now.
abbrev IsSceneLogged : ℕ → Scene World → Book FlowLog → Type 0
IsSceneLogged count Empty book = book ≡ begun by_rows
IsSceneLogged count (Prepares setup) book = CanBeSetUp setup × (book ≡ begun by_rows)
IsSceneLogged count (Runs w) book = IsLogged count w book

-- a text that was logged is that of lines that are read back and pass, and lead to what a scene has
record TellsTo (count : ℕ) (text : List ℕ) (scene : Scene World) (book : Book FlowLog) : Type 0 where
  told : List Entry
  logs : text ≡ log_text told
  next : Book FlowLog
  passes : FactsPass (map fact_told told) book next
  written : AreWritten told
  logged : IsSceneLogged count scene next

abbrev TurnPasses : ℕ → Book FlowLog → Result (Turned (Scene World)) Fault → Type 0
TurnPasses count book (Ok turned) = TellsTo count turned.text turned.state book
TurnPasses count book (Err fault) = Unit {0}

tells_nothing : (count : ℕ) (scene : Scene World) (book : Book FlowLog) → IsSceneLogged count scene book → TellsTo count [] scene book
tells_nothing count scene book h = record { told = []; logs = refl; next = book; passes = refl; written = tt; logged = h }

scene_more : (count : ℕ) (scene : Scene World) (book : Book FlowLog) → IsSceneLogged count scene book → IsSceneLogged (suc count) scene book
scene_more count Empty book h = h
scene_more count (Prepares setup) book h = h
scene_more count (Runs w) book h = logged_more count w book h

-- SETUPS
params_passes : (count : ℕ) (book : Book FlowLog) (p : Params) (field : Option Field) → first_out_of_range p ≡ field → book ≡ begun by_rows → TurnPasses count book (by_params p field)
params_passes count book p None h same = tells_nothing count _ book (record { limits = within_limits p h; stations = tt }, same)
params_passes count book p (Some field) h same = tt

-- a call with a number of 32 bits
abbrev IsCallSmall : SetupCall → Type 0
IsCallSmall (AddStation n ahead) = n < 2 ^ 32
IsCallSmall (AddLink link) = Unit {0}
IsCallSmall (AddRoute at route) = Unit {0}

all_more : (n ahead : ℕ) (es : List (ℕ × ℕ)) → n < 2 ^ 32 → AllEntries (λ (n ahead : ℕ). n < 2 ^ 32) es → AllEntries (λ (n ahead : ℕ). n < 2 ^ 32) (es ++ (n, ahead) ∷ [])
all_more n ahead [] small h = (small, tt)
all_more n ahead (e ∷ es) small h = (h.0, all_more n ahead es small h.1)

added_can : (setup : Setup) (call : SetupCall) → IsCallSmall call → CanBeSetUp setup → CanBeSetUp (added setup call)
added_can setup (AddStation n ahead) small h = record { limits = h.limits; stations = all_more n ahead setup.stations small h.stations }
added_can setup (AddLink link) small h = record { limits = h.limits; stations = h.stations }
added_can setup (AddRoute at route) small h = record { limits = h.limits; stations = h.stations }

setup_passes : (count : ℕ) (book : Book FlowLog) (setup : Setup) (call : SetupCall) (fault : Option SetupFault) → IsCallSmall call → IsSceneLogged count (Prepares setup) book → TurnPasses count book (by_setup (setup_unless fault (added setup call)))
setup_passes count book setup call None small h = tells_nothing count _ book (added_can setup call small h.0, h.1)
setup_passes count book setup call (Some fault) small h = tt

setup_turn : (count : ℕ) (book : Book FlowLog) (scene : Scene World) (call : SetupCall) → IsCallSmall call → IsSceneLogged count scene book → TurnPasses count book (adds scene call)
setup_turn count book Empty call small h = tt
setup_turn count book (Prepares setup) call small h = setup_passes count book setup call (first_refusal (setup_refusals setup call)) small h
setup_turn count book (Runs w) call small h = tt

-- THE WORLD BEGINS
begins_more : (count : ℕ) (w : World) (book : Book FlowLog) → IsLogged 0 w book → IsLogged count w book
begins_more zero w book h = h
begins_more (suc count) w book h = logged_more count w book (begins_more count w book h)

go_turn : (count : ℕ) (book : Book FlowLog) (scene : Scene World) → IsSceneLogged count scene book → TurnPasses count book (goes simulates_world scene)
go_turn count book Empty h = tt
go_turn count book (Prepares setup) h = tells_nothing count (Runs (new_world setup)) book (begins_more count (new_world setup) book (subst (λ (b : Book FlowLog). IsLogged 0 (new_world setup) b) (sym h.1) (begun_logged setup h.0)))
go_turn count book (Runs w) h = tt

-- A STEP
step_turn : (count : ℕ) (book : Book FlowLog) (w : World) (e : WorldEvent) (o : Outcome) → world_step w e ≡ o → suc count < 2 ^ 32 → CanHappen e → IsShort e → IsLogged count w book → TurnPasses (suc count) book (by_run (by_step o))
step_turn count book w e (Refused fault) is small can short h = tt
step_turn count book w e (Stepped lines after) is small can short h =
    let one = step_passes count w book e lines after small can short h is in
    record { told = lines; logs = refl; next = one.next; passes = one.passes; written = one.written; logged = one.logged }

happens_turn : (count : ℕ) (book : Book FlowLog) (scene : Scene World) (line : RunLine) → ((w : World) → IsLogged count w book → TurnPasses (suc count) book (by_run (does w line))) → IsSceneLogged count scene book → TurnPasses (suc count) book (happens simulates_world scene line)
happens_turn count book Empty line on h = tt
happens_turn count book (Prepares setup) line on h = tt
happens_turn count book (Runs w) line on h = on w h

event_turn : (count : ℕ) (book : Book FlowLog) (e : WorldEvent) → suc count < 2 ^ 32 → CanHappen e → IsShort e → (w : World) → IsLogged count w book → TurnPasses (suc count) book (by_run (by_step (world_step w e)))
event_turn count book e small can short w h = step_turn count book w e (world_step w e) refl small can short h

-- LINES of a kind: the numbers of the setup, of what happens and of what a user does are within 32 bits
call_small : (line : SetupLine) → IsLine Schedule (said.Setup line) → IsCallSmall (call_of line)
call_small (setups.Station n ahead) is = omega (arith, is.1.0.1)
call_small line is = search refl

world_short : (line : WorldLine) → IsLine Schedule (said.Run (runs.World line)) → IsShort (event_by line)
world_short (worlds.Pass by) is = omega (arith, is.1.0.1)
world_short line is = search refl

task_short : (task : Task) → IsShort (event_of_task task)
task_short (Sends flow begin end octets) = tt
task_short (Reads flow most) = tt

run_passes : (count : ℕ) (book : Book FlowLog) (line : RunLine) → suc count < 2 ^ 32 → IsLine Schedule (said.Run line) → (w : World) → IsLogged count w book → TurnPasses (suc count) book (by_run (does w line))
run_passes count book (runs.World line) small is w h = event_turn count book (event_by line) small (can_happen line) (world_short line is) w h
run_passes count book (runs.User line) small is w h = event_turn count book (event_of_task (task_of line)) small (task_can (task_of line) (user_task line is)) (task_short (task_of line)) w h
run_passes count book (runs.Call f hex) small is w h = tt

-- A LINE: what it does where it is allowed. `params` is allowed before a world alone
done_passes : (count : ℕ) (book : Book FlowLog) (scene : Scene World) (line : Said) (stage : Stage) → stage_after Schedule (stage_of scene) line ≡ Some stage → suc count < 2 ^ 32 → IsLine Schedule line → IsSceneLogged count scene book → TurnPasses (suc count) book (done_by simulates_world scene line)
done_passes count book scene said.Blank stage on small is h = tells_nothing (suc count) scene book (scene_more count scene book h)
done_passes count book Empty (said.Params p) stage on small is h = params_passes (suc count) book p (first_out_of_range p) refl h
done_passes count book (Prepares setup) (said.Params p) stage on small is h = params_passes (suc count) book p (first_out_of_range p) refl h.1
done_passes count book (Runs w) (said.Params p) stage on small is h = absurd cc
done_passes count book scene said.Go stage on small is h = go_turn (suc count) book scene (scene_more count scene book h)
done_passes count book scene (said.Setup line) stage on small is h = setup_turn (suc count) book scene (call_of line) (call_small line is) (scene_more count scene book h)
done_passes count book scene (said.Run line) stage on small is h = happens_turn count book scene line (run_passes count book line small is) h
done_passes count book scene (said.Script line) stage on small is h = tt

allowed_passes : (count : ℕ) (book : Book FlowLog) (scene : Scene World) (line : Said) (stage : Option Stage) → stage_after Schedule (stage_of scene) line ≡ stage → suc count < 2 ^ 32 → IsLine Schedule line → IsSceneLogged count scene book → TurnPasses (suc count) book (done_if simulates_world stage scene line)
allowed_passes count book scene line None on small is h = tt
allowed_passes count book scene line (Some stage) on small is h = done_passes count book scene line stage on small is h

turn_passes : (count : ℕ) (book : Book FlowLog) (scene : Scene World) (octets : List ℕ) (r : Result Said LineFault) → line_of Schedule octets ≡ r → suc count < 2 ^ 32 → IsSceneLogged count scene book → TurnPasses (suc count) book (turn_read simulates_world scene r)
turn_passes count book scene octets (Err fault) e small h = tt
turn_passes count book scene octets (Ok line) e small h = allowed_passes count book scene line (stage_after Schedule (stage_of scene) line) refl small (read_line Schedule octets line e) h

-- A WHOLE SCHEDULE, up to its first refused line, where it has one
record FoldPasses (book : Book FlowLog) (text : List ℕ) : Type 0 where
  told : List Entry
  logs : text ≡ log_text told
  next : Book FlowLog
  passes : FactsPass (map fact_told told) book next
  written : AreWritten told

-- what is reported of a refused line says nothing of octets and lives
refused_passes : (number : ℕ) (book : Book FlowLog) (scene : Scene World) (fault : Fault) → FoldPasses book (refused number scene fault).text
refused_passes number book scene fault =
    record {
      told = refusal_entry number fault ∷ [];
      logs = sym (append-nil (refusal number fault));
      next = book;
      passes = (book, refl, refl);
      written = (record { moment = omega arith; node = tt; told = tt }, tt);
    }

closed_passes : (count number : ℕ) (book : Book FlowLog) (scene : Scene World) → count < 2 ^ 32 → IsSceneLogged count scene book → FoldPasses book (closed number scene (close simulates_world scene)).text
closed_passes count number book Empty small h = refused_passes number book Empty (faults.Line Order)
closed_passes count number book (Prepares setup) small h = refused_passes number book (Prepares setup) (faults.Line Order)
closed_passes count number book (Runs w) small h = record { told = last_lines w; logs = refl; next = book; passes = last_pass w book; written = last_written w (omega (arith, h.within.now, small)) }

on_passes : (count number : ℕ) (book : Book FlowLog) (scene : Scene World) (rest : Scene World → Folded (Scene World)) (r : Result (Turned (Scene World)) Fault) → TurnPasses (suc count) book r
    → ((after : Scene World) (next : Book FlowLog) → IsSceneLogged (suc count) after next → FoldPasses next (rest after).text) → FoldPasses book (fold_on number scene rest r).text
on_passes count number book scene rest (Err fault) turned on = refused_passes number book scene fault
on_passes count number book scene rest (Ok t) turned on =
    let more = on t.state turned.next turned.logged in
    record {
      told = turned.told ++ more.told;
      logs = ap (λ xs. xs ++ (rest t.state).text) turned.logs ∙ ap (λ xs. log_text turned.told ++ xs) more.logs ∙ sym (flat_map-append entry_text turned.told more.told);
      next = more.next;
      passes = subst (λ (facts : List Fact). FactsPass facts book more.next) (sym (map-append fact_told turned.told more.told)) (passes_then (map fact_told turned.told) (map fact_told more.told) book turned.next more.next turned.passes more.passes);
      written = written_then turned.told more.told turned.written more.written;
    }

fold_passes : (count number : ℕ) (book : Book FlowLog) (scene : Scene World) (lines : List (List ℕ)) → count + length lines < 2 ^ 32 → IsSceneLogged count scene book → FoldPasses book (fold_from (scenario_turns simulates_world) number scene lines).text
unfolding fold_from
fold_passes count number book scene [] few h = closed_passes count number book scene (omega arith) h
fold_passes count number book scene (line ∷ lines) few h =
    on_passes count number book scene (λ next. fold_from (scenario_turns simulates_world) (suc number) next lines) (turn simulates_world scene line) (turn_passes count book scene line (line_of Schedule line) refl (omega arith) h)
    (λ after next logged. fold_passes (suc count) (suc number) next after lines (omega arith) logged)

-- THE LOG OF A SCHEDULE HAS NO FLAW
pub schedule_passes : (octets : List ℕ) → length (lines_of octets) < 2 ^ 32 → has_flaw (replay_text octets) ≡ false
unfolding replayed
schedule_passes octets few =
    let h = fold_passes 0 1 (begun by_rows) Empty (lines_of octets) (omega arith) refl in
    ap has_flaw h.logs ∙ passes_log h.told h.next h.written h.passes
