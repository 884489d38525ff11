-- What holds of the calls of an input, after each of its lines, and of what is reported of them.
use Rattle.std.proofs.Common.{ℕ, ◌≡◌, ◌+◌, ◌<◌, ◌≤◌, ◌^◌, suc, List, [], ◌∷◌, ◌++◌, length, reverse, take, drop, Option, Some, None, Result, Ok, Err, IfSome, refl, ap, sym, subst, ◌∙◌, arith, append-nil, append_assoc, length-append}
use Rattle.std.proofs.lemmas.Grind.{flat_map-append}
use Rattle.std.proofs.lemmas.List.{get_or_append_left, length-take, take-append-drop, take_at}
use Rattle.std.proofs.lemmas.List.Elements.{All-append, All-nil, All-weaker}
use Rattle.dt_units.specs.declared.parameters.Params.{Params}
use Rattle.dt_units.specs.declared.parameters.Field.{Field}
use Rattle.dt_units.specs.Limits.{IsWithinLimits, first_out_of_range}
use Rattle.dt_units.proofs.Within.{within_limits}
use Rattle.dt_reports.specs.declared.faults.Fault.{Fault}
use Rattle.dt_reports.specs.declared.faults.LineFault.{LineFault}
use Rattle.dt_reports.specs.declared.faults.LineFault.TheVariants.{Order}
use Rattle.dt_reports.specs.declared.faults.Fault.TheVariants as faults
use Rattle.dt_reports.specs.declared.faults.SetupFault.{SetupFault}
use Rattle.dt_text.specs.declared.lines.Form.TheVariants as forms
use Rattle.dt_text.specs.declared.stages.Stage.{Stage}
use Rattle.dt_text.specs.InputLines.{lines_of, most_input}
use Rattle.dt_text.specs.Hexadecimal.{octets_of_hex}
use Rattle.dt_text.specs.Lines.{line_of}
use Rattle.dt_text.specs.declared.lines.Line.TheVariants as said
use Rattle.dt_text.specs.declared.lines.RunLine.{RunLine}
use Rattle.dt_text.specs.declared.lines.RunLine.TheVariants as runs
use Rattle.dt_text.specs.Said.{Said}
use Rattle.dt_text.specs.Spelling.{IsLine}
use Rattle.dt_text.specs.Stages.{stage_after}
use Rattle.dt_fold.specs.Folds.{Folded, Turned, closed, fold_from, fold_on, refused}
use Rattle.dt_world_model.specs.Setup.{AddLink, AddRoute, AddStation, Setup, SetupCall, added, new_world, setup_refusals, setup_unless}
use Rattle.dt_world_model.specs.WorldStep.{first_refusal}
use Rattle.dt_calls_model.specs.CallFacts.{CallFacts}
use Rattle.dt_calls_model.specs.Calls.{Calls, new_calls}
use Rattle.dt_calls_model.specs.CallStep.{CallEvent, Faulty, Happens, Makes, Outcome, Stepped, call_step}
use Rattle.dt_calls_model.specs.CallTold as told
use Rattle.dt_calls_model.specs.CallTold.{CallEntry, CallTold}
use Rattle.dt_calls_model.specs.Promises.{AreItsAnswers, AreMadeWith, AreServedOnce, IsItsAnswer, payloads_in}
use Rattle.dt_calls_laws.specs.MayCome.{MayCome}
use Rattle.dt_calls_laws.proofs.Starting.{new_calls_facts}
use Rattle.dt_calls_laws.proofs.Stepping.{Comes, all_answers, step_answers, step_comes}
use Rattle.dt_scenario.specs.Parts.{IsLineOf}
use Rattle.dt_scenario.specs.Scenes.{Empty, Prepares, Runs, Scene, adds, call_of, event_by, by_params, by_run, by_setup, close, done_by, done_if, goes, happens, scenario_turns, simulated, stage_of, turn, turn_read}
use Rattle.dt_scenario.proofs.Keeping.{read_line}
use Rattle.dt_scenario.proofs.LineCounts.{lines_count}
use Rattle.dt_calls_input.specs.CallAnswers.{AreCallsOf, Closed, Faulted, Last, TellsOwnAnswers, called_behind, called_by, called_in, calls_of, first_called, octets_called, text_of_last}
use Rattle.dt_calls_input.specs.CallInputs.{by_calls, calls_after_lines, calls_read, does, simulates_calls}
use Rattle.dt_calls_input.specs.CallTexts.{call_text, entries_text}
use Rattle.dt_calls_input.proofs.CallTurns.{is_quiet}

abbrev Payloads : Type 0
Payloads = List (List ℕ)

-- After lines with these calls: the parameters are within their limits, and the calls have their facts, and were made with what the lines say.
record IsOfLines (payloads : Payloads) (c : Calls) : Type 0 where
  facts : CallFacts reverse c
  own : AreMadeWith payloads c

abbrev IsScene : Payloads → Scene Calls → Type 0
IsScene payloads Empty = payloads ≡ []
IsScene payloads (Prepares setup) = IsWithinLimits setup.params × (payloads ≡ [])
IsScene payloads (Runs c) = IsOfLines payloads c

-- A LINE that is turned tells right answers.
record IsTurned (payloads : Payloads) (turned : Turned (Scene Calls)) : Type 0 where
  told : List CallEntry
  text : turned.text ≡ entries_text told
  answers : AreItsAnswers reverse payloads told
  scene : IsScene payloads turned.state

abbrev Turns : Payloads → Result (Turned (Scene Calls)) Fault → Type 0
Turns payloads (Ok turned) = IsTurned payloads turned
Turns payloads (Err fault) = Unit {0}

tells_nothing : (payloads : Payloads) (scene : Scene Calls) → IsScene payloads scene → IsTurned payloads (record { text = []; state = scene })
tells_nothing payloads scene h = record { told = []; text = refl; answers = All-nil (λ (e : CallEntry). IsItsAnswer reverse payloads e.told); scene = h }

-- THE SETUP
params_turn : (payloads : Payloads) (p : Params) (field : Option Field) → first_out_of_range p ≡ field → payloads ≡ [] → Turns payloads (by_params p field)
params_turn payloads p None h none = tells_nothing payloads (Prepares _) (within_limits p h, none)
params_turn payloads p (Some field) h none = tt

-- parameters that come after `go` are refused
params_at : (payloads : Payloads) (scene : Scene Calls) (p : Params) (stage : Stage) → stage_after forms.Calls (stage_of scene) (said.Params p) ≡ Some stage → IsScene payloads scene → Turns payloads (by_params p (first_out_of_range p))
params_at payloads Empty p stage is h = params_turn payloads p (first_out_of_range p) refl h
params_at payloads (Prepares setup) p stage is h = params_turn payloads p (first_out_of_range p) refl h.1
params_at payloads (Runs c) p stage is h = absurd cc

added_within : (setup : Setup) (call : SetupCall) → IsWithinLimits setup.params → IsWithinLimits (added setup call).params
added_within setup (AddStation n ahead) h = h
added_within setup (AddLink link) h = h
added_within setup (AddRoute at route) h = h

setup_turn : (payloads : Payloads) (setup : Setup) (call : SetupCall) (fault : Option SetupFault) → IsScene payloads (Prepares setup) → Turns payloads (by_setup (setup_unless fault (added setup call)))
setup_turn payloads setup call None h = tells_nothing payloads (Prepares (added setup call)) (added_within setup call h.0, h.1)
setup_turn payloads setup call (Some fault) h = tt

adds_turn : (payloads : Payloads) (scene : Scene Calls) (call : SetupCall) → IsScene payloads scene → Turns payloads (adds scene call)
adds_turn payloads Empty call h = tt
adds_turn payloads (Prepares setup) call h = setup_turn payloads setup call (first_refusal (setup_refusals setup call)) h
adds_turn payloads (Runs c) call h = tt

none_made : (payloads : Payloads) (setup : Setup) → payloads ≡ [] → AreMadeWith payloads (new_calls (new_world setup))
none_made payloads setup none = record { count = ap length none; carried = λ n lt some. absurd (omega (arith, lt)) }

go_turn : (payloads : Payloads) (scene : Scene Calls) → IsScene payloads scene → Turns payloads (goes simulates_calls scene)
go_turn payloads Empty h = tt
go_turn payloads (Prepares setup) h = tells_nothing payloads (Runs (new_calls (new_world setup))) (record { facts = new_calls_facts reverse setup h.0; own = none_made payloads setup h.1 })
go_turn payloads (Runs c) h = tt

-- WHAT HAPPENS after `go`
outcome_turn : (payloads : Payloads) (c : Calls) (e : CallEvent) (o : Outcome) → AreMadeWith payloads c → Comes reverse c (payloads_in e) o → Turns (payloads ++ payloads_in e) (by_run (by_calls o))
outcome_turn payloads c e (Faulty fault) own h = tt
outcome_turn payloads c e (Stepped entries after) own h =
    let next = h.payloads payloads own in
    record { told = entries; text = refl; answers = all_answers reverse (payloads ++ payloads_in e) after entries next h.told; scene = record { facts = h.facts; own = next } }

event_turn : (payloads : Payloads) (c : Calls) (e : CallEvent) → length payloads < 2 ^ 64 → MayCome e → IsOfLines payloads c → Turns (payloads ++ payloads_in e) (by_run (by_calls (call_step reverse c e)))
event_turn payloads c e few may h = let many = h.own.count in outcome_turn payloads c e (call_step reverse c e) h.own (step_comes reverse c e h.facts (omega (arith, few, many)) may)

line_turn : (payloads : Payloads) (c : Calls) (line : RunLine) → length payloads < 2 ^ 64 → IsLineOf simulates_calls line → IsOfLines payloads c → Turns (payloads ++ called_behind line) (by_run (does c line))
line_turn payloads c (runs.World line) few is h = event_turn payloads c (Happens (event_by line)) few (is_quiet line) h
line_turn payloads c (runs.User line) few is h = tt
line_turn payloads c (runs.Call f hex) few is h = event_turn payloads c (Makes f (octets_of_hex hex.now)) few is.1.0 h

happens_turn : (payloads : Payloads) (scene : Scene Calls) (line : RunLine) → length payloads < 2 ^ 64 → IsLineOf simulates_calls line → IsScene payloads scene → Turns (payloads ++ called_behind line) (happens simulates_calls scene line)
happens_turn payloads Empty line few is h = tt
happens_turn payloads (Prepares setup) line few is h = tt
happens_turn payloads (Runs c) line few is h = line_turn payloads c line few is h

-- a line that makes no call
none_more : (payloads : Payloads) (r : Result (Turned (Scene Calls)) Fault) → Turns payloads r → Turns (payloads ++ []) r
none_more payloads r h = subst (λ (ps : Payloads). Turns ps r) (sym (append-nil payloads)) h

-- WHAT A LINE DOES where its place allows it
module _ (payloads : Payloads) (scene : Scene Calls) (few : length payloads < 2 ^ 64) (h : IsScene payloads scene) where
  done_turn : (line : Said) (stage : Stage) → stage_after forms.Calls (stage_of scene) line ≡ Some stage → IsLine forms.Calls line → Turns (payloads ++ called_by line) (done_by simulates_calls scene line)
  done_turn said.Blank stage at is = none_more payloads (Ok (record { text = []; state = scene })) (tells_nothing payloads scene h)
  done_turn (said.Params p) stage at is = none_more payloads (by_params p (first_out_of_range p)) (params_at payloads scene p stage at h)
  done_turn said.Go stage at is = none_more payloads (goes simulates_calls scene) (go_turn payloads scene h)
  done_turn (said.Setup line) stage at is = none_more payloads (adds scene (call_of line)) (adds_turn payloads scene (call_of line) h)
  done_turn (said.Run line) stage at is = happens_turn payloads scene line few is h
  done_turn (said.Script line) stage at is = tt

  allowed_turn : (line : Said) (stage : Option Stage) → stage_after forms.Calls (stage_of scene) line ≡ stage → IsLine forms.Calls line → Turns (payloads ++ called_by line) (done_if simulates_calls stage scene line)
  allowed_turn line None at is = tt
  allowed_turn line (Some stage) at is = done_turn line stage at is

  read_turn : (octets : List ℕ) (r : Result Said LineFault) → line_of forms.Calls octets ≡ r → Turns (payloads ++ called_in r) (turn_read simulates_calls scene r)
  read_turn octets (Err fault) e = tt
  read_turn octets (Ok line) e = allowed_turn line (stage_after forms.Calls (stage_of scene) line) refl (read_line forms.Calls octets line e)

-- ALL LINES: what they tell, and the calls that they make. Where a line is refused, those after it make none.
record HasRead (payloads : Payloads) (f : Folded (Scene Calls)) : Type 0 where
  told : List CallEntry
  last : Last
  text : f.text ≡ entries_text told ++ text_of_last last
  answers : AreItsAnswers reverse payloads told
  made : Payloads
  rest : Payloads
  all : payloads ≡ made ++ rest
  scene : IsScene made f.state

breaks_off : (payloads more : Payloads) (number : ℕ) (scene : Scene Calls) (fault : Fault) → IsScene payloads scene → HasRead (payloads ++ more) (refused number scene fault)
breaks_off payloads more number scene fault h = record { told = []; last = Faulted number fault; text = refl; answers = All-nil (λ (e : CallEntry). IsItsAnswer reverse (payloads ++ more) e.told); made = payloads; rest = more; all = refl; scene = h }

closes : (payloads : Payloads) (number : ℕ) (scene : Scene Calls) → IsScene payloads scene → HasRead (payloads ++ []) (closed number scene (close simulates_calls scene))
closes payloads number Empty h = breaks_off payloads [] number Empty (faults.Line Order) h
closes payloads number (Prepares setup) h = breaks_off payloads [] number (Prepares setup) (faults.Line Order) h
closes payloads number (Runs c) h = record { told = []; last = Closed c; text = refl; answers = All-nil (λ (e : CallEntry). IsItsAnswer reverse (payloads ++ []) e.told); made = payloads; rest = []; all = refl; scene = h }

still_its : (payloads more : Payloads) (t : CallTold) → IsItsAnswer reverse payloads t → IsItsAnswer reverse (payloads ++ more) t
still_its payloads more (told.Made call flow count) h = tt
still_its payloads more (told.Declined call) h = tt
still_its payloads more (told.Served call) h = tt
still_its payloads more (told.Answered call octets) h =
    let all = length-append payloads more in let lt = h.0 in
    (omega (arith, all, lt), h.1 ∙ ap reverse (sym (get_or_append_left payloads more [] call h.0)))
still_its payloads more (told.Unsure call) h = tt

read_on : (payloads called more : Payloads) (number : ℕ) (scene : Scene Calls) (rest : Scene Calls → Folded (Scene Calls)) (r : Result (Turned (Scene Calls)) Fault) → IsScene payloads scene → Turns (payloads ++ called) r
    → ((next : Scene Calls) → IsScene (payloads ++ called) next → HasRead ((payloads ++ called) ++ more) (rest next)) → HasRead (payloads ++ (called ++ more)) (fold_on number scene rest r)
read_on payloads called more number scene rest (Ok turned) h t on =
    let k = on turned.state t.scene in
    let same : (payloads ++ called) ++ more ≡ payloads ++ (called ++ more) = append_assoc payloads called more in
    record {
      told = t.told ++ k.told;
      last = k.last;
      text =
          ap (λ (text : List ℕ). text ++ (rest turned.state).text) t.text
          ∙ ap (λ (text : List ℕ). entries_text t.told ++ text) k.text
          ∙ sym (append_assoc (entries_text t.told) (entries_text k.told) (text_of_last k.last))
          ∙ ap (λ (text : List ℕ). text ++ text_of_last k.last) (sym (flat_map-append call_text t.told k.told));
      answers = subst (λ (ps : Payloads). AreItsAnswers reverse ps (t.told ++ k.told)) same
          (All-append (λ (e : CallEntry). IsItsAnswer reverse ((payloads ++ called) ++ more) e.told) t.told k.told
          (All-weaker (λ (e : CallEntry). IsItsAnswer reverse (payloads ++ called) e.told) (λ (e : CallEntry). IsItsAnswer reverse ((payloads ++ called) ++ more) e.told) (λ e i. still_its (payloads ++ called) more e.told i) t.told t.answers) k.answers);
      made = k.made;
      rest = k.rest;
      all = sym same ∙ k.all;
      scene = k.scene;
    }
read_on payloads called more number scene rest (Err fault) h t on = breaks_off payloads (called ++ more) number scene fault h

-- a line makes one call at most
one_behind : (line : RunLine) → length (called_behind line) ≤ 1
one_behind (runs.Call f hex) = omega arith
one_behind _ = omega arith

one_called : (line : Said) → length (called_by line) ≤ 1
one_called (said.Run line) = one_behind line
one_called _ = omega arith

one_call : (r : Result Said LineFault) → length (called_in r) ≤ 1
one_call (Ok line) = one_called line
one_call (Err fault) = omega arith

lines_read : (number : ℕ) (payloads : Payloads) (scene : Scene Calls) (lines : List (List ℕ)) → length payloads + length lines < 2 ^ 64 → IsScene payloads scene → HasRead (payloads ++ octets_called lines) (fold_from (scenario_turns simulates_calls) number scene lines)
unfolding fold_from
lines_read number payloads scene [] few h = closes payloads number scene h
lines_read number payloads scene (line ∷ lines) few h =
    let called = called_in (line_of forms.Calls line) in
    let one = one_call (line_of forms.Calls line) in
    let many = length-append payloads called in
    read_on payloads called (octets_called lines) number scene (λ next. fold_from (scenario_turns simulates_calls) (suc number) next lines) (turn simulates_calls scene line) h
    (read_turn payloads scene (omega (arith, few)) h line (line_of forms.Calls line) refl)
    (λ next k. lines_read (suc number) (payloads ++ called) next lines (omega (arith, few, one, many)) k)

few_lines : (count : ℕ) (octets : List ℕ) → length octets ≤ most_input → length (take count (lines_of octets)) < 2 ^ 64
few_lines count octets few = let some = length-take count (lines_of octets) in let all = lines_count octets in omega (arith, some, all, few)

-- THE CALLS OF AN INPUT
called_append : (lines more : List (List ℕ)) → octets_called (lines ++ more) ≡ octets_called lines ++ octets_called more
called_append [] more = refl
called_append (line ∷ lines) more = ap (λ (ps : Payloads). called_in (line_of forms.Calls line) ++ ps) (called_append lines more) ∙ sym (append_assoc (called_in (line_of forms.Calls line)) (octets_called lines) (octets_called more))

called_first : (count : ℕ) (octets : List ℕ) → calls_of octets ≡ octets_called (take count (lines_of octets)) ++ octets_called (drop count (lines_of octets))
called_first count octets = ap octets_called (sym (take-append-drop count (lines_of octets))) ∙ called_append (take count (lines_of octets)) (drop count (lines_of octets))

-- the calls after some lines are those of the first `call` lines
are_calls : (octets : List ℕ) (c : Calls) (made rest : Payloads) → length (calls_of octets) < 2 ^ 64 → calls_of octets ≡ made ++ rest → IsOfLines made c → AreCallsOf octets c
are_calls octets c made rest few all h =
    let is : first_called octets c ≡ made = ap (take (length c.calls)) all ∙ take_at made rest (length c.calls) h.own.count in
    let own : AreMadeWith (first_called octets c) c = subst (λ (ps : Payloads). AreMadeWith ps c) (sym is) h.own in
    let long : length (calls_of octets) ≡ length made + length rest = ap length all ∙ length-append made rest in
    let same = h.own.count in
    record { made = own; answers = λ e entries after may step. step_answers reverse c e entries after h.facts (omega (arith, few, long, same)) may step (first_called octets c) own }

module _ (octets : List ℕ) (few : length octets ≤ most_input) where
  few_called : (lines : List (List ℕ)) → length (octets_called lines) ≤ length lines
  few_called [] = omega arith
  few_called (line ∷ lines) =
      let one = one_call (line_of forms.Calls line) in
      let all = length-append (called_in (line_of forms.Calls line)) (octets_called lines) in
      let rest = few_called lines in
      omega (arith, one, all, rest)

  few_calls : length (calls_of octets) < 2 ^ 64
  few_calls = let some = few_called (lines_of octets) in let all = lines_count octets in omega (arith, some, all, few)

  module _ (count : ℕ) where
    first_read : HasRead (octets_called (take count (lines_of octets))) (fold_from (scenario_turns simulates_calls) 1 Empty (take count (lines_of octets)))
    first_read = let short = few_lines count octets few in lines_read 1 [] Empty (take count (lines_of octets)) (omega (arith, short)) refl

    all_called : calls_of octets ≡ first_read.made ++ (first_read.rest ++ octets_called (drop count (lines_of octets)))
    all_called =
        called_first count octets
        ∙ ap (λ (ps : Payloads). ps ++ octets_called (drop count (lines_of octets))) first_read.all
        ∙ append_assoc first_read.made first_read.rest (octets_called (drop count (lines_of octets)))

    once_if : (scene : Scene Calls) (made : Payloads) → IsScene made scene → IfSome (simulated scene) (λ c. AreServedOnce c)
    once_if Empty made h = tt
    once_if (Prepares setup) made h = tt
    once_if (Runs c) made h = h.facts.course.once

    calls_if : (scene : Scene Calls) (made rest : Payloads) → calls_of octets ≡ made ++ rest → IsScene made scene → IfSome (simulated scene) (λ c. AreCallsOf octets c)
    calls_if Empty made rest all h = tt
    calls_if (Prepares setup) made rest all h = tt
    calls_if (Runs c) made rest all h = are_calls octets c made rest few_calls all h

    served_after : IfSome (calls_after_lines count octets) (λ c. AreServedOnce c)
    unfolding calls_after_lines
    served_after = once_if (fold_from (scenario_turns simulates_calls) 1 Empty (take count (lines_of octets))).state first_read.made first_read.scene

    calls_after : IfSome (calls_after_lines count octets) (λ c. AreCallsOf octets c)
    unfolding calls_after_lines
    calls_after = calls_if (fold_from (scenario_turns simulates_calls) 1 Empty (take count (lines_of octets))).state first_read.made (first_read.rest ++ octets_called (drop count (lines_of octets))) all_called first_read.scene

  whole_read : HasRead (calls_of octets) (calls_read octets)
  unfolding calls_read
  whole_read = let all = lines_count octets in lines_read 1 [] Empty (lines_of octets) (omega (arith, all, few)) refl

pub served_once : (count : ℕ) (octets : List ℕ) → length octets ≤ most_input → IfSome (calls_after_lines count octets) (λ c. AreServedOnce c)
served_once count octets few = served_after octets few count

pub made_by_lines : (count : ℕ) (octets : List ℕ) → length octets ≤ most_input → IfSome (calls_after_lines count octets) (λ c. AreCallsOf octets c)
made_by_lines count octets few = calls_after octets few count

pub own_answers : (octets : List ℕ) → length octets ≤ most_input → TellsOwnAnswers octets
own_answers octets few = let h = whole_read octets few in record { told = h.told; last = h.last; text = h.text; answers = h.answers }
