-- A run is run again from its script and its trace, and the same is written.
use Rattle.std.proofs.Common.{◌≡◌, inl, inr, ℕ, suc, ◌+◌, ◌-◌, ◌<◌, ◌^◌, List, [], ◌∷◌, ◌++◌, length, map, Option, Some, None, Result, slice_index_or, refl, sym, ap, subst, ◌∙◌, arith}
use Rattle.std.specs.List.{AllByRecursion, range_with_len}
use Rattle.std.proofs.lemmas.List.{take_all}
use Rattle.std.specs.Io.KnownBytes.{Appends}
use Rattle.dt_edges.specs.Clocks.{ClockSight, reading_at}
use Rattle.dt_edges.specs.Sinks.{SinkSight}
use Rattle.dt_edges.specs.Wires.{Datagram, Plan, WireSight, cut_to, entry_at, wire_in_memory}
use Rattle.dt_log.specs.Logs.{log_text}
use Rattle.dt_reports.specs.declared.faults.LineFault.{LineFault}
use Rattle.dt_text.specs.InputLines.{lines_of}
use Rattle.dt_trace.specs.Inputs.{Input, Reading, Taken, FailedTake, FailedGive, FailedOpen}
use Rattle.dt_trace.specs.Standing.{HasFound, IsInput, Stand, noted_all}
use Rattle.dt_trace.specs.Traces.{Recorded, noted, nothing, or_zero, trace_of, wire_of}
use Rattle.dt_trace.specs.Lines.{most_taken}
use Rattle.dt_node.specs.declared.output_forms.OutputForm.TheVariants as forms
use Rattle.dt_node.specs.declared.outcomes.NodeOutcome.{NodeOutcome}
use Rattle.dt_node.specs.declared.outcomes.NodeOutcome.TheVariants.{Done, Refused, NoMemory, WireFault, ClockStill, WriteFault}
use Rattle.dt_node.specs.Acts.{Deed, act_of, fates, log_lines}
use Rattle.dt_node.specs.Answering.{AnswersBy}
use Rattle.dt_node.specs.Deeds.{lost_numbers}
use Rattle.dt_script.specs.Drafts.{refusal_text, script_of}
use Rattle.dt_script.specs.Orders.{Orders}
use Rattle.dt_node.specs.Runs.{Run, node_run}
use Rattle.dt_node.specs.TakingIn.{run_inputs}
use Rattle.dt_node.specs.Serving.{Edges, EndsAs, IsFresh, IsWhole, Serves, edges, recorded}
use Rattle.dt_node.specs.InputParts.{text_of}
use Rattle.dt_node.specs.Repeating.{Repeats, joined}
use Rattle.dt_node.specs.Retracing.{Reruns, RerunsBy, Retraces, RetracesBy, edges_before}
use Rattle.dt_node.proofs.Fates.{as_many_gives, fates_again, same_deeds}
use Rattle.dt_node.proofs.Joining.{joined_cut, same_script}
use Rattle.dt_node.proofs.Planned.{as_far}

-- THE PLAN of a trace: its readings and its takes come again

all_read : (xs : List ℕ) (d a : ℕ) (f : ℕ → ℕ) → ((k : ℕ) → f (a + k) ≡ slice_index_or xs k d) → map f (range_with_len a (length xs)) ≡ xs
all_read [] d a f h = refl
all_read (x ∷ xs) d a f h =
    let first : a ≡ a + 0 = omega arith in
    let here : f a ≡ x = ap f first ∙ h 0 in
    let rest = all_read xs d (a + 1) f (λ k. let next : (a + 1) + k ≡ a + suc k = omega arith in ap f next ∙ h (suc k)) in
    ap (λ (y : ℕ). y ∷ map f (range_with_len (a + 1) (length xs))) here ∙ ap (λ (ys : List ℕ). x ∷ ys) rest

readings_again : (rs : List ℕ) → map (reading_at (or_zero rs)) (range_with_len 0 (length rs)) ≡ rs
readings_again [] = refl
readings_again (r ∷ rs) = all_read (r ∷ rs) (slice_index_or (r ∷ rs) (length (r ∷ rs) - 1) 0) 0 (reading_at (r ∷ rs)) (λ k. let same : 0 + k ≡ k = omega arith in ap (reading_at (r ∷ rs)) same)

abbrev AllFound : List (Option Datagram) → Type 0
AllFound ts = AllByRecursion HasFound ts

-- a take has room for what was found
has_room : (t : Option Datagram) → HasFound t → cut_to most_taken t ≡ t
has_room None h = refl
has_room (Some d) h = ap (λ (xs : List ℕ). let cut : Datagram = record { link = d.link; octets = xs } in Some cut) (take_all most_taken d.octets h.few)

all_found : (ts : List (Option Datagram)) (a : ℕ) (g : ℕ → Option Datagram) → ((k : ℕ) → g (a + k) ≡ cut_to most_taken (entry_at ts k)) → AllFound ts → map g (range_with_len a (length ts)) ≡ ts
all_found [] a g h fits = refl
all_found (t ∷ ts) a g h fits =
    let first : a ≡ a + 0 = omega arith in
    let here : g a ≡ t = ap g first ∙ h 0 ∙ has_room t fits.0 in
    let rest = all_found ts (a + 1) g (λ k. let next : (a + 1) + k ≡ a + suc k = omega arith in ap g next ∙ h (suc k)) fits.1 in
    ap (λ (y : Option Datagram). y ∷ map g (range_with_len (a + 1) (length ts))) here ∙ ap (λ (ys : List (Option Datagram)). t ∷ ys) rest

takes_again : (ts : List (Option Datagram)) → AllFound ts → map (λ k. cut_to most_taken (entry_at ts k)) (range_with_len 0 (length ts)) ≡ ts
takes_again ts fits = all_found ts 0 (λ k. cut_to most_taken (entry_at ts k)) (λ k. let same : 0 + k ≡ k = omega arith in ap (λ (i : ℕ). cut_to most_taken (entry_at ts i)) same) fits

one_more : (ts : List (Option Datagram)) (t : Option Datagram) → AllFound ts → HasFound t → AllFound (ts ++ t ∷ [])
one_more [] t h fits = (fits, tt)
one_more (first ∷ ts) t h fits = (h.0, one_more ts t h.1 fits)

noted_found : (t : Recorded) (input : Input) → AllFound t.takes → IsInput input → AllFound (noted t input).takes
noted_found t (Reading reading) h fits = h
noted_found t (Taken found) h fits = one_more t.takes found h fits
noted_found t FailedTake h fits = h
noted_found t (FailedGive number) h fits = h
noted_found t FailedOpen h fits = h

all_noted : (line : ℕ) (t : Recorded) (inputs : List Input) → AllFound t.takes → Stand line t inputs → AllFound (noted_all t inputs).takes
all_noted line t [] h stand = h
all_noted line t (input ∷ inputs) h stand = all_noted (suc line) (noted t input) inputs (noted_found t input h stand.0) stand.2

-- nothing was taken of the wire of a trace
pub fresh : (t : Recorded) → IsFresh (wire_in_memory (wire_of t))
fresh t = record { takes = refl; gives = refl; used = refl }

-- THE SAME RUN
module _ (o : Orders) (outcome : NodeOutcome) (b e : Edges) (s : Serves forms.Trace o outcome b e) (whole : IsWhole outcome) (few : length (fates s.deeds) < 2 ^ 64) where
  abbrev trace : Recorded
  trace = recorded s.readings s.takes s.deeds s.written.failing s.written.unopened

  abbrev plan : Plan
  plan = record { entries = s.takes; failing_takes = s.written.failing; failing_gives = lost_numbers 0 (fates s.deeds); open_fails = s.written.unopened }

  abbrev f : ℕ → ℕ
  f k = reading_at (or_zero s.readings) k

  abbrev g : ℕ → Option Datagram
  g k = cut_to most_taken (entry_at s.takes k)

  same_readings : map f (range_with_len 0 (length s.readings)) ≡ s.readings
  same_readings = readings_again s.readings

  same_takes : map g (range_with_len 0 (length s.takes)) ≡ s.takes
  same_takes = takes_again s.takes (subst (λ (t : Recorded). AllFound t.takes) s.written.traced.noted (all_noted 1 nothing (run_inputs o s.readings s.takes s.deeds s.written.failing s.written.unopened) tt (s.written.traced.stand few)))

  module _ (again : NodeOutcome) (out : SinkSight) (z : Edges) (k : Serves forms.Log o again (edges_before trace out) z) (whole' : IsWhole again) where
    planned_readings : k.readings ≡ map f (range_with_len 0 (length k.readings))
    planned_readings = k.planned_readings refl

    planned_takes : k.takes ≡ map g (range_with_len 0 (length k.takes))
    planned_takes = k.planned_takes (fresh trace)

    far : (again ≡ outcome) × (length k.readings ≡ length s.readings) × (length k.takes ≡ length s.takes)
    far = as_far o f g outcome again plan (length s.readings) (length s.takes) (length k.readings) (length k.takes) whole
        (subst (λ (r : Run). EndsAs outcome r.ending) (ap (λ rs. node_run o rs s.takes) (sym same_readings) ∙ ap (λ ts. node_run o (map f (range_with_len 0 (length s.readings))) ts) (sym same_takes)) s.ends)
        s.counted s.written.failed whole'
        (subst (λ (r : Run). EndsAs again r.ending) (ap (λ rs. node_run o rs k.takes) planned_readings ∙ ap (λ ts. node_run o (map f (range_with_len 0 (length k.readings))) ts) planned_takes) k.ends)
        k.counted (k.planned_faults (fresh trace))

    readings : k.readings ≡ s.readings
    readings = planned_readings ∙ ap (λ (n : ℕ). map f (range_with_len 0 n)) far.1 ∙ same_readings

    takes : k.takes ≡ s.takes
    takes = planned_takes ∙ ap (λ (n : ℕ). map g (range_with_len 0 n)) far.2 ∙ same_takes

    acts : map act_of k.deeds ≡ map act_of s.deeds
    acts = k.acts ∙ ap (λ rs. (node_run o rs k.takes).acts) readings ∙ ap (λ ts. (node_run o s.readings ts).acts) takes ∙ sym s.acts

    gives : length (fates k.deeds) ≡ length (fates s.deeds)
    gives = as_many_gives k.deeds s.deeds acts

    deeds : k.deeds ≡ s.deeds
    deeds = same_deeds k.deeds s.deeds acts (fates_again (fates s.deeds) (fates k.deeds) gives few (k.planned_fates (fresh trace) whole' (omega (arith, gives, few))))

    pub same_log : k.text ≡ log_text (log_lines o.setup.me s.deeds)
    same_log = k.written ∙ ap (λ (ds : List Deed). log_text (log_lines o.setup.me ds)) deeds

    pub same_answer : again ≡ outcome
    same_answer = far.0

  abbrev log : List ℕ
  log = log_text (log_lines o.setup.me s.deeds)

  module _ (a z : SinkSight) (wire : WireSight) (clock : ClockSight) where
    repeats : (again : NodeOutcome) → Serves forms.Log o again (edges_before trace a) (edges wire clock z) → Repeats log outcome again a z
    repeats Done k = record { same = same_answer Done a (edges wire clock z) k tt; log = subst (λ (xs : List ℕ). Appends a.held z.held xs) (same_log Done a (edges wire clock z) k tt) k.log; faults = k.sink_faults }
    repeats WireFault k = record { same = same_answer WireFault a (edges wire clock z) k tt; log = subst (λ (xs : List ℕ). Appends a.held z.held xs) (same_log WireFault a (edges wire clock z) k tt) k.log; faults = k.sink_faults }
    repeats ClockStill k = record { same = same_answer ClockStill a (edges wire clock z) k tt; log = subst (λ (xs : List ℕ). Appends a.held z.held xs) (same_log ClockStill a (edges wire clock z) k tt) k.log; faults = k.sink_faults }
    repeats NoMemory k = k.sink_faults
    repeats WriteFault k = k.sink_faults
    repeats Refused k = absurd k.ends

  -- THE INPUT that is put together of the script and the trace
  module _ (script : List ℕ) (accepted : script_of script ≡ Some o) (again : NodeOutcome) (a z : SinkSight) where
    by_answers : (said : Option Orders) (text : List ℕ) (wire : WireSight) (clock : ClockSight) → said ≡ Some o → AnswersBy forms.Log said text again (edges_before trace a) (edges wire clock z) → Repeats log outcome again a z
    by_answers said text wire clock is h = repeats a z wire clock again (subst (λ (x : Option Orders). AnswersBy forms.Log x text again (edges_before trace a) (edges wire clock z)) is h)

    by_reruns : Reruns (text_of (lines_of script)) trace again a z → Repeats log outcome again a z
    by_reruns h = by_answers (script_of (text_of (lines_of script))) (refusal_text (text_of (lines_of script))) h.wire h.clock (same_script script ∙ accepted) h.answers

    by_lines : RerunsBy (length (lines_of script) + 1) (text_of (lines_of script)) (trace_of s.text) again a z → Repeats log outcome again a z
    by_lines h = by_reruns (subst (λ (r : Result Recorded (ℕ × LineFault)). RerunsBy (length (lines_of script) + 1) (text_of (lines_of script)) r again a z) (s.written.read few) h)

    pub run_again : Retraces (joined script s.text) again a z → Repeats log outcome again a z
    run_again (inl h) = by_lines (subst (λ (c : Option (List (List ℕ) × List (List ℕ))). RetracesBy (length (lines_of (joined script s.text))) c again a z) (joined_cut script s.text o accepted) h)
    run_again (inr h) = subst (λ (n : NodeOutcome). Repeats log outcome n a z) (sym h.0) (ap (λ (x : SinkSight). x.faults) h.1)
