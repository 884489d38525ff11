-- The lines of a trace, as the run goes on.
use Rattle.std.proofs.Common.{◌≡◌, ℕ, ◌+◌, ◌-◌, ◌^◌, ◌<◌, ◌≤◌, suc, Bool, true, false, List, [], ◌∷◌, ◌++◌, length, map, Option, Ok, refl, sym, ap, subst, ◌∙◌, arith, length-append, append_assoc, inl, inr}
use Rattle.std.specs.Prelude.{slice_index_or}
use Rattle.std.proofs.lemmas.List.{append-nil}
use Rattle.std.proofs.lemmas.List.Concat.{flat_map-append}
use borrow.Author.Tests.{lt-ltb}
use Rattle.dt_edges.specs.Counts.{last_count, next_count}
use Rattle.dt_edges.specs.Wires.{Datagram}
use Rattle.dt_log.specs.Logs.{log_text}
use Rattle.dt_trace.specs.Inputs.{FailedGive, FailedOpen, FailedTake, Input, Reading, Taken, input_text, trace_text}
use Rattle.dt_trace.specs.Lines.{most_number}
use Rattle.dt_trace.specs.Standing.{HasFound, Stand, noted_all}
use Rattle.dt_trace.specs.Traces.{Recorded, last_number, noted, nothing, trace_of}
use Rattle.dt_trace.proofs.TraceLaws.{noted_more, stand_more, trace_read}
use Rattle.dt_node.specs.declared.output_forms.OutputForm.{OutputForm}
use Rattle.dt_node.specs.declared.output_forms.OutputForm.TheVariants as forms
use Rattle.dt_node.specs.declared.outcomes.NodeOutcome.{NodeOutcome}
use Rattle.dt_node.specs.declared.outcomes.NodeOutcome.TheVariants.{Done, Refused, NoMemory, WireFault, ClockStill, WriteFault}
use Rattle.dt_node.specs.Acts.{Deed, fates, log_lines}
use Rattle.dt_node.specs.Deeds.{counted, deeds_text, lost_numbers}
use Rattle.dt_node.specs.Logging.{noted_text}
use Rattle.dt_node.specs.Serving.{HasFailed, IsTrace, Traced, Written, recorded}
use Rattle.dt_script.specs.Orders.{Orders}
use Rattle.dt_node.specs.TakingIn.{failed_gives, inputs_in, run_inputs}
use Rattle.dt_node.proofs.Listing.{failed_list, unopened_list, whole_list}
use Rattle.dt_node.proofs.Doing.{fates_more, log_more, number_more, numbers_more}

-- THE NUMBERS OF GIVES THAT FAILED rise, where there are fewer than 2^64 gives

-- the last place
last_place : (ns : List ℕ) (n k : ℕ) → k ≡ length ns → slice_index_or (ns ++ n ∷ []) k 0 ≡ n
last_place [] n k e = rw e refl
last_place (m ∷ ns) n k e = rw e (last_place ns n (length ns) refl)

last_of : (ns : List ℕ) (n : ℕ) → last_number (ns ++ n ∷ []) ≡ n
last_of ns n = last_place ns n (length (ns ++ n ∷ []) - 1) (omega (arith, length-append ns (n ∷ [])))

abbrev failures : ℕ → List Bool → List Input
failures calls gone = map FailedGive (lost_numbers calls gone)

abbrev with_gives : Recorded → List ℕ → Recorded
with_gives t numbers = record t { failing_gives = t.failing_gives ++ numbers }

noted_gives : (t : Recorded) (numbers : List ℕ) → noted_all t (map FailedGive numbers) ≡ with_gives t numbers
noted_gives t [] = ap (λ (ns : List ℕ). record t { failing_gives = ns }) (sym (append-nil t.failing_gives))
noted_gives t (n ∷ numbers) = noted_gives (with_gives t (n ∷ [])) numbers ∙ ap (λ (ns : List ℕ). record t { failing_gives = ns }) (append_assoc t.failing_gives (n ∷ []) numbers)

-- the count of gives, below its greatest value
counted_is : (calls : ℕ) (gone : List Bool) → calls + length gone ≤ last_count → counted calls gone ≡ calls + length gone
counted_is calls [] few = omega arith
counted_is calls (g ∷ gone) few = let next : next_count calls ≡ calls + 1 = omega (arith, few) in counted_is (next_count calls) gone (omega (arith, few, next)) ∙ omega (arith, next)

last_numbers : (t : Recorded) (calls : ℕ) (gone : List Bool) → last_number t.failing_gives ≤ calls → calls + length gone ≤ last_count → last_number (t.failing_gives ++ lost_numbers calls gone) ≤ calls + length gone
last_numbers t calls [] less few = subst (λ (ns : List ℕ). last_number ns ≤ calls + 0) (sym (append-nil t.failing_gives)) (omega (arith, less))
last_numbers t calls (true ∷ gone) less few =
    let next : next_count calls ≡ calls + 1 = omega (arith, few) in
    let here : last_number (t.failing_gives ++ next_count calls ∷ []) ≡ next_count calls = last_of t.failing_gives (next_count calls) in
    let rest = last_numbers (with_gives t (next_count calls ∷ [])) (next_count calls) gone (omega (arith, here)) (omega (arith, few, next)) in
    subst (λ (ns : List ℕ). last_number ns ≤ calls + suc (length gone)) (append_assoc t.failing_gives (next_count calls ∷ []) (lost_numbers (next_count calls) gone)) (omega (arith, rest, next))
last_numbers t calls (false ∷ gone) less few =
    let next : next_count calls ≡ calls + 1 = omega (arith, few) in
    let rest = last_numbers t (next_count calls) gone (omega (arith, less, next)) (omega (arith, few, next)) in
    omega (arith, rest, next)

stand_gives : (line : ℕ) (t : Recorded) (calls : ℕ) (gone : List Bool) → last_number t.failing_gives ≤ calls → calls + length gone ≤ last_count → Stand line t (failures calls gone)
stand_gives line t calls [] less few = tt
stand_gives line t calls (true ∷ gone) less few =
    let next : next_count calls ≡ calls + 1 = omega (arith, few) in
    let here : last_number (t.failing_gives ++ next_count calls ∷ []) ≡ next_count calls = last_of t.failing_gives (next_count calls) in
    ((omega (arith, next), omega (arith, few, next)), lt-ltb _ _ (omega (arith, less, next)), stand_gives (suc line) (with_gives t (next_count calls ∷ [])) (next_count calls) gone (omega (arith, here)) (omega (arith, few, next)))
stand_gives line t calls (false ∷ gone) less few =
    let next : next_count calls ≡ calls + 1 = omega (arith, few) in
    stand_gives line t (next_count calls) gone (omega (arith, less, next)) (omega (arith, few, next))

-- ONE PART AFTER ANOTHER

-- the lines of these inputs, which come to what is recorded
pub record TracedBy (inputs : List Input) (rs : List ℕ) (ts : List (Option Datagram)) (ds : List Deed) (failing : List ℕ) (unopened : Bool) (text : List ℕ) : Type 0 where
  pub spelled : text ≡ trace_text inputs
  pub noted : noted_all nothing inputs ≡ recorded rs ts ds failing unopened
  pub stand : length (fates ds) < 2 ^ 64 → Stand 1 nothing inputs

abbrev Ran : List Input → List ℕ → List (Option Datagram) → List Deed → List ℕ → Type 0
Ran inputs rs ts ds text = TracedBy inputs rs ts ds [] false text

traced_none : Ran [] [] [] [] []
traced_none = record { spelled = refl; noted = refl; stand = λ few. tt }

one_text : (inputs : List Input) (input : Input) → trace_text (inputs ++ input ∷ []) ≡ trace_text inputs ++ input_text input
one_text inputs input = flat_map-append input_text inputs (input ∷ []) ∙ ap (λ (xs : List ℕ). trace_text inputs ++ xs) (append-nil (input_text input))

-- a reading, and then the gives of its turn that failed
traced_turn : (inputs : List Input) (rs : List ℕ) (ts : List (Option Datagram)) (ds more : List Deed) (text : List ℕ) (r : ℕ) → r ≤ most_number → Ran inputs rs ts ds text
    → Ran (inputs ++ Reading r ∷ failures (counted 0 (fates ds)) (fates more)) (rs ++ r ∷ []) ts (ds ++ more) (text ++ (input_text (Reading r) ++ trace_text (failures (counted 0 (fates ds)) (fates more))))
traced_turn inputs rs ts ds more text r fits h =
    let gone = fates more in
    let gives = failures (counted 0 (fates ds)) gone in
    let read : Recorded = recorded (rs ++ r ∷ []) ts ds [] false in
    let first : noted_all nothing inputs ≡ recorded rs ts ds [] false = h.noted in
    let numbers : lost_numbers 0 (fates (ds ++ more)) ≡ lost_numbers 0 (fates ds) ++ lost_numbers (counted 0 (fates ds)) gone = ap (lost_numbers 0) (fates_more ds more) ∙ numbers_more 0 (fates ds) gone in
    record {
      spelled = ap (λ (xs : List ℕ). xs ++ (input_text (Reading r) ++ trace_text gives)) h.spelled ∙ sym (flat_map-append input_text inputs (Reading r ∷ gives));
      noted = noted_more nothing inputs (Reading r ∷ gives) ∙ ap (λ (t : Recorded). noted_all t (Reading r ∷ gives)) first ∙ noted_gives read (lost_numbers (counted 0 (fates ds)) gone) ∙ ap (λ (ns : List ℕ). record read { failing_gives = ns }) (sym numbers);
      stand = λ few.
          let many : length (fates (ds ++ more)) ≡ length (fates ds) + length gone = number_more ds more in
          let calls : counted 0 (fates ds) ≡ 0 + length (fates ds) = counted_is 0 (fates ds) (omega (arith, many, few)) in
          let last : last_number (lost_numbers 0 (fates ds)) ≤ 0 + length (fates ds) = last_numbers nothing 0 (fates ds) (omega arith) (omega (arith, many, few)) in
          stand_more 1 nothing inputs (Reading r ∷ gives) (h.stand (omega (arith, many, few)))
          (subst (λ (t : Recorded). Stand (1 + length inputs) t (Reading r ∷ gives)) (sym first)
          (fits, refl, stand_gives (suc (1 + length inputs)) read (counted 0 (fates ds)) gone (omega (arith, calls, last)) (omega (arith, calls, many, few))));
    }

-- one input more, after which the inputs come to this
traced_one : (inputs : List Input) (rs qs : List ℕ) (ts us : List (Option Datagram)) (ds : List Deed) (failing : List ℕ) (unopened : Bool) (text : List ℕ) (input : Input) → noted (recorded rs ts ds [] false) input ≡ recorded qs us ds failing unopened
    → ((line : ℕ) → Stand line (recorded rs ts ds [] false) (input ∷ [])) → Ran inputs rs ts ds text → TracedBy (inputs ++ input ∷ []) qs us ds failing unopened (text ++ input_text input)
traced_one inputs rs qs ts us ds failing unopened text input comes fits h = record {
  spelled = ap (λ (xs : List ℕ). xs ++ input_text input) h.spelled ∙ sym (one_text inputs input);
  noted = noted_more nothing inputs (input ∷ []) ∙ ap (λ (t : Recorded). noted t input) h.noted ∙ comes;
  stand = λ few. stand_more 1 nothing inputs (input ∷ []) (h.stand few) (subst (λ (t : Recorded). Stand (1 + length inputs) t (input ∷ [])) (sym h.noted) (fits (1 + length inputs)));
}

traced_take : (inputs : List Input) (rs : List ℕ) (ts : List (Option Datagram)) (ds : List Deed) (text : List ℕ) (t : Option Datagram) → HasFound t → Ran inputs rs ts ds text → Ran (inputs ++ Taken t ∷ []) rs (ts ++ t ∷ []) ds (text ++ input_text (Taken t))
traced_take inputs rs ts ds text t fits h = traced_one inputs rs rs ts (ts ++ t ∷ []) ds [] false text (Taken t) refl (λ line. (fits, refl, tt)) h

traced_failed : (inputs : List Input) (rs : List ℕ) (ts : List (Option Datagram)) (ds : List Deed) (text : List ℕ) → Ran inputs rs ts ds text → TracedBy (inputs ++ FailedTake ∷ []) rs ts ds ((length ts + 1) ∷ []) false (text ++ input_text FailedTake)
traced_failed inputs rs ts ds text h = traced_one inputs rs rs ts ts ds ((length ts + 1) ∷ []) false text FailedTake (ap (λ (n : ℕ). recorded rs ts ds (n ∷ []) false) (omega arith)) (λ line. (tt, refl, tt)) h

traced_open : TracedBy (FailedOpen ∷ []) [] [] [] [] true (input_text FailedOpen)
traced_open = record { spelled = sym (append-nil (input_text FailedOpen)); noted = refl; stand = λ few. (tt, refl, tt) }

-- THE TRACE OF A RUN

in_order : (o : Orders) (inputs : List Input) (rs : List ℕ) (ts : List (Option Datagram)) (ds : List Deed) (failing : List ℕ) (unopened : Bool) (text : List ℕ) → run_inputs o rs ts ds failing unopened ≡ inputs → TracedBy inputs rs ts ds failing unopened text → Traced o rs ts ds failing unopened text
in_order o inputs rs ts ds failing unopened text e h = record {
  spelled = h.spelled ∙ ap trace_text (sym e);
  noted = ap (noted_all nothing) e ∙ h.noted;
  stand = λ few. subst (λ (is : List Input). Stand 1 nothing is) (sym e) (h.stand few);
}

traced_is : (o : Orders) (inputs : List Input) (outcome : NodeOutcome) (rs : List ℕ) (ts : List (Option Datagram)) (ds : List Deed) (failing : List ℕ) (unopened : Bool) (text : List ℕ) → HasFailed outcome (length rs) (length ts) failing unopened
    → run_inputs o rs ts ds failing unopened ≡ inputs → TracedBy inputs rs ts ds failing unopened text → IsTrace o outcome rs ts ds text
traced_is o inputs outcome rs ts ds failing unopened text failed e h = record {
  failing = failing;
  unopened = unopened;
  failed = failed;
  traced = in_order o inputs rs ts ds failing unopened text e h;
  read = λ few. ap trace_of h.spelled ∙ trace_read inputs (h.stand few) ∙ ap Ok h.noted;
}

-- WHAT IS WRITTEN SO FAR, in both forms
abbrev pub SoFar : OutputForm → (me : ℕ) → List Input → List ℕ → List (Option Datagram) → List Deed → List ℕ → Type 0
SoFar forms.Log me inputs rs ts ds text = text ≡ log_text (log_lines me ds)
SoFar forms.Trace me inputs rs ts ds text = Ran inputs rs ts ds text

pub far_none : (form : OutputForm) (me : ℕ) → SoFar form me [] [] [] [] []
far_none forms.Log me = refl
far_none forms.Trace me = traced_none

pub far_turn : (form : OutputForm) (me : ℕ) (inputs : List Input) (rs : List ℕ) (ts : List (Option Datagram)) (ds more : List Deed) (text : List ℕ) (r gives : ℕ) → r ≤ most_number → gives ≡ counted 0 (fates ds) → SoFar form me inputs rs ts ds text
    → SoFar form me (inputs ++ Reading r ∷ failed_gives (counted 0 (fates ds)) more) (rs ++ r ∷ []) ts (ds ++ more) (text ++ (noted_text form (Reading r) ++ deeds_text form gives me more))
far_turn forms.Log me inputs rs ts ds more text r gives fits e h = ap (λ (xs : List ℕ). xs ++ log_text (log_lines me more)) h ∙ sym (log_more me ds more)
far_turn forms.Trace me inputs rs ts ds more text r gives fits e h =
    subst (λ (n : ℕ). Ran (inputs ++ Reading r ∷ failed_gives (counted 0 (fates ds)) more) (rs ++ r ∷ []) ts (ds ++ more) (text ++ (input_text (Reading r) ++ trace_text (failures n (fates more))))) (sym e) (traced_turn inputs rs ts ds more text r fits h)

pub far_take : (form : OutputForm) (me : ℕ) (inputs : List Input) (rs : List ℕ) (ts : List (Option Datagram)) (ds : List Deed) (text : List ℕ) (t : Option Datagram) → HasFound t → SoFar form me inputs rs ts ds text → SoFar form me (inputs ++ Taken t ∷ []) rs (ts ++ t ∷ []) ds (text ++ noted_text form (Taken t))
far_take forms.Log me inputs rs ts ds text t fits h = append-nil text ∙ h
far_take forms.Trace me inputs rs ts ds text t fits h = traced_take inputs rs ts ds text t fits h

-- no call of the wire failed but gives
abbrev pub Unfailed : NodeOutcome → Type 0
Unfailed Done = Unit {0}
Unfailed ClockStill = Unit {0}
Unfailed NoMemory = Unit {0}
Unfailed WriteFault = Unit {0}
Unfailed WireFault = ⊥
Unfailed Refused = ⊥

unfailed : (outcome : NodeOutcome) (readings takes : ℕ) → Unfailed outcome → HasFailed outcome readings takes [] false
unfailed Done readings takes h = (refl, refl)
unfailed ClockStill readings takes h = (refl, refl)
unfailed NoMemory readings takes h = (refl, refl)
unfailed WriteFault readings takes h = inl (refl, refl)
unfailed WireFault readings takes h = absurd h
unfailed Refused readings takes h = absurd h

pub written_far : (form : OutputForm) (o : Orders) (inputs : List Input) (outcome : NodeOutcome) (rs : List ℕ) (ts : List (Option Datagram)) (ds : List Deed) (text : List ℕ) → Unfailed outcome → inputs_in o rs ts ds ≡ inputs → SoFar form o.setup.me inputs rs ts ds text → Written form o outcome rs ts ds text
written_far forms.Log o inputs outcome rs ts ds text k e h = h
written_far forms.Trace o inputs outcome rs ts ds text k e h = traced_is o inputs outcome rs ts ds [] false text (unfailed outcome (length rs) (length ts) k) (whole_list o rs ts ds inputs e) h

-- a take failed, or the open
abbrev pub ByWire : NodeOutcome → Type 0
ByWire WireFault = Unit {0}
ByWire WriteFault = Unit {0}
ByWire Done = ⊥
ByWire ClockStill = ⊥
ByWire NoMemory = ⊥
ByWire Refused = ⊥

take_failed : (outcome : NodeOutcome) (readings takes : ℕ) → 0 < readings → ByWire outcome → HasFailed outcome readings takes ((takes + 1) ∷ []) false
take_failed WireFault readings takes some h = inr (some, refl, refl)
take_failed WriteFault readings takes some h = inr (inr (some, refl, refl))
take_failed Done readings takes some h = absurd h
take_failed ClockStill readings takes some h = absurd h
take_failed NoMemory readings takes some h = absurd h
take_failed Refused readings takes some h = absurd h

pub written_failed : (form : OutputForm) (o : Orders) (inputs : List Input) (outcome : NodeOutcome) (rs : List ℕ) (ts : List (Option Datagram)) (ds : List Deed) (text : List ℕ) → ByWire outcome → 0 < length rs → inputs_in o rs ts ds ≡ inputs → SoFar form o.setup.me inputs rs ts ds text → Written form o outcome rs ts ds (text ++ noted_text form FailedTake)
written_failed forms.Log o inputs outcome rs ts ds text k some e h = append-nil text ∙ h
written_failed forms.Trace o inputs outcome rs ts ds text k some e h =
    traced_is o (inputs ++ FailedTake ∷ []) outcome rs ts ds ((length ts + 1) ∷ []) false (text ++ input_text FailedTake) (take_failed outcome (length rs) (length ts) some k) (failed_list o rs ts ds inputs (length ts + 1) e) (traced_failed inputs rs ts ds text h)

open_failed : (outcome : NodeOutcome) → ByWire outcome → HasFailed outcome 0 0 [] true
open_failed WireFault h = inl (refl, refl, refl)
open_failed WriteFault h = inr (inl (refl, refl, refl))
open_failed Done h = absurd h
open_failed ClockStill h = absurd h
open_failed NoMemory h = absurd h
open_failed Refused h = absurd h

pub written_unopened : (form : OutputForm) (o : Orders) (outcome : NodeOutcome) → ByWire outcome → Written form o outcome [] [] [] (noted_text form FailedOpen)
written_unopened forms.Log o outcome k = refl
written_unopened forms.Trace o outcome k = traced_is o (FailedOpen ∷ []) outcome [] [] [] [] true (input_text FailedOpen) (open_failed outcome k) (unopened_list o) traced_open
