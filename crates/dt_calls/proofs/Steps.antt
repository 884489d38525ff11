-- What a step of calls answers, by what its event did and what was read after it.
use Rattle.std.proofs.Common.{ℕ, ◌≡◌, Bool, true, false, List, [], ◌∷◌, Option, Some, None, Result, Err, refl, ap, sym, subst, ◌∙◌}
use Rattle.dt_units.specs.declared.endpoints.Flow.{Flow}
use Rattle.dt_reports.specs.Entries.{Entry}
use Rattle.dt_reports.specs.declared.faults.StepFault.{StepFault}
use Rattle.dt_reports.specs.declared.faults.StepFault.TheVariants as fault
use Rattle.dt_world_model.specs.World.{World}
use Rattle.dt_world_model.specs.WorldStep as world
use Rattle.dt_world_model.specs.WorldStep.{WorldEvent, after_event, first_refusal, is_own, lacks_station, refusals, step_unless, world_step}
use Rattle.dt_calls_model.specs.declared.calls.Call.{Call}
use Rattle.dt_calls_model.specs.Calls.{Begun, Calls}
use Rattle.dt_calls_model.specs.CallTold.{CallEntry}
use Rattle.dt_calls_model.specs.CallStep as step
use Rattle.dt_calls_model.specs.CallStep.{Faulty, Happens, Makes, Stepped, call_refusals, call_step, finish, flows_after, go_on, is_way_of_replies, make, make_unless}
use Rattle.dt_calls_model.specs.Reads.{Course}
use Rattle.dt_calls.specs.CallOutcomes.{FailsWith, IsDone, IsStopped, StepsTo, is_memory, lacks_memory}
use Rattle.dt_call_parts.specs.Courses.{HasGoneOn, HasStopped, from_calls}
use Rattle.dt_call_parts.specs.declared.dues.Due.{Due}
use Rattle.dt_calls.specs.CallCourses.{CourseValue}
use Rattle.dt_calls.specs.Going.{GoesWrong, HasGone, IsRefusedBy}
use Rattle.dt_call_parts.proofs.Courses.{adds_finish, gone_stop, gone_then, stop_then}
use Rattle.dt_calls.proofs.Makings.{Making}

module _ {L : Type 0} (tells : L → CallEntry → L → Type 0) (answer : List ℕ → List ℕ) (c : Calls) (l m : L) where
  -- what is refused changes nothing
  pub refused_with : (e : step.CallEvent) (why : StepFault) (new : Calls) → is_memory why ≡ false → call_step answer c e ≡ Faulty why → new ≡ c → m ≡ l → FailsWith tells answer c e l m why new
  refused_with e fault.BadFlow new plain is same still = record { step = is; same = same; lines = still }
  refused_with e (fault.NoStation n) new plain is same still = record { step = is; same = same; lines = still }
  refused_with e (fault.NoCopy n) new plain is same still = record { step = is; same = same; lines = still }
  refused_with e (fault.Lost n) new plain is same still = record { step = is; same = same; lines = still }
  refused_with e (fault.TooLate held charge) new plain is same still = record { step = is; same = same; lines = still }
  refused_with e fault.NoMemory new plain is same still = absurd cc

  -- A CALL
  module _ (f : Flow) (payload : List ℕ) where
    module _ (fine : first_refusal (call_refusals c f) ≡ None) where
      abbrev all : Course
      all = finish answer (make f payload c)

      goes : call_step answer c (Makes f payload) ≡ Stepped all.told all.calls
      goes = ap (λ (o : Option StepFault). make_unless answer o f payload c) fine

      pub call_done : (new : Calls) → HasGoneOn tells (λ r. finish answer (Making f payload r)) c l m new → IsDone tells answer c (Makes f payload) l m new
      call_done new gone = record { told = all.told; step = goes ∙ ap (λ (d : Calls). Stepped all.told d) (sym gone.calls); lines = gone.lines }

      pub call_stopped : HasStopped tells (λ r. finish answer (Making f payload r)) c l m → IsStopped tells answer c (Makes f payload) l m
      call_stopped stop = record { part = stop.part; rest = stop.rest; then = all.calls; step = goes ∙ ap (λ (ls : List CallEntry). Stepped ls all.calls) (sym stop.told); lines = stop.lines }

  -- AN EVENT OF THE WORLD
  module _ (e : WorldEvent) where
    pub event_refused : (why : StepFault) → world_step c.world e ≡ world.Refused why → call_step answer c (Happens e) ≡ Faulty why
    event_refused why is = ap (go_on answer e c) is

    abbrev pub after : World → Calls
    after w = record { world = w; calls = c.calls; flows = flows_after e c.flows }

    module _ (lines : List Entry) (w : World) (is : world_step c.world e ≡ world.Stepped lines w) where
      abbrev read : Course
      read = finish answer (from_calls (after w))

      went : call_step answer c (Happens e) ≡ Stepped read.told read.calls
      went = ap (go_on answer e c) is

      pub event_done : (new : Calls) → HasGoneOn tells (finish answer) (after w) l m new → IsDone tells answer c (Happens e) l m new
      event_done new gone = record { told = read.told; step = went ∙ ap (λ (d : Calls). Stepped read.told d) (sym gone.calls); lines = gone.lines }

      pub event_stopped : HasStopped tells (finish answer) (after w) l m → IsStopped tells answer c (Happens e) l m
      event_stopped stop = record { part = stop.part; rest = stop.rest; then = read.calls; step = went ∙ ap (λ (ls : List CallEntry). Stepped ls read.calls) (sym stop.told); lines = stop.lines }

    -- memory ran out within the event
    pub event_stops : first_refusal (refusals c.world e) ≡ None → m ≡ l → IsStopped tells answer c (Happens e) l m
    event_stops begun still =
        let r = after_event c.world e in
        let is : world_step c.world e ≡ world.Stepped r.0 r.1 = ap (λ (o : Option StepFault). step_unless o r) begun in
        let all = finish answer (from_calls (after r.1)) in
        record { part = []; rest = all.told; then = all.calls; step = ap (go_on answer e c) is; lines = sym still }

-- A CALL, by its parts
module _ {L : Type 0} (tells : L → CallEntry → L → Type 0) (answer : List ℕ → List ℕ) (c : Calls) (l : L) (f : Flow) (payload : List ℕ) (fine : first_refusal (call_refusals c f) ≡ None) where
  pub call_cut : (m : L) → HasStopped tells (Making f payload) c l m → IsStopped tells answer c (Makes f payload) l m
  call_cut m stop = call_stopped tells answer c l m f payload fine (stop_then tells (Making f payload) (finish answer) (adds_finish answer) c l m stop)

  module _ (d : Calls) (m n : L) (made : HasGoneOn tells (Making f payload) c l m d) where
    pub call_ends : (new : Calls) → HasGoneOn tells (finish answer) d m n new → IsDone tells answer c (Makes f payload) l n new
    call_ends new gone = call_done tells answer c l n f payload fine new (gone_then tells (Making f payload) (finish answer) (adds_finish answer) c d new l m n made gone)

    pub call_cut_late : HasStopped tells (finish answer) d m n → IsStopped tells answer c (Makes f payload) l n
    call_cut_late stop = call_stopped tells answer c l n f payload fine (gone_stop tells (Making f payload) (finish answer) (adds_finish answer) c d l m n made stop)

-- A CALL THAT IS REFUSED is so for no want of memory
refused_by : (a b x y : Bool) (n m : ℕ) (why : StepFault) → first_refusal ((a, fault.BadFlow) ∷ (b, fault.BadFlow) ∷ (x, fault.NoStation n) ∷ (y, fault.NoStation m) ∷ []) ≡ Some why → is_memory why ≡ false
refused_by true b x y n m why h = let is : fault.BadFlow ≡ why = cc in ap is_memory (sym is)
refused_by false true x y n m why h = let is : fault.BadFlow ≡ why = cc in ap is_memory (sym is)
refused_by false false true y n m why h = let is : fault.NoStation n ≡ why = cc in ap is_memory (sym is)
refused_by false false false true n m why h = let is : fault.NoStation m ≡ why = cc in ap is_memory (sym is)
refused_by false false false false n m why h = absurd cc

module _ (c : Calls) (f : Flow) (why : StepFault) (is : first_refusal (call_refusals c f) ≡ Some why) where
  pub call_plain : is_memory why ≡ false
  call_plain = refused_by (is_own f).0 (is_way_of_replies c f).0 (lacks_station c.world f.from.0).0 (lacks_station c.world f.to.0).0 f.from.0 f.to.0 why is

  pub call_refused : {L : Type 0} (tells : L → CallEntry → L → Type 0) (answer : List ℕ → List ℕ) (payload : List ℕ) (l : L) → FailsWith tells answer c (Makes f payload) l l why c
  call_refused tells answer payload l = refused_with tells answer c l l (Makes f payload) why c call_plain (ap (λ (o : Option StepFault). make_unless answer o f payload c) is) refl refl

-- AN EVENT OF THE WORLD, by its parts
module _ {H : Type 0} (e : WorldEvent) (c after : CourseValue H) where
  module _ {L : Type 0} (tells : L → CallEntry → L → Type 0) (answer : List ℕ → List ℕ) (l : L) where
    refused_for : (why : StepFault) → is_memory why ≡ false → IsRefusedBy e c after why → FailsWith tells answer c.calls (Happens e) l l why after.calls
    refused_for why plain h = refused_with tells answer c.calls l l (Happens e) why after.calls plain (event_refused tells answer c.calls l l e why h.step) (ap (λ (v : CourseValue H). v.calls) h.same) refl

    pub event_wrong : (why : StepFault) → GoesWrong e c after why → FailsWith tells answer c.calls (Happens e) l l why after.calls
    event_wrong fault.BadFlow h = refused_for fault.BadFlow refl h
    event_wrong (fault.NoStation n) h = refused_for (fault.NoStation n) refl h
    event_wrong (fault.NoCopy n) h = refused_for (fault.NoCopy n) refl h
    event_wrong (fault.Lost n) h = refused_for (fault.Lost n) refl h
    event_wrong (fault.TooLate held charge) h = refused_for (fault.TooLate held charge) refl h
    event_wrong fault.NoMemory h = event_stops tells answer c.calls l l e h.begun refl

    module _ (d : Due) (g : HasGone e c after d) where
      calls_after : after.calls ≡ record { world = after.calls.world; calls = c.calls.calls; flows = flows_after e c.calls.flows }
      calls_after =
          ap (λ (cs : List Call). let x : Calls = record { world = after.calls.world; calls = cs; flows = after.calls.flows } in x) g.calls
          ∙ ap (λ (fs : List (Flow × Begun)). let x : Calls = record { world = after.calls.world; calls = c.calls.calls; flows = fs } in x) g.flows

      module _ (m : L) where
        pub event_ends : (new : Calls) → HasGoneOn tells (finish answer) after.calls l m new → IsDone tells answer c.calls (Happens e) l m new
        event_ends new gone = event_done tells answer c.calls l m e g.lines after.calls.world g.step new (subst (λ (x : Calls). HasGoneOn tells (finish answer) x l m new) calls_after gone)

        pub event_cut : HasStopped tells (finish answer) after.calls l m → IsStopped tells answer c.calls (Happens e) l m
        event_cut stop = event_stopped tells answer c.calls l m e g.lines after.calls.world g.step (subst (λ (x : Calls). HasStopped tells (finish answer) x l m) calls_after stop)

  -- where it is refused nothing changes
  pub refused_same : (why : StepFault) → GoesWrong e c after why → is_memory why ≡ false → after ≡ c
  refused_same fault.BadFlow h plain = h.same
  refused_same (fault.NoStation n) h plain = h.same
  refused_same (fault.NoCopy n) h plain = h.same
  refused_same (fault.Lost n) h plain = h.same
  refused_same (fault.TooLate held charge) h plain = h.same
  refused_same fault.NoMemory h plain = absurd cc

-- the result of a `?` that found no memory
module _ {L U : Type 0} (tells : L → CallEntry → L → Type 0) (answer : List ℕ → List ℕ) (c : Calls) (e : step.CallEvent) (l m : L) (new : Calls) (r : Result U StepFault) where
  pub fails_with : (why : StepFault) → r ≡ Err why → FailsWith tells answer c e l m why new → StepsTo tells answer c e l m r new
  fails_with why is h = subst (λ (x : Result U StepFault). StepsTo tells answer c e l m x new) (sym is) h

  pub lacked : (why : StepFault) → r ≡ Err why → why ≡ fault.NoMemory → IsStopped tells answer c e l m → StepsTo tells answer c e l m r new
  lacked why is none h = fails_with fault.NoMemory (is ∙ ap (λ (x : StepFault). let y : Result U StepFault = Err x in y) none) h

pub lacks_all : {U : Type 0} (r : Result U StepFault) (why : StepFault) → r ≡ Err why → why ≡ fault.NoMemory → lacks_memory r ≡ true
lacks_all r why is none = ap lacks_memory is ∙ ap is_memory none
