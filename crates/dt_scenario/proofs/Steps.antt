-- What a step says of its line, by what it told.
use Rattle.std.proofs.Common.{◌≡◌, ℕ, Bool, true, false, List, [], ◌∷◌, ◌++◌, length, take, take_all, Option, Some, Result, Ok, Err, refl, ap, sym, subst, ◌∙◌, arith, flat_map}
use Rattle.std.proofs.lemmas.List.Concat.{flat_map-append}
use Rattle.dt_edges.specs.Sinks.{SinkSight}
use Rattle.dt_edges.proofs.Puts.{takes_as}
use Rattle.dt_reports.specs.declared.faults.Fault.{Fault}
use Rattle.dt_reports.specs.declared.faults.Fault.TheVariants as faults
use Rattle.dt_reports.specs.declared.faults.StepFault.{StepFault}
use Rattle.dt_reports.specs.declared.faults.StepFault.TheVariants as fault
use Rattle.dt_fold.specs.declared.stops.Stop.{Stop}
use Rattle.dt_fold.specs.declared.stops.Stop.TheVariants as stops
use Rattle.dt_fold.specs.Folds.{Turned}
use Rattle.dt_fold.specs.Logging.{TurnsTo}
use Rattle.dt_fold.proofs.Stopping.{stops_as, stops_more}
use Rattle.dt_scenario.specs.declared.logs.Log.{Log}
use Rattle.dt_scenario.specs.Parts.{stepped}
use Rattle.dt_scenario.specs.Writing.{Writes, WroteBy}
use Rattle.dt_scenario.proofs.Writing.{wrote_all}

-- lines were told and the state is the one after them
abbrev pub turned_to : {S : Type 0} → List ℕ → S → Result (Turned S) Fault
turned_to text state = Ok (record { text = text; state = state })

module _ {K S : Type 0} (sight : K → SinkSight) where
  done_turns : (failed : Bool) (text : List ℕ) (before after : S) (old new : K) → WroteBy failed text (sight old) (sight new) → TurnsTo sight (turned_to text after) (stepped (Ok tt) failed) before after old new
  done_turns false text before after old new h = (refl, h)
  done_turns true text before after old new h = h

  stopped_turns : (failed : Bool) (part rest : List ℕ) (before then left : S) (old new : K) → WroteBy failed part (sight old) (sight new) → TurnsTo sight (turned_to (part ++ rest) then) (stepped (Err fault.NoMemory) failed) before left old new
  stopped_turns false part rest before then left old new h =
      let whole : take (length part) part ≡ part = take_all (length part) part (omega arith) in
      stops_more stops.NoMemory part rest (sight old) (sight new) (length part, takes_as part (take (length part) part) (sight old) (sight new) (sym whole) h)
  stopped_turns true part rest before then left old new h = stops_more stops.WriteFault part rest (sight old) (sight new) h

module _ {K E S : Type 0} (sight : K → SinkSight) (text : E → List ℕ) (Told : List E → Log K → Log K → Type 0)
    (none : (s t : Log K) → Told [] s t → s ≡ t) (first : (x : E) (xs : List E) (s t : Log K) → Told (x ∷ xs) s t → (m : Log K) × Writes sight (text x) s m × Told xs m t)
    (turn : Result (Turned S) Fault) (before after : S) (s t : Log K) (fine : s.failed ≡ false) where
  abbrev Says : Result (Turned S) Fault → Result (Option Fault) Stop → Type 0
  Says turn answer = TurnsTo sight turn answer before after s.out.now t.out.now

  -- it is done
  pub done_says : (told : List E) → turn ≡ turned_to (flat_map text told) after → Told told s t → Says turn (stepped (Ok tt) t.failed)
  done_says told is lines =
      subst (λ (r : Result (Turned S) Fault). Says r (stepped (Ok tt) t.failed)) (sym is) (done_turns sight t.failed (flat_map text told) before after s.out.now t.out.now (wrote_all sight text Told none first told s t fine lines))

  -- it is refused, and nothing was told
  pub refused_says : (f : StepFault) → stepped (Err f) false ≡ Ok (Some (faults.Step f)) → turn ≡ Err (faults.Step f) → after ≡ before → t ≡ s → Says turn (stepped (Err f) t.failed)
  refused_says f shape is same lines =
      let still : t.failed ≡ false = ap (λ (r : Log K). r.failed) lines ∙ fine in
      let said : Says turn (Ok (Some (faults.Step f))) = (is, same, ap (λ (r : Log K). sight r.out.now) lines) in
      subst (λ (b : Bool). Says turn (stepped (Err f) b)) (sym still) (subst (λ (a : Result (Option Fault) Stop). Says turn a) (sym shape) said)

  -- it found no memory, and first lines were reported
  pub stopped_says : (part rest : List E) (then : S) → turn ≡ turned_to (flat_map text (part ++ rest)) then → Told part s t → Says turn (stepped (Err fault.NoMemory) t.failed)
  stopped_says part rest then is lines =
      subst (λ (r : Result (Turned S) Fault). Says r (stepped (Err fault.NoMemory) t.failed)) (sym (is ∙ ap (λ (l : List ℕ). turned_to l then) (flat_map-append text part rest)))
      (stopped_turns sight t.failed (flat_map text part) (flat_map text rest) before then after s.out.now t.out.now (wrote_all sight text Told none first part s t fine lines))
