-- A step of a whole world: it is the definition's, and the world is whole again.
use Rattle.std.proofs.Common.{ℕ, ◌≤◌, ◌≡◌, ◌++◌, length, take, drop, Bool, false, true, List, [], ◌∷◌, Option, None, Some, refl, sym, ap, subst, ◌∙◌, arith}
use Rattle.std.proofs.lemmas.Bool.{false≢true}
use Rattle.std.proofs.lemmas.Grind.{common_steps}
use Rattle.dt_reports.specs.Entries.{Entry}
use Rattle.dt_reports.specs.declared.faults.StepFault.{StepFault}
use Rattle.dt_reports.specs.declared.faults.StepFault.TheVariants as fault
use Rattle.dt_units.specs.declared.parameters.Params.{Params}
use Rattle.dt_units.specs.Limits.{IsWithinLimits}
use Rattle.dt_world_model.specs.Tables.{AllEntries}
use Rattle.dt_world_model.specs.World.{World, view}
use Rattle.dt_world_model.specs.WorldFacts.{CanHappen}
use Rattle.dt_world_model.specs.WorldStep.{Arrives, Loses, Passes, Reads, Refused, Restarts, Sends, Stepped, Ticks, WorldEvent, after_event, first_refusal, refusals, step_unless, world_step}
use Rattle.dt_world_laws.proofs.Lifting.{lifted_fates}
use Rattle.dt_world_laws.proofs.Promise.{facts_are_safe}
use Rattle.dt_world_laws.proofs.Worlds.{GoesTo, effect_keeps}
use Rattle.dt_world.specs.declared.world_parts.WorldParts.{WorldParts}
use Rattle.dt_world.specs.Outcomes.{FailsWith, HasHappened, HasStopped, IsDone, IsRefused, IsSpent}
use Rattle.dt_notes.specs.Setups.{AreNumbered}
use Rattle.dt_notes.specs.Moments.{most_now}
use Rattle.dt_world.specs.Stopping.{ComesTo, IsAtItsEnd, MayStop}
use Rattle.dt_notes.specs.Events.{most_read}
use Rattle.dt_world.specs.Worlds.{IsStationOf, IsWhole, WorldValue, world_seen}

abbrev pub unspent : World → WorldValue
unspent w = record { state = w; spent = false }

module _ (parts : WorldParts) (whole : IsWhole parts) (e : WorldEvent) (can : CanHappen e) (begun : first_refusal (refusals (world_seen parts) e) ≡ None) (after : WorldParts) where
  abbrev w : World
  w = world_seen parts

  goes : world_seen after ≡ (after_event w e).1 → GoesTo w (world_seen after)
  goes is = subst (λ (v : World). GoesTo w v) (sym is) (effect_keeps w whole.limits whole.facts e can begun)

  pub whole_after : {L : Type 0} (tells : L → Entry → L → Type 0) (u v : L) → HasHappened tells (after_event w e) u v (world_seen after) → after.rules ≡ parts.rules → after.links ≡ parts.links → after.now ≤ most_now → AllEntries (IsStationOf after.rules after.now) after.stations.entries → IsWhole after
  whole_after tells u v h rules links moment stations =
      record {
        limits = subst (λ (p : Params). IsWithinLimits p) (sym rules) whole.limits;
        moment = moment;
        numbers = subst (λ entries. AreNumbered entries) (sym (ap (λ m. m.entries) links)) whole.numbers;
        stations = stations;
        facts = (goes h.world_is).0;
      }

  pub is_done : {L : Type 0} (tells : L → Entry → L → Type 0) (u v : L) → (IsAtItsEnd w e → ⊥) → HasHappened tells (after_event w e) u v (world_seen after) → IsDone tells (unspent w) e u v (unspent (world_seen after))
  is_done tells u v within h =
      let k = goes h.world_is in
      record {
        told = (after_event w e).0;
        step = ap (λ (o : Option StepFault). step_unless o (after_event w e)) begun ∙ ap (λ (x : World). Stepped (after_event w e).0 x) (sym h.world_is);
        lines = h.lines;
        unspent = refl;
        within = within;
        safe = λ f. facts_are_safe (world_seen after) f k.0;
        facts = k.0;
        fates = λ f. lifted_fates w.params (view w f) (view (world_seen after) f) (k.1 f);
      }

  pub is_spent : {L : Type 0} (tells : L → Entry → L → Type 0) (u v : L) → MayStop w e → HasStopped tells w (ComesTo w e) (after_event w e) u v (world_seen after) → IsSpent tells (unspent w) e u v (record { state = world_seen after; spent = true })
  is_spent tells u v may h = record { begun = begun; may = may; noted = h.noted; comes_to = h.comes_to; rest = h.rest; told = h.told; lines = h.lines; spent = refl; has_noted = h.has_noted; kept = h.kept; safe = h.safe }

-- a refused event, by its fault
refused_by : (w : World) (e : WorldEvent) (fault : StepFault) → first_refusal (refusals w e) ≡ Some fault → world_step w e ≡ Refused fault
refused_by w e fault h = ap (λ (o : Option StepFault). step_unless o (after_event w e)) h

-- want of memory is no refusal
abbrev says_memory : StepFault → Bool
says_memory fault.BadFlow = false
says_memory (fault.NoStation n) = false
says_memory (fault.NoCopy n) = false
says_memory (fault.Lost n) = false
says_memory (fault.TooLate held charge) = false
says_memory fault.NoMemory = true

abbrev NoneSays : List (Bool × StepFault) → Type 0
NoneSays [] = Unit {0}
NoneSays (test ∷ tests) = (says_memory test.1 ≡ false) × NoneSays tests

refusals_say : (world : World) (e : WorldEvent) → NoneSays (refusals world e)
refusals_say world (Passes by) = tt
refusals_say world (Sends f octets begin end) = (refl, (refl, tt))
refusals_say world (Reads f most) = (refl, (refl, tt))
refusals_say world (Ticks n) = (refl, tt)
refusals_say world (Arrives n) = (refl, (refl, (refl, tt)))
refusals_say world (Loses n) = (refl, (refl, tt))
refusals_say world (Restarts n) = (refl, tt)

first_says : (tests : List (Bool × StepFault)) (f : StepFault) → NoneSays tests → Some f ≡ first_refusal tests → says_memory f ≡ false
first_says [] f h e = absurd (cc)
first_says ((true, g) ∷ tests) f h e = let is : f ≡ g = cc in rw is h.0
first_says ((false, g) ∷ tests) f h e = first_says tests f h.1 e

fails_with : {L : Type 0} (tells : L → Entry → L → Type 0) (world : WorldValue) (e : WorldEvent) (v : L) (f : StepFault) → says_memory f ≡ false → IsRefused tells world e f v v world → FailsWith tells f world e v v world
fails_with tells world e v fault.BadFlow m h = h
fails_with tells world e v (fault.NoStation n) m h = h
fails_with tells world e v (fault.NoCopy n) m h = h
fails_with tells world e v (fault.Lost n) m h = h
fails_with tells world e v (fault.TooLate held charge) m h = h
fails_with tells world e v fault.NoMemory m h = absurd (false≢true (sym m))

pub is_refused : {L : Type 0} (tells : L → Entry → L → Type 0) (world : WorldValue) (e : WorldEvent) (v : L) (f : StepFault) → Some f ≡ first_refusal (refusals world.state e) → FailsWith tells f world e v v world
is_refused tells world e v f h =
    fails_with tells world e v f (first_says (refusals world.state e) f (refusals_say world.state e) h) record { step = refused_by world.state e f (sym h); same = refl; lines = refl }

-- a step's answer, said of the world's value
pub done_in : {L : Type 0} (tells : L → Entry → L → Type 0) (begun after : World) (e : WorldEvent) (u v : L) (before : WorldValue) (spent : Bool) → spent ≡ false → (let x : WorldValue = record { state = begun; spent = spent } in x) ≡ before → IsDone tells (unspent begun) e u v (unspent after) → IsDone tells before e u v (record { state = after; spent = spent })
done_in tells begun after e u v before spent unspent_is is d =
    subst (λ (x : WorldValue). IsDone tells x e u v (record { state = after; spent = spent })) is
    (subst (λ (b : Bool). IsDone tells (record { state = begun; spent = b }) e u v (record { state = after; spent = b })) (sym unspent_is) d)

pub spent_in : {L : Type 0} (tells : L → Entry → L → Type 0) (begun : World) (e : WorldEvent) (u v : L) (before new : WorldValue) (spent : Bool) → spent ≡ false → (let x : WorldValue = record { state = begun; spent = spent } in x) ≡ before → IsSpent tells (unspent begun) e u v new → IsSpent tells before e u v new
spent_in tells begun e u v before new spent unspent_is is d =
    subst (λ (x : WorldValue). IsSpent tells x e u v new) is
    (subst (λ (b : Bool). IsSpent tells (record { state = begun; spent = b }) e u v new) (sym unspent_is) d)

-- the buffer keeps its length
pub buf_kept : (new items : List ℕ) (len : ℕ) → len ≡ most_read → length new ≡ most_read → length items ≡ most_read → length (take len (new ++ drop (length new) items)) ≡ most_read
buf_kept new items len a b c = grind (arith, common_steps)
