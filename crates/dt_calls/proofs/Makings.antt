-- A call that is made: its request is handed in, its lines are reported, and it gets its number.
use Rattle.std.proofs.Common.{ℕ, ◌≡◌, List, [], ◌∷◌, ◌++◌, length, None, Result, Ok, Err, refl, ap, sym, subst, ◌∙◌, append-nil}
use Rattle.std.specs.Prelude.{OnOk}
use Rattle.dt_units.specs.declared.endpoints.Flow.{Flow}
use Rattle.dt_units.specs.Flows.{IsFlow}
use Rattle.dt_world_model.specs.World.{World}
use Rattle.dt_calls_model.specs.declared.calls.Call.{Call}
use Rattle.dt_calls_model.specs.declared.calls.Posted.{Posted}
use Rattle.dt_calls_model.specs.declared.calls.Posted.TheVariants.{Refused, Taken}
use Rattle.dt_calls_model.specs.Calls.{Begun, Calls, with_flow}
use Rattle.dt_calls_model.specs.CallStep.{make, make_with, state_of}
use Rattle.dt_calls_model.specs.CallTold.{CallEntry}
use Rattle.dt_calls_model.specs.Messages.{message_of}
use Rattle.dt_calls_model.specs.Reads.{Course, in_world, post}
use Rattle.dt_call_parts.specs.declared.dues.Due.TheVariants as due
use Rattle.dt_call_parts.specs.Courses.{GoesOn, HasGoneOn, HasStopped, from_calls}
use Rattle.dt_call_parts.specs.Dues.{IsDue}
use Rattle.dt_calls.specs.Going.{then_made}
use Rattle.dt_call_parts.specs.Kept.{IsKeptWorld}
use Rattle.dt_call_parts.specs.Telling.{TellsCalls}
use Rattle.dt_call_parts.proofs.DuesLeft.{due_made}
use Rattle.dt_call_parts.proofs.Worlds.{post_leaves}

-- what holds at all events holds where a result is no error
pub on_ok : {U E : Type 0} (P : Type 0) (r : Result U E) → P → OnOk r P
on_ok P (Ok done) h = h
on_ok P (Err e) h = tt

-- the call that is added for a request that came to this
abbrev pub call_for : Flow → Posted → Call
call_for f posted = record { flow = f; state = state_of posted; served = 0; request = posted; reply = None }

abbrev pub Adding : Flow → ℕ → Posted → Course → Course
Adding f count posted r = then_made r (make_with f count (posted, r.calls.world) r.calls)

abbrev pub Making : Flow → List ℕ → Course → Course
Making f payload r = then_made r (make f payload r.calls)

module _ (f : Flow) (count : ℕ) (posted : Posted) (c : Calls) where
  abbrev pub with_added : Calls
  with_added = record { world = c.world; calls = c.calls ++ call_for f posted ∷ []; flows = with_flow f c.flows }

calls_added : (f : Flow) (count : ℕ) (posted : Posted) (c : Calls) → (make_with f count (posted, c.world) c).calls ≡ with_added f count posted c
calls_added f count (Taken place many) c = refl
calls_added f count Refused c = refl

module _ {L : Type 0} (tells : L → CallEntry → L → Type 0) (f : Flow) (count : ℕ) (posted : Posted) (c : Calls) (l m : L) (lines : TellsCalls tells (make_with f count (posted, c.world) c).told l m) where
  -- all of its lines were reported, and then memory ran out
  pub adding_stops : HasStopped tells (Adding f count posted) c l m
  adding_stops = record { part = (make_with f count (posted, c.world) c).told; rest = []; told = append-nil (make_with f count (posted, c.world) c).told; lines = lines }

  pub added : (calls : List Call) (flows : List (Flow × Begun)) → calls ≡ c.calls ++ call_for f posted ∷ [] → flows ≡ with_flow f c.flows → HasGoneOn tells (Adding f count posted) c l m (record { world = c.world; calls = calls; flows = flows })
  added calls flows more named = record {
    lines = lines;
    calls =
        ap (λ (cs : List Call). let d : Calls = record { world = c.world; calls = cs; flows = flows } in d) more
        ∙ ap (λ (fs : List (Flow × Begun)). let d : Calls = record { world = c.world; calls = c.calls ++ call_for f posted ∷ []; flows = fs } in d) named
        ∙ sym (calls_added f count posted c);
  }

  pub adds : {U E : Type 0} (r : Result U E) (calls : List Call) (flows : List (Flow × Begun)) → calls ≡ c.calls ++ call_for f posted ∷ [] → OnOk r (flows ≡ with_flow f c.flows) → GoesOn tells (Adding f count posted) c l m r (record { world = c.world; calls = calls; flows = flows })
  adds (Ok done) calls flows more named = added calls flows more named
  adds (Err e) calls flows more named = adding_stops

-- the message that is handed in is that of the call
pub handed_in : (f : Flow) (payload octets : List ℕ) (number : ℕ) (c : Calls) (r : Posted × World) → number ≡ length c.calls → octets ≡ message_of number payload → post f octets c.world ≡ r → post f (message_of (length c.calls) payload) c.world ≡ r
handed_in f payload octets number c r is message posts = ap (λ (os : List ℕ). post f os c.world) (sym (message ∙ ap (λ (n : ℕ). message_of n payload) is)) ∙ posts

-- THE REQUEST was handed in, and then the call is added.
module _ (f : Flow) (payload : List ℕ) (c : Calls) (posted : Posted) (w : World) (is : post f (message_of (length c.calls) payload) c.world ≡ (posted, w)) where
  same_making : Making f payload (from_calls c) ≡ Adding f (length payload) posted (from_calls (in_world w c))
  same_making = ap (λ (r : Posted × World). then_made (from_calls c) (make_with f (length payload) r c)) is

  world_is : (post f (message_of (length c.calls) payload) c.world).1 ≡ w
  world_is = ap (λ (r : Posted × World). r.1) is

  module _ {L : Type 0} (tells : L → CallEntry → L → Type 0) (l m : L) where
    pub makes : (after : Calls) → HasGoneOn tells (Adding f (length payload) posted) (in_world w c) l m after → HasGoneOn tells (Making f payload) c l m after
    makes after h = record { lines = subst (λ (d : Course). TellsCalls tells d.told l m) (sym same_making) h.lines; calls = h.calls ∙ ap (λ (d : Course). d.calls) (sym same_making) }

    pub makes_part : HasStopped tells (Adding f (length payload) posted) (in_world w c) l m → HasStopped tells (Making f payload) c l m
    makes_part h = record { part = h.part; rest = h.rest; told = h.told ∙ ap (λ (d : Course). d.told) (sym same_making); lines = h.lines }

  pub made_world : IsFlow f → IsKeptWorld c.world → IsKeptWorld w
  made_world flow kept = subst IsKeptWorld world_is (post_leaves f (message_of (length c.calls) payload) c.world flow kept).kept

  pub made_due : IsFlow f → IsKeptWorld c.world → IsDue due.Nothing c.world c.flows → IsDue (due.Flow f) w (with_flow f c.flows)
  made_due flow kept settled = subst (λ (v : World). IsDue (due.Flow f) v (with_flow f c.flows)) world_is (due_made c f (message_of (length c.calls) payload) flow kept settled)

  pub made_due_in : (v : World) (flows : List (Flow × Begun)) → v ≡ w → flows ≡ with_flow f c.flows → IsFlow f → IsKeptWorld c.world → IsDue due.Nothing c.world c.flows → IsDue (due.Flow f) v flows
  made_due_in v flows here named flow kept settled =
      subst (λ (x : World). IsDue (due.Flow f) x flows) (sym here) (subst (λ (fs : List (Flow × Begun)). IsDue (due.Flow f) w fs) (sym named) (made_due flow kept settled))
