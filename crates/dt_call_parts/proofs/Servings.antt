-- Requests are served, and replies answer their calls: what the code leaves is what the definitions say.
use Rattle.std.proofs.Common.{ℕ, ◌+◌, ◌≡◌, ◌<◌, Bool, true, false, if◌then◌else◌, List, [], ◌∷◌, length, set, get_or, Some, refl, ap, sym, subst, ◌∙◌}
use Rattle.std.specs.Prelude.{◌&&◌}
use Rattle.std.proofs.lemmas.List.{get_or_default}
use Rattle.dt_units.specs.declared.endpoints.Flow.{Flow}
use Rattle.dt_world_model.specs.World.{World}
use Rattle.dt_calls_model.specs.declared.calls.Call.{Call}
use Rattle.dt_calls_model.specs.declared.calls.CallState.{CallState}
use Rattle.dt_calls_model.specs.declared.calls.CallState.TheVariants as state
use Rattle.dt_calls_model.specs.declared.calls.Posted.{Posted}
use Rattle.dt_calls_model.specs.Calls.{Calls, Side, call_in, is_call_in, no_call}
use Rattle.dt_calls_model.specs.CallTold as told
use Rattle.dt_calls_model.specs.CallTold.{CallEntry}
use Rattle.dt_calls_model.specs.Messages.{has_number, message_of, number_in, reversed}
use Rattle.dt_calls_model.specs.Reads.{Course, answered_if, post, serve_call, take_message, take_whole}
use Rattle.dt_call_parts.specs.Courses.{HasGoneOn, HasStopped, from_calls}
use Rattle.dt_call_parts.specs.Telling.{TellsCalls}

-- the call that is there
pub call_there : (calls : List Call) (n : ℕ) (x : Call) → n < length calls → x ≡ get_or calls n x → x ≡ call_in calls n
call_there calls n x there is = is ∙ get_or_default calls n x no_call there

module _ {L : Type 0} (tells : L → CallEntry → L → Type 0) (answer : List ℕ → List ℕ) (c : Calls) (l : L) where
  -- A REQUEST IS SERVED
  module _ (f : Flow) (n : ℕ) (payload : List ℕ) (m : L) (tell : tells l (record { moment = c.world.now; told = told.Served n }) m) where
    pub serving_stops : HasStopped tells (serve_call answer f n payload) c l m
    serving_stops = record { part = (record { moment = c.world.now; told = told.Served n }) ∷ []; rest = []; told = refl; lines = (m, tell, refl) }

    pub served : (posted : Posted) (w : World) (x : Call) → post (reversed f) (message_of n (answer payload)) c.world ≡ (posted, w) → x ≡ call_in c.calls n
        → HasGoneOn tells (serve_call answer f n payload) c l m (record { world = w; calls = set c.calls n (record x { served = x.served + 1; reply = Some posted }); flows = c.flows })
    served posted w x is there = record {
      lines = (m, tell, refl);
      calls =
          ap (λ (y : Call). let d : Calls = record { world = w; calls = set c.calls n (record y { served = y.served + 1; reply = Some posted }); flows = c.flows } in d) there
          ∙ ap (λ (r : Posted × World). let d : Calls = record { world = r.1; calls = set c.calls n (record (call_in c.calls n) { served = (call_in c.calls n).served + 1; reply = Some r.0 }); flows = c.flows } in d) (sym is);
    }

  -- A REPLY ANSWERS
  module _ (n : ℕ) (octets : List ℕ) where
    -- one of a call that doesn't wait tells and changes nothing
    abbrev pub IsDone : CallState → Type 0
    IsDone state.Waiting = ⊥
    IsDone state.Answered = Unit {0}
    IsDone state.Unsure = Unit {0}
    IsDone state.Declined = Unit {0}

    pub not_answered : (s : CallState) → IsDone s → HasGoneOn tells (answered_if s n octets) c l l c
    not_answered state.Waiting h = absurd h
    not_answered state.Answered h = record { lines = refl; calls = refl }
    not_answered state.Unsure h = record { lines = refl; calls = refl }
    not_answered state.Declined h = record { lines = refl; calls = refl }

    pub answered : (m : L) (x : Call) → x ≡ call_in c.calls n → tells l (record { moment = c.world.now; told = told.Answered n octets }) m
        → HasGoneOn tells (answered_if state.Waiting n octets) c l m (record c { calls = set c.calls n (record x { state = state.Answered }) })
    answered m x there tell = record {
      lines = (m, tell, refl);
      calls = ap (λ (y : Call). let d : Calls = record c { calls = set c.calls n (record y { state = state.Answered }) } in d) there;
    }

  -- A WHOLE MESSAGE is dropped, or is one of a call
  module _ (side : Side) (f : Flow) (message : List ℕ) where
    abbrev is_ours : Bool
    is_ours = has_number message && is_call_in c.calls f (number_in message)

    dropped_if : (b : Bool) → is_ours ≡ b → b ≡ false → HasGoneOn tells (take_whole answer side f (Some message)) c l l c
    dropped_if true is h = absurd cc
    dropped_if false is h =
        let same : take_whole answer side f (Some message) (from_calls c) ≡ from_calls c = ap (λ (b : Bool). if b then take_message answer side f message (from_calls c) else from_calls c) is in
        record { lines = subst (λ (r : Course). TellsCalls tells r.told l l) (sym same) refl; calls = ap (λ (r : Course). r.calls) (sym same) }

    nothing_and : (a b : Bool) → a ≡ false → (a && b) ≡ false
    nothing_and true b h = absurd cc
    nothing_and false b h = refl

    and_nothing : (a b : Bool) → b ≡ false → (a && b) ≡ false
    and_nothing true b h = h
    and_nothing false b h = refl

    both : (a b : Bool) → a ≡ true → b ≡ true → (a && b) ≡ true
    both true b h k = k
    both false b h k = absurd cc

    pub no_number : has_number message ≡ false → HasGoneOn tells (take_whole answer side f (Some message)) c l l c
    no_number h = dropped_if is_ours refl (nothing_and (has_number message) (is_call_in c.calls f (number_in message)) h)

    pub no_call_of_it : is_call_in c.calls f (number_in message) ≡ false → HasGoneOn tells (take_whole answer side f (Some message)) c l l c
    no_call_of_it h = dropped_if is_ours refl (and_nothing (has_number message) (is_call_in c.calls f (number_in message)) h)

    pub is_taken : has_number message ≡ true → is_call_in c.calls f (number_in message) ≡ true → take_whole answer side f (Some message) (from_calls c) ≡ take_message answer side f message (from_calls c)
    is_taken h k = ap (λ (b : Bool). if b then take_message answer side f message (from_calls c) else from_calls c) (both (has_number message) (is_call_in c.calls f (number_in message)) h k)

-- the same course from the same calls
module _ {L : Type 0} (tells : L → CallEntry → L → Type 0) (f g : Course → Course) (c : Calls) (l m : L) (same : f (from_calls c) ≡ g (from_calls c)) where
  pub gone_as : (after : Calls) → HasGoneOn tells g c l m after → HasGoneOn tells f c l m after
  gone_as after h = record { lines = subst (λ (r : Course). TellsCalls tells r.told l m) (sym same) h.lines; calls = h.calls ∙ ap (λ (r : Course). r.calls) (sym same) }

  pub stopped_as : HasStopped tells g c l m → HasStopped tells f c l m
  stopped_as h = record { part = h.part; rest = h.rest; told = h.told ∙ ap (λ (r : Course). r.told) (sym same); lines = h.lines }
