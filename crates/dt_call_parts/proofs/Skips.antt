-- Sides that rest are passed over.
use Rattle.std.proofs.Common.{ℕ, ◌≡◌, Bool, true, false, List, [], ◌∷◌, ◌++◌, fold, refl, ap, sym, subst, ◌∙◌, inl, inr, ◌⊎◌}
use Rattle.std.proofs.lemmas.Bool.{cases_Bool}
use Rattle.dt_units.specs.declared.endpoints.Flow.{Flow}
use Rattle.dt_world_model.specs.Tables.{has_key, same_flow}
use Rattle.dt_world_model.specs.World.{World}
use Rattle.dt_world_model.proofs.Tables.{flow_is, flow_self}
use Rattle.dt_calls_model.specs.Calls.{Begun, Calls, Side, flow_read, with_flow}
use Rattle.dt_calls_model.specs.CallTold.{CallEntry}
use Rattle.dt_calls_model.specs.Reads.{Course, read_side, read_sides}
use Rattle.dt_call_parts.specs.Courses.{from_calls}
use Rattle.dt_call_parts.specs.Kept.{keys_in}
use Rattle.dt_call_parts.specs.Resting.{AllRest, RestsAt}
use Rattle.dt_call_parts.proofs.Courses.{at}
use Rattle.dt_call_parts.proofs.Rests.{skipped}

-- KEYS
pub has_by_keys : {A B : Type 0} (k : Flow) (es : List (Flow × A)) (fs : List (Flow × B)) → keys_in es ≡ keys_in fs → has_key same_flow k es ≡ has_key same_flow k fs
has_by_keys k [] [] h = refl
has_by_keys k [] (f ∷ fs) h = absurd cc
has_by_keys k (e ∷ es) [] h = absurd cc
has_by_keys {A} {B} k (e ∷ es) (f ∷ fs) h =
    let first : e.0 ≡ f.0 = cc in
    let more : keys_in es ≡ keys_in fs = cc in
    let rest = has_by_keys k es fs more in
    elim (cases_Bool (same_flow f.0 k)) [
      | inl y ↦ let t : same_flow e.0 k ≡ true = ap (λ (g : Flow). same_flow g k) first ∙ y in rw (y, t) refl
      | inr n ↦ let t : same_flow e.0 k ≡ false = ap (λ (g : Flow). same_flow g k) first ∙ n in rw (n, t) rest
    ]

has_here : {A : Type 0} (e : Flow × A) (es : List (Flow × A)) → has_key same_flow e.0 (e ∷ es) ≡ true
has_here e es = rw (flow_self e.0) refl

has_behind : {A : Type 0} (k : Flow) (e : Flow × A) (es : List (Flow × A)) → has_key same_flow k es ≡ true → has_key same_flow k (e ∷ es) ≡ true
has_behind k e es h = elim (cases_Bool (same_flow e.0 k)) [ inl y ↦ rw y refl | inr n ↦ rw n h ]

abbrev IsIn : Flow → List Flow → Type 0
IsIn f [] = ⊥
IsIn f (k ∷ ks) = (k ≡ f) ⊎ IsIn f ks

is_in : {A : Type 0} (f : Flow) (es : List (Flow × A)) → has_key same_flow f es ≡ true → IsIn f (keys_in es)
is_in f [] h = absurd cc
is_in f (e ∷ es) h =
    elim (cases_Bool (same_flow e.0 f)) [
      | inl y ↦ inl (flow_is e.0 f y)
      | inr n ↦ let rest : has_key same_flow f es ≡ true = rw n at h in inr (is_in f es rest)
    ]

-- a flow is there with its first call, or was before
pub has_with : (k f : Flow) (es : List (Flow × Begun)) → has_key same_flow k (with_flow f es) ≡ true → (k ≡ f) ⊎ (has_key same_flow k es ≡ true)
has_with k f es h = by_old (has_key same_flow f es) refl
  where
    behind_all : (b : Begun) (gs : List (Flow × Begun)) → has_key same_flow k (gs ++ (f, b) ∷ []) ≡ true → (k ≡ f) ⊎ (has_key same_flow k gs ≡ true)
    behind_all b [] h = elim (cases_Bool (same_flow f k)) [ inl y ↦ inl (sym (flow_is f k y)) | inr n ↦ absurd (let no' : false ≡ true = rw n at h in cc) ]
    behind_all b (g ∷ gs) h =
        elim (cases_Bool (same_flow g.0 k)) [
          | inl y ↦ inr (rw y refl)
          | inr n ↦ let rest : has_key same_flow k (gs ++ (f, b) ∷ []) ≡ true = rw n at h in elim (behind_all b gs rest) [ inl e ↦ inl e | inr t ↦ inr (rw n t) ]
        ]

    by_old : (old : Bool) → has_key same_flow f es ≡ old → (k ≡ f) ⊎ (has_key same_flow k es ≡ true)
    by_old true e = inr (rw e at h)
    by_old false e = behind_all _ es (rw e at h)

pub has_added : (f : Flow) (es : List (Flow × Begun)) → has_key same_flow f (with_flow f es) ≡ true
has_added f es = by_old (has_key same_flow f es) refl
  where
    at_end : (b : Begun) (gs : List (Flow × Begun)) → has_key same_flow f (gs ++ (f, b) ∷ []) ≡ true
    at_end b [] = rw (flow_self f) refl
    at_end b (g ∷ gs) = elim (cases_Bool (same_flow g.0 f)) [ inl y ↦ rw y refl | inr n ↦ rw n (at_end b gs) ]

    by_old : (old : Bool) → has_key same_flow f es ≡ old → has_key same_flow f (with_flow f es) ≡ true
    by_old true e = rw e e
    by_old false e = rw e (at_end _ es)

-- WHAT RESTS
pub all_of : {A : Type 0} (side : Side) (w : World) (es : List (Flow × A)) → ((k : Flow) → has_key same_flow k es ≡ true → RestsAt w (flow_read side k)) → AllRest side w (keys_in es)
all_of side w [] h = tt
all_of side w (e ∷ es) h = (h e.0 (has_here e es), all_of side w es (λ k there. h k (has_behind k e es there)))

-- THE READING OF ALL, where they rest
module _ (answer : List ℕ → List ℕ) (side : Side) where
  pub all_skipped : (keys : List Flow) (told : List CallEntry) (c : Calls) → AllRest side c.world keys → fold (read_side answer side) (at told c) keys ≡ at told c
  all_skipped [] told c all = refl
  all_skipped (k ∷ ks) told c all = ap (λ (r : Course). fold (read_side answer side) r ks) (skipped answer side k told c all.0) ∙ all_skipped ks told c all.1

  -- and where all but one do
  module _ (f : Flow) (c : Calls) where
    abbrev pub after : Course
    after = read_side answer side (from_calls c) f

    abbrev EachBut : List Flow → Type 0
    EachBut [] = Unit {0}
    EachBut (k ∷ ks) = ((k ≡ f) ⊎ RestsAt c.world (flow_read side k)) × EachBut ks

    each_but : {A : Type 0} (es : List (Flow × A)) → ((k : Flow) → has_key same_flow k es ≡ true → (k ≡ f) ⊎ RestsAt c.world (flow_read side k)) → EachBut (keys_in es)
    each_but [] h = tt
    each_but (e ∷ es) h = (h e.0 (has_here e es), each_but es (λ k there. h k (has_behind k e es there)))

    rest_with : (w : World) → RestsAt w (flow_read side f) → ((g : Flow) → RestsAt c.world g → RestsAt w g) → (ks : List Flow) → EachBut ks → AllRest side w ks
    rest_with w here others [] all = tt
    rest_with w here others (k ∷ ks) (inl e, more) = (subst (λ (g : Flow). RestsAt w (flow_read side g)) (sym e) here, rest_with w here others ks more)
    rest_with w here others (k ∷ ks) (inr rest, more) = (others (flow_read side k) rest, rest_with w here others ks more)

    module _ (here : RestsAt after.calls.world (flow_read side f)) (keeps : (g : Flow) → RestsAt c.world g → RestsAt after.calls.world g) where
      fold_one : (keys : List Flow) → EachBut keys → IsIn f keys → fold (read_side answer side) (from_calls c) keys ≡ after
      fold_one [] all there = absurd there
      fold_one (k ∷ ks) (inl e, more) there =
          ap (λ (g : Flow). fold (read_side answer side) (read_side answer side (from_calls c) g) ks) e ∙ all_skipped ks after.told after.calls (rest_with after.calls.world here keeps ks more)
      fold_one (k ∷ ks) (inr rest, more) (inl e) =
          let mine : RestsAt c.world (flow_read side f) = subst (λ (g : Flow). RestsAt c.world (flow_read side g)) e rest in
          ap (λ (r : Course). fold (read_side answer side) r ks) (skipped answer side k [] c rest)
          ∙ all_skipped ks [] c (rest_with c.world mine (λ g h. h) ks more)
          ∙ sym (skipped answer side f [] c mine)
      fold_one (k ∷ ks) (inr rest, more) (inr there) = ap (λ (r : Course). fold (read_side answer side) r ks) (skipped answer side k [] c rest) ∙ fold_one ks more there

      pub one_read : has_key same_flow f c.flows ≡ true → ((k : Flow) → has_key same_flow k c.flows ≡ true → (k ≡ f) ⊎ RestsAt c.world (flow_read side k)) → read_sides answer side (from_calls c) ≡ after
      one_read there rests = fold_one (keys_in c.flows) (each_but c.flows rests) (is_in f c.flows there)

  pub none_read : (c : Calls) → ((k : Flow) → has_key same_flow k c.flows ≡ true → RestsAt c.world (flow_read side k)) → read_sides answer side (from_calls c) ≡ from_calls c
  none_read c rests = all_skipped (keys_in c.flows) [] c (all_of side c.world c.flows rests)
