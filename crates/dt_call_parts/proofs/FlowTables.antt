-- The flows with a call under the calls of their map.
use Rattle.std.proofs.Common.{ℕ, zero, suc, ◌+◌, ◌≡◌, ◌<◌, Bool, true, false, List, [], ◌∷◌, ◌++◌, length, map, set, drop, take, Option, Some, None, Result, Ok, Err, refl, sym, ap, ◌∙◌, inl, inr, arith, add-one, length-set}
use Rattle.std.specs.Prelude.{IfOk, MatchOption, OnErr, is_some, option_map, slice_get, slice_index_or, unwrap_or}
use Rattle.std.specs.Map.{lookup, set_value}
use Rattle.std.proofs.lemmas.Bool.{cases_Bool}
use Rattle.indexmap.specs.IndexMap.{insert_entry, set_value_at}
use Rattle.dt_units.specs.declared.endpoints.Flow.{Flow}
use Rattle.dt_world_model.specs.Tables.{has_key, look, same_flow, write}
use Rattle.dt_world_model.proofs.Maps as maps
use Rattle.dt_world_model.proofs.Maps.{equal_flows, flow_inserted, flow_looked, flow_written}
use Rattle.dt_world_model.proofs.Tables.{flow_is, flow_self, look_write}
use Rattle.dt_calls_model.specs.Calls as model
use Rattle.dt_calls_model.specs.Calls.{none_begun, with_flow}
use Rattle.dt_calls_model.specs.CallStep.{without_reader}
use Rattle.dt_calls_model.specs.Messages.{Piece, reversed}
use Rattle.dt_call_parts.specs.Dues.{due_after, due_with}
use Rattle.dt_call_parts.specs.Hearing.{HeardValue}
use Rattle.dt_call_parts.specs.declared.flow_sides.FlowSides.{FlowSides}
use Rattle.dt_call_parts.specs.Flows.{begun_in, begun_of, flows_seen, no_entry, with_sides_in}
use Rattle.dt_call_parts.specs.Kept.{keys_in}

-- WHAT IS SEEN of the sides of flows is a table like theirs, value by value
look_seen : (f : Flow) (es : List (Flow × FlowSides)) → look same_flow f (flows_seen es) ≡ option_map begun_of (look same_flow f es)
look_seen f [] = refl
look_seen f (e ∷ es) = elim (cases_Bool (same_flow e.0 f)) [ inl y ↦ rw y refl | inr n ↦ rw n (look_seen f es) ]

write_seen : (f : Flow) (a : FlowSides) (es : List (Flow × FlowSides)) → flows_seen (write same_flow f a es) ≡ write same_flow f (begun_of a) (flows_seen es)
write_seen f a [] = refl
write_seen f a (e ∷ es) =
    elim (cases_Bool (same_flow e.0 f)) [
      | inl y ↦ rw y refl
      | inr n ↦ rw n (ap (λ (r : List (Flow × model.Begun)). (e.0, begun_of e.1) ∷ r) (write_seen f a es))
    ]

-- a flow that isn't there comes after all others
write_last : (f : Flow) (b : model.Begun) (es : List (Flow × model.Begun)) → has_key same_flow f es ≡ false → write same_flow f b es ≡ es ++ (f, b) ∷ []
write_last f b [] h = refl
write_last f b (e ∷ es) h =
    elim (cases_Bool (same_flow e.0 f)) [
      | inl y ↦ absurd (let found : true ≡ false = rw y at h in cc)
      | inr n ↦ let rest : has_key same_flow f es ≡ false = rw n at h in rw n (ap (λ (r : List (Flow × model.Begun)). e ∷ r) (write_last f b es rest))
    ]

-- THE MAP finds and writes what the table has
look_found : (f : Flow) (es : List (Flow × FlowSides)) → look same_flow f (flows_seen es) ≡ option_map begun_of (lookup (equal_flows f) es)
look_found f es = look_seen f es ∙ ap (option_map begun_of) (sym (flow_looked f es))

some_mapped : (o : Option FlowSides) → is_some (option_map begun_of o) ≡ is_some o
some_mapped None = refl
some_mapped (Some s) = refl

pub key_found : (f : Flow) (es : List (Flow × FlowSides)) → has_key same_flow f (flows_seen es) ≡ is_some (lookup (equal_flows f) es)
key_found f es = ap is_some (look_found f es) ∙ some_mapped (lookup (equal_flows f) es)

pub begun_found : (f : Flow) (s : FlowSides) (es : List (Flow × FlowSides)) → lookup (equal_flows f) es ≡ Some s → begun_in f (flows_seen es) ≡ begun_of s
begun_found f s es h = ap (λ (o : Option model.Begun). unwrap_or o none_begun) (look_found f es ∙ ap (option_map begun_of) h)

written : (f : Flow) (a b : FlowSides) (es : List (Flow × FlowSides)) → lookup (equal_flows f) es ≡ Some b → flows_seen (set_value (equal_flows f) es a) ≡ write same_flow f (begun_of a) (flows_seen es)
written f a b es h = ap flows_seen (flow_written f a b es h) ∙ write_seen f a es

inserted : (f : Flow) (a : FlowSides) (es : List (Flow × FlowSides)) → has_key same_flow f (flows_seen es) ≡ false → flows_seen (insert_entry equal_flows es f a) ≡ flows_seen es ++ (f, begun_of a) ∷ []
inserted f a es h = ap flows_seen (flow_inserted f (insert_entry equal_flows) (λ b. refl) (λ b e rest. refl) a es) ∙ write_seen f a es ∙ write_last f (begun_of a) (flows_seen es) h

pub flow_there : (f : Flow) (es : List (Flow × FlowSides)) → has_key same_flow f (flows_seen es) ≡ true → flows_seen es ≡ with_flow f (flows_seen es)
flow_there f es h = rw h refl

pub flow_added : (f : Flow) (a : FlowSides) (es after : List (Flow × FlowSides)) → has_key same_flow f (flows_seen es) ≡ false → begun_of a ≡ none_begun → after ≡ insert_entry equal_flows es f a → flows_seen after ≡ with_flow f (flows_seen es)
flow_added f a es after h none is = ap flows_seen is ∙ inserted f a es h ∙ ap (λ (b : model.Begun). flows_seen es ++ (f, b) ∷ []) none ∙ sym (rw h refl)

-- KEYS stay where what they have is written
pub keys_written : (f : Flow) (b : model.Begun) (es : List (Flow × model.Begun)) → has_key same_flow f es ≡ true → keys_in (write same_flow f b es) ≡ keys_in es
keys_written f b [] h = absurd cc
keys_written f b (e ∷ es) h =
    elim (cases_Bool (same_flow e.0 f)) [
      | inl y ↦ rw y (ap (λ (g : Flow). g ∷ keys_in es) (sym (flow_is e.0 f y)))
      | inr n ↦ let rest : has_key same_flow f es ≡ true = rw n at h in rw n (ap (λ (gs : List Flow). e.0 ∷ gs) (keys_written f b es rest))
    ]

pub keys_seen : (es : List (Flow × FlowSides)) → keys_in (flows_seen es) ≡ keys_in es
keys_seen [] = refl
keys_seen (e ∷ es) = ap (λ (gs : List Flow). e.0 ∷ gs) (keys_seen es)

pub keys_long : (es : List (Flow × FlowSides)) → length (keys_in (flows_seen es)) ≡ length es
keys_long [] = refl
keys_long (e ∷ es) = ap suc (keys_long es)

pub key_at : (es : List (Flow × FlowSides)) (i : ℕ) (f : Flow) (s : FlowSides) → slice_get es i ≡ Some (f, s) → slice_get (keys_in (flows_seen es)) i ≡ Some f
key_at [] i f s h = absurd cc
key_at (e ∷ es) zero f s h = let same : e ≡ (f, s) = cc in ap (λ (x : Flow × FlowSides). Some x.0) same
key_at (e ∷ es) (suc i) f s h = key_at es i f s h

pub key_written : (f : Flow) (b : model.Begun) (es : List (Flow × model.Begun)) → has_key same_flow f (write same_flow f b es) ≡ true
key_written f b es = ap is_some (look_write Flow model.Begun same_flow flow_self flow_is f b es)

-- what holds of a call's result where it is Ok
pub if_ok_weaker : {T E P Q : Type 0} (r : Result T E) → (P → Q) → IfOk r (λ x. P) → IfOk r (λ x. Q)
if_ok_weaker (Ok x) f p = f p
if_ok_weaker (Err e) f p = tt

pub on_err_weaker : {T E P Q : Type 0} (r : Result T E) → (P → Q) → OnErr r P → OnErr r Q
on_err_weaker (Ok x) f p = tt
on_err_weaker (Err e) f p = f p

pub key_lost : (f : Flow) (es : List (Flow × FlowSides)) → has_key same_flow f (flows_seen es) ≡ true → lookup (equal_flows f) es ≡ None → ⊥
key_lost f es there none = let wrong : true ≡ false = sym there ∙ key_found f es ∙ ap is_some none in cc

-- what is written through a loan of what a flow's sides have begun
pub wrote : (f : Flow) (a s : FlowSides) (es after : List (Flow × FlowSides)) (change : model.Begun → model.Begun) → lookup (equal_flows f) es ≡ Some s → after ≡ set_value (equal_flows f) es a
    → begun_of a ≡ change (begun_of s) → flows_seen after ≡ with_sides_in f (change (begun_in f (flows_seen es))) (flows_seen es)
wrote f a s es after change there is changed =
    ap flows_seen is ∙ written f a s es there ∙ ap (λ (b : model.Begun). write same_flow f b (flows_seen es)) (changed ∙ ap change (sym (begun_found f s es there)))

-- where that is what they had, the flows are what they were
pub wrote_same : (f : Flow) (a s : FlowSides) (es after : List (Flow × FlowSides)) → lookup (equal_flows f) es ≡ Some s → has_key same_flow f (flows_seen es) ≡ true → after ≡ set_value (equal_flows f) es a
    → begun_of a ≡ begun_of s → flows_seen after ≡ flows_seen es
wrote_same f a s es after there key is same = wrote f a s es after (λ (b : model.Begun). b) there is same ∙ sym (maps.flow_there f none_begun (flows_seen es) key)

-- A RESTART, flow by flow
value_at : (es : List (Flow × FlowSides)) (i : ℕ) (k : Flow) (s t : FlowSides) → slice_get es i ≡ Some (k, s) → slice_get (map (λ (e : Flow × FlowSides). e.1) es) i ≡ Some t → s ≡ t
value_at [] i k s t h g = absurd cc
value_at (e ∷ es) zero k s t h g = let one : e ≡ (k, s) = cc in let two : e.1 ≡ t = cc in sym (ap (λ (x : Flow × FlowSides). x.1) one) ∙ two
value_at (e ∷ es) (suc i) k s t h g = value_at es i k s t h g

written_at : (es : List (Flow × FlowSides)) (i : ℕ) (k : Flow) (s new : FlowSides) (does : Flow × model.Begun → Flow × model.Begun) → slice_get es i ≡ Some (k, s) → (k, begun_of new) ≡ does (k, begun_of s)
    → flows_seen (set_value_at es i new) ≡ set (flows_seen es) i (does (slice_index_or (flows_seen es) i no_entry))
written_at [] i k s new does h is = absurd cc
written_at (e ∷ es) zero k s new does h is =
    let one : e ≡ (k, s) = cc in
    ap (λ (x : Flow × FlowSides). let y : List (Flow × model.Begun) = (x.0, begun_of new) ∷ flows_seen es in y) one
    ∙ ap (λ (x : Flow × model.Begun). x ∷ flows_seen es) is
    ∙ ap (λ (x : Flow × FlowSides). does (x.0, begun_of x.1) ∷ flows_seen es) (sym one)
written_at (e ∷ es) (suc i) k s new does h is = ap (λ (r : List (Flow × model.Begun)). (e.0, begun_of e.1) ∷ r) (written_at es i k s new does h is)

pub restarted_at : (n : ℕ) (es : List (Flow × FlowSides)) (i : ℕ) (k : Flow) (s t new : FlowSides) → slice_get es i ≡ Some (k, s) → slice_get (map (λ (e : Flow × FlowSides). e.1) es) i ≡ Some t → (k, begun_of new) ≡ without_reader n (k, begun_of t)
    → flows_seen (set_value_at es i new) ≡ set (flows_seen es) i (without_reader n (slice_index_or (flows_seen es) i no_entry))
restarted_at n es i k s t new h g is =
    let same = value_at es i k s t h g in
    written_at es i k s new (without_reader n) h (is ∙ ap (λ (x : FlowSides). without_reader n (k, begun_of x)) (sym same))

set_next : (f : Flow × model.Begun → Flow × model.Begun) (xs : List (Flow × model.Begun)) (i : ℕ) → i < length xs
    → set (map f (take i xs) ++ drop i xs) i (f (slice_index_or (map f (take i xs) ++ drop i xs) i no_entry)) ≡ map f (take (suc i) xs) ++ drop (suc i) xs
set_next f [] i h = absurd (omega arith)
set_next f (x ∷ xs) zero h = refl
set_next f (x ∷ xs) (suc i) h = ap (λ (r : List (Flow × model.Begun)). f x ∷ r) (set_next f xs i (omega arith))

seen_long : (es : List (Flow × FlowSides)) → length (flows_seen es) ≡ length es
seen_long [] = refl
seen_long (e ∷ es) = ap suc (seen_long es)

pub restarted_next : (n : ℕ) (first now after : List (Flow × FlowSides)) (i : ℕ) → i < length first → flows_seen now ≡ map (without_reader n) (take i (flows_seen first)) ++ drop i (flows_seen first) → length now ≡ length first
    → flows_seen after ≡ set (flows_seen now) i (without_reader n (slice_index_or (flows_seen now) i no_entry))
    → (flows_seen after ≡ map (without_reader n) (take (i + 1) (flows_seen first)) ++ drop (i + 1) (flows_seen first)) × (length after ≡ length first)
restarted_next n first now after i h seen long is =
    let there : i < length (flows_seen first) = (let long = seen_long first in omega arith) in
    let count : length after ≡ length now =
    sym (seen_long after) ∙ ap length is ∙ length-set (flows_seen now) i (without_reader n (slice_index_or (flows_seen now) i no_entry)) ∙ seen_long now in (
      is
          ∙ ap (λ (xs : List (Flow × model.Begun)). set xs i (without_reader n (slice_index_or xs i no_entry))) seen
          ∙ set_next (without_reader n) (flows_seen first) i there
          ∙ ap (λ (k : ℕ). map (without_reader n) (take k (flows_seen first)) ++ drop k (flows_seen first)) (sym (add-one i)),
      count ∙ long,
    )

-- WHAT IS DUE, by the tests of the code
pub piece_none : {A : Type 0} (P : A → Type 0) (r : Option A) (p : Option Piece) → MatchOption r (p ≡ None) P → is_some r ≡ false → is_some p ≡ false
piece_none P None p h e = ap is_some h
piece_none P (Some a) p h e = absurd cc

pub due_is : (flows : List (Flow × model.Begun)) (h : HeardValue) (x way : Flow) (a b : Bool) → is_some h.piece ≡ false → h.several ≡ false → h.accepted ≡ Some x → way ≡ reversed x → has_key same_flow x flows ≡ a → has_key same_flow way flows ≡ b → due_after flows h ≡ due_with a b x
due_is flows h x way a b piece several is back here there =
    let back' : has_key same_flow (reversed x) flows ≡ b = ap (λ (f : Flow). has_key same_flow f flows) (sym back) ∙ there in
    rw (piece, several, is, here, back') refl
