-- What the inboxes of a mailbox have begun of a flow: nothing, or what was begun of all that was read.
use Rattle.std.proofs.Common.{◌≡◌, ◌∙◌, ◌⊎◌, ◌<◌, ℕ, zero, suc, Bool, true, false, List, [], ◌∷◌, ◌++◌, drop, length, take, Option, Some, None, refl, sym, ap, subst, arith, inl, inr}
use Rattle.std.specs.Prelude.{nat_lt, set, slice_index_or}
use Rattle.std.specs.List.{position, position_or_len, remove}
use Rattle.std.proofs.lemmas.Bool.{cases_Bool}
use Rattle.std.proofs.lemmas.Bool.Decides.{nat_tests}
use Rattle.dt_units.specs.declared.endpoints.Flow.{Flow}
use Rattle.dt_world_model.proofs.Tables.{flow_is}
use Rattle.dt_inbox.specs.FlowInboxes.{FlowInboxValue, FlowInboxesValue, first_heard, heard, heard_at, is_of, without, without_place}
use Rattle.dt_service_laws.proofs.Wholes.{IsSameOrNone}

-- no inbox of a flow, or one at most, which has begun so
abbrev pub NoneOf : Flow → List FlowInboxValue → Type 0
NoneOf f [] = Unit {0}
NoneOf f (i ∷ is) = (is_of f i ≡ false) × NoneOf f is

abbrev pub IsKept : Flow → Option (List ℕ) → List FlowInboxValue → Type 0
IsKept f t [] = Unit {0}
IsKept f t (i ∷ is) = ((is_of f i ≡ true) × IsSameOrNone i.inbox.joiner.begun t × NoneOf f is) ⊎ ((is_of f i ≡ false) × IsKept f t is)

pub kept_none : (f : Flow) (t : Option (List ℕ)) (is : List FlowInboxValue) → NoneOf f is → IsKept f t is
kept_none f t [] h = tt
kept_none f t (i ∷ is) h = inr (h.0, kept_none f t is h.1)

-- AT A PLACE
none_at : (f : Flow) (is : List FlowInboxValue) (place : ℕ) (d : FlowInboxValue) → place < length is → NoneOf f is → is_of f (slice_index_or is place d) ≡ false
none_at f [] place d lt h = absurd (omega arith)
none_at f (i ∷ is) zero d lt h = h.0
none_at f (i ∷ is) (suc place) d lt h = none_at f is place d (omega arith) h.1

none_set : (f : Flow) (is : List FlowInboxValue) (place : ℕ) (k : FlowInboxValue) → is_of f k ≡ false → NoneOf f is → NoneOf f (set is place k)
none_set f [] zero k o h = tt
none_set f [] (suc place) k o h = tt
none_set f (i ∷ is) zero k o h = (o, h.1)
none_set f (i ∷ is) (suc place) k o h = (h.0, none_set f is place k o h.1)

-- one is another then, of the same flow
pub kept_set : (f : Flow) (t u : Option (List ℕ)) (is : List FlowInboxValue) (place : ℕ) (k d : FlowInboxValue) → place < length is → is_of f k ≡ is_of f (slice_index_or is place d)
    → (is_of f (slice_index_or is place d) ≡ true → IsSameOrNone (slice_index_or is place d).inbox.joiner.begun t → IsSameOrNone k.inbox.joiner.begun u) → (is_of f (slice_index_or is place d) ≡ false → u ≡ t) → IsKept f t is → IsKept f u (set is place k)
kept_set f t u [] place k d lt same change still h = absurd (omega arith)
kept_set f t u (i ∷ is) zero k d lt same change still (inl h) = inl (same ∙ h.0, change h.0 h.1, h.2)
kept_set f t u (i ∷ is) zero k d lt same change still (inr h) = inr (same ∙ h.0, subst (λ (x : Option (List ℕ)). IsKept f x is) (sym (still h.0)) h.1)
kept_set f t u (i ∷ is) (suc place) k d lt same change still (inl h) =
    let other = none_at f is place d (omega arith) h.2 in
    inl (h.0, subst (λ (x : Option (List ℕ)). IsSameOrNone i.inbox.joiner.begun x) (sym (still other)) h.1, none_set f is place k (same ∙ other) h.2)
kept_set f t u (i ∷ is) (suc place) k d lt same change still (inr h) = inr (h.0, kept_set f t u is place k d (omega arith) same change still h.1)

none_removed : (f : Flow) (is : List FlowInboxValue) (place : ℕ) → NoneOf f is → NoneOf f (remove is place)
none_removed f [] zero h = tt
none_removed f [] (suc place) h = tt
none_removed f (i ∷ is) zero h = h.1
none_removed f (i ∷ is) (suc place) h = (h.0, none_removed f is place h.1)

pub kept_removed : (f : Flow) (t : Option (List ℕ)) (is : List FlowInboxValue) (place : ℕ) → IsKept f t is → IsKept f t (remove is place)
kept_removed f t [] zero h = tt
kept_removed f t [] (suc place) h = tt
kept_removed f t (i ∷ is) zero (inl h) = kept_none f t is h.2
kept_removed f t (i ∷ is) zero (inr h) = h.1
kept_removed f t (i ∷ is) (suc place) (inl h) = inl (h.0, h.1, none_removed f is place h.2)
kept_removed f t (i ∷ is) (suc place) (inr h) = inr (h.0, kept_removed f t is place h.1)

-- THE FIRST PLACE of which a test holds
pub placed_within : (p : FlowInboxValue → Bool) (is : List FlowInboxValue) (place : ℕ) → position p is ≡ Some place → place < length is
placed_within p is place h =
    elim (cases_Bool (nat_lt (position_or_len p is) (length is))) [
      | inl y ↦ let one : Some (position_or_len p is) ≡ Some place = rw y at h in let same : position_or_len p is ≡ place = cc in grind (arith, nat_tests)
      | inr o ↦ let none : None ≡ Some place = rw o at h in absurd cc
    ]

none_or_found : (f : Flow) (is : List FlowInboxValue) → NoneOf f is ⊎ (position_or_len (is_of f) is < length is)
none_or_found f [] = inl tt
none_or_found f (i ∷ is) =
    elim (cases_Bool (is_of f i)) [
      | inl y ↦ inr (rw y (omega arith))
      | inr o ↦ later o (none_or_found f is)
    ]
  where
    later : is_of f i ≡ false → NoneOf f is ⊎ (position_or_len (is_of f) is < length is) → NoneOf f (i ∷ is) ⊎ (position_or_len (is_of f) (i ∷ is) < length (i ∷ is))
    later o (inl none) = inl (o, none)
    later o (inr found) = inr (rw o (omega (arith, found)))

none_found : (f : Flow) (is : List FlowInboxValue) → position (is_of f) is ≡ None → NoneOf f is
none_found f is h = by_case (none_or_found f is)
  where
    by_case : NoneOf f is ⊎ (position_or_len (is_of f) is < length is) → NoneOf f is
    by_case (inl none) = none
    by_case (inr found) =
        let yes : nat_lt (position_or_len (is_of f) is) (length is) ≡ true = grind (arith, nat_tests) in
        let some : Some (position_or_len (is_of f) is) ≡ None = rw yes at h in
        absurd cc

-- A FLOW IS HEARD OF
none_append : (f : Flow) (is : List FlowInboxValue) (k : FlowInboxValue) → is_of f k ≡ false → NoneOf f is → NoneOf f (is ++ k ∷ [])
none_append f [] k o h = (o, tt)
none_append f (i ∷ is) k o h = (h.0, none_append f is k o h.1)

kept_append : (f : Flow) (t : Option (List ℕ)) (is : List FlowInboxValue) (k : FlowInboxValue) → (is_of f k ≡ true → NoneOf f is) → IsSameOrNone k.inbox.joiner.begun t → IsKept f t is → IsKept f t (is ++ k ∷ [])
kept_append f t [] k none same h = elim (cases_Bool (is_of f k)) [ inl y ↦ inl (y, same, tt) | inr o ↦ inr (o, tt) ]
kept_append f t (i ∷ is) k none same (inl h) =
    elim (cases_Bool (is_of f k)) [
      | inl y ↦ let no : true ≡ false = sym h.0 ∙ (none y).0 in absurd cc
      | inr o ↦ inl (h.0, h.1, none_append f is k o h.2)
    ]
kept_append f t (i ∷ is) k none same (inr h) = inr (h.0, kept_append f t is k (λ y. (none y).1) same h.1)

pub kept_heard : (f flow : Flow) (t : Option (List ℕ)) (v : FlowInboxesValue) → IsKept f t v.inboxes → IsKept f t (heard flow v).inboxes
kept_heard f flow t v h = by_place (position (is_of flow) v.inboxes) refl
  where
    by_place : (o : Option ℕ) → position (is_of flow) v.inboxes ≡ o → IsKept f t (heard_at o flow v).inboxes
    by_place None is =
        kept_append f t v.inboxes (first_heard flow v) (λ y. subst (λ (x : Flow). NoneOf x v.inboxes) (flow_is flow f y) (none_found flow v.inboxes is)) (inl refl) h
    by_place (Some place) is =
        let d = first_heard flow v in
        let k : FlowInboxValue = record (slice_index_or v.inboxes place d) { due = true } in
        kept_set f t t v.inboxes place k d (placed_within (is_of flow) v.inboxes place is) refl (λ y s. s) (λ o. refl) h

pub kept_without : (f flow : Flow) (t : Option (List ℕ)) (v : FlowInboxesValue) → IsKept f t v.inboxes → IsKept f t (without flow v).inboxes
kept_without f flow t v h = by_place (position (is_of flow) v.inboxes)
  where
    by_place : (o : Option ℕ) → IsKept f t (without_place o v).inboxes
    by_place None = h
    by_place (Some place) = kept_removed f t v.inboxes place h

-- what the inbox of the flow has begun
pub kept_begun : (f : Flow) (t : Option (List ℕ)) (is : List FlowInboxValue) (place : ℕ) (d : FlowInboxValue) → place < length is → IsKept f t is → is_of f (slice_index_or is place d) ≡ true → IsSameOrNone (slice_index_or is place d).inbox.joiner.begun t
kept_begun f t [] place d lt h y = absurd (omega arith)
kept_begun f t (i ∷ is) zero d lt (inl h) y = h.1
kept_begun f t (i ∷ is) zero d lt (inr h) y = let no : true ≡ false = sym y ∙ h.0 in absurd cc
kept_begun f t (i ∷ is) (suc place) d lt (inl h) y = let no : true ≡ false = sym y ∙ none_at f is place d (omega arith) h.2 in absurd cc
kept_begun f t (i ∷ is) (suc place) d lt (inr h) y = kept_begun f t is place d (omega arith) h.1 y
