-- The entries of a table under the calls of its map are the model's table under the model's calls. A map tests a key that is asked against an entry's, the model an entry's against the one that is asked.
use Rattle.std.proofs.Common.{ℕ, zero, ◌≡◌, suc, Bool, true, false, List, [], ◌∷◌, Option, Some, None, refl, sym, ap, subst, ◌∙◌, inl, inr}
use Rattle.std.specs.Prelude.{is_some, length, option_map, slice_get}
use Rattle.std.specs.Map.{lookup, set_value, remove_entry}
use Rattle.std.proofs.lemmas.Bool.{cases_Bool}
use Rattle.indexmap.specs.IndexMap.{insert_entry}
use Rattle.dt_units.specs.declared.endpoints.Flow.{Flow}
use Rattle.dt_world_model.specs.Tables.{look, write, erase, AllEntries}
use Rattle.dt_table.specs.Tables.{records_by}

module _ (test same : Flow → Flow → Bool) (agrees : (f g : Flow) → test f g ≡ same g f) (is : (f g : Flow) → same f g ≡ true → f ≡ g) (A : Type 0) where
  module _ (B : Type 0) (seen : A → B) where
    pub look_found : (f : Flow) (es : List (Flow × A)) → look same f (records_by seen es) ≡ option_map seen (lookup (test f) es)
    look_found f [] = refl
    look_found f (e ∷ es) =
        elim (cases_Bool (same e.0 f)) [
          | inl y ↦ let t : test f e.0 ≡ true = agrees f e.0 ∙ y in rw (y, t) refl
          | inr n ↦ let t : test f e.0 ≡ false = agrees f e.0 ∙ n in rw (n, t) (look_found f es)
        ]

    pub written : (f : Flow) (a b : A) (es : List (Flow × A)) → lookup (test f) es ≡ Some b → records_by seen (set_value (test f) es a) ≡ write same f (seen a) (records_by seen es)
    written f a b [] h = absurd cc
    written f a b (e ∷ es) h =
        elim (cases_Bool (same e.0 f)) [
          | inl y ↦ let t : test f e.0 ≡ true = agrees f e.0 ∙ y in rw (y, t) (ap (λ (g : Flow). (g, seen a) ∷ records_by seen es) (is e.0 f y))
          | inr n ↦
              let t : test f e.0 ≡ false = agrees f e.0 ∙ n in
              let found : lookup (test f) es ≡ Some b = rw t at h in
              rw (n, t) (ap (λ (r : List (Flow × B)). (e.0, seen e.1) ∷ r) (written f a b es found))
        ]

    pub inserted : (f : Flow) (a : A) (es : List (Flow × A)) → records_by seen (insert_entry test es f a) ≡ write same f (seen a) (records_by seen es)
    inserted f a [] = refl
    inserted f a (e ∷ es) =
        elim (cases_Bool (same e.0 f)) [
          | inl y ↦ let t : test f e.0 ≡ true = agrees f e.0 ∙ y in rw (y, t) (ap (λ (g : Flow). (g, seen a) ∷ records_by seen es) (is e.0 f y))
          | inr n ↦ let t : test f e.0 ≡ false = agrees f e.0 ∙ n in rw (n, t) (ap (λ (r : List (Flow × B)). (e.0, seen e.1) ∷ r) (inserted f a es))
        ]

    pub removed : (f : Flow) (es : List (Flow × A)) → records_by seen (remove_entry (test f) es) ≡ erase same f (records_by seen es)
    removed f [] = refl
    removed f (e ∷ es) =
        elim (cases_Bool (same e.0 f)) [
          | inl y ↦ let t : test f e.0 ≡ true = agrees f e.0 ∙ y in rw (y, t) refl
          | inr n ↦ let t : test f e.0 ≡ false = agrees f e.0 ∙ n in rw (n, t) (ap (λ (r : List (Flow × B)). (e.0, seen e.1) ∷ r) (removed f es))
        ]

    -- a key that was written is gone where it is erased then: the value doesn't matter
    pub removed_written : (f : Flow) (a : A) (es : List (Flow × A)) → remove_entry (test f) (set_value (test f) es a) ≡ remove_entry (test f) es
    removed_written f a [] = refl
    removed_written f a (e ∷ es) =
        elim (cases_Bool (test f e.0)) [
          | inl y ↦ rw (y, y) refl
          | inr n ↦ rw (n, n) (ap (λ (r : List (Flow × A)). e ∷ r) (removed_written f a es))
        ]

  module _ (P : Flow → A → Type 0) where
    pub all_found : (f : Flow) (a : A) (es : List (Flow × A)) → AllEntries P es → lookup (test f) es ≡ Some a → P f a
    all_found f a [] all h = absurd cc
    all_found f a (e ∷ es) all h =
        elim (cases_Bool (same e.0 f)) [
          | inl y ↦
              let t : test f e.0 ≡ true = agrees f e.0 ∙ y in
              let found : Some e.1 ≡ Some a = rw t at h in
              let value : e.1 ≡ a = cc in
              subst (λ (g : Flow). P g a) (is e.0 f y) (subst (λ (b : A). P e.0 b) value all.0)
          | inr n ↦
              let t : test f e.0 ≡ false = agrees f e.0 ∙ n in
              let found : lookup (test f) es ≡ Some a = rw t at h in
              all_found f a es all.1 found
        ]

    pub all_written : (f : Flow) (a : A) (es : List (Flow × A)) → AllEntries P es → P f a → AllEntries P (set_value (test f) es a)
    all_written f a [] all h = tt
    all_written f a (e ∷ es) all h =
        elim (cases_Bool (same e.0 f)) [
          | inl y ↦ let t : test f e.0 ≡ true = agrees f e.0 ∙ y in rw t (subst (λ (g : Flow). P g a) (sym (is e.0 f y)) h, all.1)
          | inr n ↦ let t : test f e.0 ≡ false = agrees f e.0 ∙ n in rw t (all.0, all_written f a es all.1 h)
        ]

    pub all_inserted : (f : Flow) (a : A) (es : List (Flow × A)) → AllEntries P es → P f a → AllEntries P (insert_entry test es f a)
    all_inserted f a [] all h = (h, tt)
    all_inserted f a (e ∷ es) all h =
        elim (cases_Bool (same e.0 f)) [
          | inl y ↦ let t : test f e.0 ≡ true = agrees f e.0 ∙ y in rw t (subst (λ (g : Flow). P g a) (sym (is e.0 f y)) h, all.1)
          | inr n ↦ let t : test f e.0 ≡ false = agrees f e.0 ∙ n in rw t (all.0, all_inserted f a es all.1 h)
        ]

    pub all_removed : (f : Flow) (es : List (Flow × A)) → AllEntries P es → AllEntries P (remove_entry (test f) es)
    all_removed f [] all = tt
    all_removed f (e ∷ es) all =
        elim (cases_Bool (test f e.0)) [
          | inl y ↦ rw y (all.1)
          | inr n ↦ rw n (all.0, all_removed f es all.1)
        ]

-- what holds of all holds of the entry of an index
pub entry_at : {A : Type 0} (Q : Flow → A → Type 0) (es : List (Flow × A)) (i : ℕ) (f : Flow) (a : A) → AllEntries Q es → slice_get es i ≡ Some (f, a) → Q f a
entry_at Q [] i f a all h = absurd cc
entry_at Q (e ∷ es) zero f a all h = let same : e ≡ (f, a) = cc in subst (λ (d : Flow × _). Q d.0 d.1) same all.0
entry_at Q (e ∷ es) (suc i) f a all h = entry_at Q es i f a all.1 h

-- the record at an index is that of the entry
pub record_at : {A B : Type 0} (seen : A → B) (es : List (Flow × A)) (i : ℕ) → slice_get (records_by seen es) i ≡ option_map (λ (e : Flow × A). let r : Flow × B = (e.0, seen e.1) in r) (slice_get es i)
record_at seen [] i = refl
record_at seen (e ∷ es) zero = refl
record_at seen (e ∷ es) (suc i) = record_at seen es i

-- whether there is a value is what the map says, and how many there are
pub some_mapped : {A B : Type 0} (seen : A → B) (o : Option A) → is_some (option_map seen o) ≡ is_some o
some_mapped seen None = refl
some_mapped seen (Some a) = refl

pub as_many : {A B : Type 0} (seen : A → B) (es : List (Flow × A)) → length (records_by seen es) ≡ length es
as_many seen [] = refl
as_many seen (e ∷ es) = ap suc (as_many seen es)
