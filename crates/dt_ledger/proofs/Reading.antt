-- Read counts by their life: the entries of a map are the model's list.
use Rattle.std.proofs.Common.{ℕ, ◌≡◌, ◌==◌, ◌+◌, ◌≤◌, ◌≢◌, Bool, true, false, nat_eq, List, [], ◌∷◌, Some, None, refl, sym, ap, ◌∙◌, inl, inr, true≢false, arith}
use Rattle.std.specs.Map.{lookup, set_value}
use Rattle.std.proofs.lemmas.Bool.{cases_Bool}
use Rattle.std.proofs.lemmas.Bool.Decides.{nat_tests}
use Rattle.indexmap.specs.IndexMap.{insert_entry}
use Rattle.dt_flow_model.specs.declared.rows.ReadCount.{ReadCount}
use Rattle.dt_flow_model.specs.Ledger.{HasNoEntry, note_read}
use Rattle.dt_ledger.specs.Reads.{read_of_all, reads_in}

either_way : (m n : ℕ) → (m == n) ≡ (n == m)
either_way m n = grind (arith, nat_tests)

is_it : (m n : ℕ) → (m == n) ≡ true → m ≡ n
is_it m n h = grind (arith, nat_tests)

pub reads_in-set_value : (life count had : ℕ) (es : List (ℕ × ℕ)) → lookup (nat_eq life) es ≡ Some had → reads_in (set_value (nat_eq life) es (had + count)) ≡ note_read life count (reads_in es)
reads_in-set_value life count had [] h = absurd cc
reads_in-set_value life count had (e ∷ es) h =
    elim (cases_Bool (e.0 == life)) [
      | inl y ↦
          let t : nat_eq life e.0 ≡ true = either_way life e.0 ∙ y in
          let found : Some e.1 ≡ Some had = rw t at h in
          let value : e.1 ≡ had = cc in
          let it : e.0 ≡ life = is_it e.0 life y in
          rw (y, t) (ap (λ (r : ReadCount). r ∷ reads_in es) (ap (λ (n : ℕ). record { life = n; count = had + count }) it ∙ ap (λ (n : ℕ). record { life = life; count = n + count }) (sym value)))
      | inr other ↦
          let t : nat_eq life e.0 ≡ false = either_way life e.0 ∙ other in
          let found : lookup (nat_eq life) es ≡ Some had = rw t at h in
          rw (other, t) (ap (λ (rs : List ReadCount). record { life = e.0; count = e.1 } ∷ rs) (reads_in-set_value life count had es found))
    ]

pub reads_in-insert_entry : (life count : ℕ) (es : List (ℕ × ℕ)) → lookup (nat_eq life) es ≡ None → reads_in (insert_entry nat_eq es life count) ≡ note_read life count (reads_in es)
reads_in-insert_entry life count [] h = refl
reads_in-insert_entry life count (e ∷ es) h =
    elim (cases_Bool (e.0 == life)) [
      | inl y ↦
          let t : nat_eq life e.0 ≡ true = either_way life e.0 ∙ y in
          let found : Some e.1 ≡ None = rw t at h in
          absurd cc
      | inr other ↦
          let t : nat_eq life e.0 ≡ false = either_way life e.0 ∙ other in
          let none : lookup (nat_eq life) es ≡ None = rw t at h in
          rw (other, t) (ap (λ (rs : List ReadCount). record { life = e.0; count = e.1 } ∷ rs) (reads_in-insert_entry life count es none))
    ]

pub read_of_all-note_read : (life count : ℕ) (rs : List ReadCount) → read_of_all (note_read life count rs) ≡ read_of_all rs + count
read_of_all-note_read life count [] = omega arith
read_of_all-note_read life count (r ∷ rs) =
    elim (cases_Bool (r.life == life)) [
      | inl y ↦ rw y (omega arith)
      | inr other ↦ rw other (omega (arith, read_of_all-note_read life count rs))
    ]

pub one_of_all : (test : ℕ → Bool) (had : ℕ) (es : List (ℕ × ℕ)) → lookup test es ≡ Some had → had ≤ read_of_all (reads_in es)
one_of_all test had [] h = absurd cc
one_of_all test had (e ∷ es) h =
    elim (cases_Bool (test e.0)) [
      | inl y ↦
          let found : Some e.1 ≡ Some had = rw y at h in
          let value : e.1 ≡ had = cc in
          omega arith
      | inr other ↦
          let found : lookup test es ≡ Some had = rw other at h in
          omega (arith, one_of_all test had es found)
    ]

pub no_entry : (life : ℕ) (es : List (ℕ × ℕ)) → lookup (nat_eq life) es ≡ None → HasNoEntry life (reads_in es)
no_entry life [] h = tt
no_entry life (e ∷ es) h =
    elim (cases_Bool (nat_eq life e.0)) [
      | inl y ↦ let found : Some e.1 ≡ None = rw y at h in absurd cc
      | inr other ↦
          let none : lookup (nat_eq life) es ≡ None = rw other at h in
          let apart : e.0 ≢ life = λ same. true≢false (sym (grind (arith, nat_tests)) ∙ other) in
          (apart, no_entry life es none)
    ]
