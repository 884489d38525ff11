-- A text is cut exactly where the octet first stands, and numbers have none of the octets at which
-- words are cut.
use Rattle.std.proofs.Common.{◌≡◌, ℕ, ◌<◌, ◌≤◌, ◌^◌, false, eqb, ◌⊎◌, List, [], ◌∷◌, ◌++◌, Option, Some, refl, sym, ap, ◌∙◌, arith, inl, inr}
use Rattle.std.specs.Fmt.{decimal}
use Rattle.std.specs.Str.Parse.{AllDigits}
use Rattle.std.proofs.lemmas.Bool.{cases_Bool, eqb-true, eq-eqb}
use Rattle.std.proofs.lemmas.Bool.Decides.{nat_tests}
use Rattle.std.proofs.lemmas.Fmt.{decimal_is_IsNumeral}
use Rattle.std.proofs.lemmas.Str.Parse.{digit_from_value}
use Rattle.dt_text.specs.Splitting.{cut}
use Rattle.dt_text.proofs.CutLemmas.{cut-cons_yes, cut-cons_no, onto_front, onto_front-some}

-- the octet doesn't stand in the text
unfoldable pub IsFree : ℕ → List ℕ → Type 0
IsFree octet [] = Unit {0}
IsFree octet (x ∷ text) = (eqb x octet ≡ false) × IsFree octet text

pub IsFree-append : (octet : ℕ) (front text : List ℕ) → IsFree octet front → IsFree octet text → IsFree octet (front ++ text)
unfolding IsFree
IsFree-append octet [] text front_free free = free
IsFree-append octet (x ∷ front) text front_free free = (front_free.0, IsFree-append octet front text front_free.1 free)

pub IsFree-cons : (octet x : ℕ) (text : List ℕ) → eqb x octet ≡ false → IsFree octet text → IsFree octet (x ∷ text)
unfolding IsFree
IsFree-cons octet x text other free = (other, free)

digit_other : (octet x : ℕ) → (octet < 48) ⊎ (57 < octet) → (48 ≤ x) × (x ≤ 57) → eqb x octet ≡ false
digit_other octet x (inl low) h = grind (arith, nat_tests)
digit_other octet x (inr high) h = grind (arith, nat_tests)

IsFree-digits : (octet : ℕ) (digits : List ℕ) → (octet < 48) ⊎ (57 < octet) → AllDigits 10 digits → IsFree octet digits
unfolding IsFree
IsFree-digits octet [] outside h = tt
IsFree-digits octet (x ∷ digits) outside h = (
  digit_other octet x outside (digit_from_value x h.0),
  IsFree-digits octet digits outside h.1,
)

pub IsFree-decimal : (octet n : ℕ) → (octet < 48) ⊎ (57 < octet) → n < 2 ^ 64 → IsFree octet (decimal n)
IsFree-decimal octet n outside small = IsFree-digits octet (decimal n) outside (decimal_is_IsNumeral n small).0.1

pub cut-at : (octet : ℕ) (before after : List ℕ) → IsFree octet before → cut octet (before ++ octet ∷ after) ≡ Some (before, after)
unfolding IsFree
cut-at octet [] after free = cut-cons_yes octet octet after (eq-eqb octet octet refl)
cut-at octet (x ∷ before) after free = cut-cons_no octet x (before ++ octet ∷ after) free.0 ∙ ap (onto_front x) (cut-at octet before after free.1)

pub cut-found : (octet : ℕ) (text before after : List ℕ) → cut octet text ≡ Some (before, after) → text ≡ before ++ octet ∷ after
cut-found octet [] before after h = cc
cut-found octet (x ∷ text) before after h =
    elim (cases_Bool (eqb x octet)) [
      | inl is ↦
          let some : ◌≡◌ {A = Option (List ℕ × List ℕ)} (Some ([], text)) (Some (before, after)) = sym (cut-cons_yes octet x text is) ∙ h in
          let pair : ◌≡◌ {A = List ℕ × List ℕ} ([], text) (before, after) = cc in
          ap (λ y. y ∷ text) (eqb-true x octet is) ∙ ap (λ (p : List ℕ × List ℕ). p.0 ++ octet ∷ p.1) pair
      | inr other ↦
          let rest = onto_front-some x (cut octet text) before after (sym (cut-cons_no octet x text other) ∙ h) in
          ap (λ t. x ∷ t) (cut-found octet text rest.0 after rest.1) ∙ ap (λ front. front ++ octet ∷ after) (sym rest.2)
    ]
