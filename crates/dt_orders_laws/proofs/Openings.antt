-- A place is found by two openings.
use Rattle.std.proofs.Common.{◌≡◌, ◌≢◌, ◌+◌, ◌≤◌, ◌<◌, ◌∙◌, ℕ, List, [], ◌∷◌, Bool, true, false, inl, inr, sym, subst, arith, refl, length}
use Rattle.std.specs.Prelude.{◌-◌, ◌==◌, if◌then◌else◌, Option, Some, None}
use Rattle.std.proofs.lemmas.Bool.{cases_lt}
use Rattle.std.proofs.lemmas.Bool.Decides.{nat_tests}
use Rattle.dt_orders_model.specs.declared.knowledge.Known.{Known}
use Rattle.dt_orders_model.specs.declared.knowledge.Opening.{Opening}
use Rattle.dt_orders_model.specs.Chains.{opening_at, place_by, place_in}

equal_test : (a b : ℕ) → a ≡ b → (a == b) ≡ true
equal_test a b e = grind (arith, nat_tests)

other_test : (a b : ℕ) → a ≢ b → (a == b) ≡ false
other_test a b e = grind (arith, nat_tests)

-- no opening has a number beyond the last one
pub none_beyond : (number : ℕ) (chain : List Opening) → length chain ≤ number → opening_at number chain ≡ None
none_beyond number [] h = refl
none_beyond number (o ∷ older) h =
    let test : (number == length older) ≡ false = other_test number (length older) (λ e. omega arith) in
    let rest = none_beyond number older (omega arith) in
    rw test rest

-- each one up to it is there
pub some_within : (number : ℕ) (chain : List Opening) → number < length chain → (o : Opening) × (opening_at number chain ≡ Some o)
some_within number [] h = absurd (omega arith)
some_within number (o ∷ older) h = by (number == length older) refl (λ other. some_within number older (omega arith))
  where
    by : (t : Bool) → (number == length older) ≡ t → (number ≢ length older → (x : Opening) × (opening_at number older ≡ Some x)) → (x : Opening) × ((if t then Some o else opening_at number older) ≡ Some x)
    by true e rest = (o, refl)
    by false e rest = rest (grind (arith, nat_tests))

-- a next opening says where one was left, whatever the clock is
next_says : (clock other : ℕ) (q : Known) (here next : Option Opening) (o : Opening) → next ≡ Some o → place_by clock q here next ≡ place_by other q here next
next_says clock other q None next o e = refl
next_says clock other q (Some here) next o e = subst (λ (x : Option Opening). place_by clock q (Some here) x ≡ place_by other q (Some here) x) (sym e) refl

-- below the last opening, which is the next one
under : (clock : ℕ) (q : Known) (here : Option Opening) (o : Opening) → place_by (o.first - 1) q here None ≡ place_by clock q here (Some o)
under clock q None o = refl
under clock q (Some here) o = refl

nowhere_by : (clock other : ℕ) (q : Known) (here next after : Option Opening) → here ≡ None → place_by clock q here next ≡ place_by other q here after
nowhere_by clock other q here next after e = subst (λ (x : Option Opening). place_by clock q x next ≡ place_by other q x after) (sym e) refl

next_under : (q : Known) (clock : ℕ) (o : Opening) (older : List Opening) → q.opening < length older → (t : Bool) → (q.opening + 1 == length older) ≡ t → place_by (o.first - 1) q (opening_at q.opening older) (opening_at (q.opening + 1) older) ≡ place_by clock q (opening_at q.opening older) (if t then Some o else opening_at (q.opening + 1) older)
next_under q clock o older below true e =
    let is : q.opening + 1 ≡ length older = grind (arith, nat_tests) in
    let none = none_beyond (q.opening + 1) older (omega arith) in
    subst (λ (x : Option Opening). place_by (o.first - 1) q (opening_at q.opening older) x ≡ place_by clock q (opening_at q.opening older) (Some o)) (sym none) (under clock q (opening_at q.opening older) o)
next_under q clock o older below false e =
    let other : q.opening + 1 ≢ length older = grind (arith, nat_tests) in
    let some = some_within (q.opening + 1) older (omega arith) in
    next_says (o.first - 1) clock q (opening_at q.opening older) (opening_at (q.opening + 1) older) some.0 some.1

last_is : (q : Known) (clock : ℕ) (o : Opening) (older : List Opening) → q.opening ≡ length older → record { is_there = o.nonce == q.nonce; left = clock } ≡ place_by clock q (Some o) (opening_at (q.opening + 1) (o ∷ older))
last_is q clock o older e =
    let none : opening_at (q.opening + 1) (o ∷ older) ≡ None = none_beyond (q.opening + 1) (o ∷ older) (omega arith) in
    subst (λ (x : Option Opening). record { is_there = o.nonce == q.nonce; left = clock } ≡ place_by clock q (Some o) x) (sym none) refl

older_is : (q : Known) (clock : ℕ) (o : Opening) (older : List Opening) → q.opening ≢ length older → place_by (o.first - 1) q (opening_at q.opening older) (opening_at (q.opening + 1) older) ≡ place_by clock q (opening_at q.opening older) (opening_at (q.opening + 1) (o ∷ older))
older_is q clock o older other =
    elim (cases_lt q.opening (length older)) [
      | inl below ↦ next_under q clock o older below (q.opening + 1 == length older) refl
      | inr above ↦ nowhere_by (o.first - 1) clock q (opening_at q.opening older) (opening_at (q.opening + 1) older) (opening_at (q.opening + 1) (o ∷ older)) (none_beyond q.opening older above)
    ]

by_test : (q : Known) (clock : ℕ) (o : Opening) (older : List Opening) (t : Bool) → (q.opening == length older) ≡ t → place_in q.opening q.nonce (o.first - 1) older ≡ place_by (o.first - 1) q (opening_at q.opening older) (opening_at (q.opening + 1) older) → (if t then record { is_there = o.nonce == q.nonce; left = clock } else place_in q.opening q.nonce (o.first - 1) older) ≡ place_by clock q (if t then Some o else opening_at q.opening older) (opening_at (q.opening + 1) (o ∷ older))
by_test q clock o older true e below = last_is q clock o older (grind (arith, nat_tests))
by_test q clock o older false e below = below ∙ older_is q clock o older (grind (arith, nat_tests))

-- THE PLACE is that by the opening of the number and the next one
pub by_two : (q : Known) (clock : ℕ) (chain : List Opening) → place_in q.opening q.nonce clock chain ≡ place_by clock q (opening_at q.opening chain) (opening_at (q.opening + 1) chain)
by_two q clock [] = refl
by_two q clock (o ∷ older) = by_test q clock o older (q.opening == length older) refl (by_two q (o.first - 1) older)
