-- Places of commits in a store's openings.
use Rattle.std.proofs.Common.{◌≡◌, ◌≢◌, ◌+◌, ◌≤◌, ℕ, List, [], ◌∷◌, Bool, true, false, sym, subst, arith, refl, length}
use Rattle.std.specs.Prelude.{◌-◌, ◌==◌, ◌&&◌, min, nat_le, if◌then◌else◌}
use Rattle.std.proofs.lemmas.Bool.Decides.{nat_tests}
use Rattle.dt_orders_model.specs.declared.knowledge.Known.{Known}
use Rattle.dt_orders_model.specs.declared.knowledge.Opening.{Opening}
use Rattle.dt_orders_model.specs.declared.knowledge.Place.{Place}
use Rattle.dt_orders_model.specs.Chains.{is_on_by, place_in, shared_by}
use Rattle.dt_orders_model.specs.Histories.{IsDrawn}

-- the openings began no later than they were left
abbrev pub AreFirsts : ℕ → List Opening → Type 0
AreFirsts left [] = Unit {0}
AreFirsts left (o ∷ older) = (o.first ≤ left) × AreFirsts (o.first - 1) older

pub firsts_later : (left more : ℕ) (chain : List Opening) → left ≤ more → AreFirsts left chain → AreFirsts more chain
firsts_later left more [] h a = tt
firsts_later left more (o ∷ older) h a = (omega arith, a.1)

-- a place at the head, by its two tests, or below it
abbrev placed : Bool → Bool → ℕ → Place → Place
placed t u left below = if t then record { is_there = u; left = left } else below

left_by : (t u : Bool) (left : ℕ) (below : Place) → below.left ≤ left → (placed t u left below).left ≤ left
left_by true u left below h = omega arith
left_by false u left below h = h

there_by : (t u : Bool) (left : ℕ) (below : Place) → u ≡ false → below.is_there ≡ false → (placed t u left below).is_there ≡ false
there_by true u left below e h = e
there_by false u left below e h = h

other_nonce : (a b : ℕ) → a ≢ b → (b == a) ≡ false
other_nonce a b h = grind (arith, nat_tests)

-- a place is left no later than the store's clock
pub left_within : (number nonce left : ℕ) (chain : List Opening) → AreFirsts left chain → (place_in number nonce left chain).left ≤ left
left_within number nonce left [] a = omega arith
left_within number nonce left (o ∷ older) a = left_by (number == length older) (o.nonce == nonce) left (place_in number nonce (o.first - 1) older) (let rest = left_within number nonce (o.first - 1) older a.1 in let first = a.0 in omega arith)

pub shared_within : (clock : ℕ) (p : Place) → shared_by clock p ≤ p.left
shared_within clock p = by p.is_there
  where
    by : (t : Bool) → (if t then min clock p.left else 0) ≤ p.left
    by true = omega arith
    by false = omega arith

-- a nonce that no opening has isn't there
pub not_there : (number nonce left : ℕ) (chain : List Opening) → IsDrawn nonce chain → (place_in number nonce left chain).is_there ≡ false
not_there number nonce left [] d = refl
not_there number nonce left (o ∷ older) d = there_by (number == length older) (o.nonce == nonce) left (place_in number nonce (o.first - 1) older) (other_nonce nonce o.nonce (λ e. d.0 (sym e))) (not_there number nonce (o.first - 1) older d.1)

-- the last opening of a chain is at its head
pub head_is : (nonce left : ℕ) (o : Opening) (older : List Opening) → o.nonce ≡ nonce → place_in (length older) nonce left (o ∷ older) ≡ record { is_there = true; left = left }
head_is nonce left o older e =
    let one : (length older == length older) ≡ true = grind (arith, nat_tests) in
    let two : (o.nonce == nonce) ≡ true = grind (arith, nat_tests) in
    rw (one, two)

shared_more : (t u : Bool) (heard clock : ℕ) (below : Place) → (t ≡ true → u ≡ true → heard ≤ clock) → shared_by heard (placed t u (clock + 1) below) ≤ shared_by heard (placed t u clock below)
shared_more true true heard clock below h = let least = h refl refl in omega arith
shared_more true false heard clock below h = omega arith
shared_more false u heard clock below h = omega arith

on_less : (t u : Bool) (heard clock : ℕ) (below : Place) → (t ≡ true → u ≡ true → heard ≤ clock) → is_on_by heard (placed t u (clock + 1) below) ≡ true → is_on_by heard (placed t u clock below) ≡ true
on_less true true heard clock below h on = let least = h refl refl in grind (arith, nat_tests)
on_less true false heard clock below h on = on
on_less false u heard clock below h on = on

-- WAS HEARD of an opening that goes on: no later than its present clock
pub record IsHeard (q : Known) (clock : ℕ) (o : Opening) (older : List Opening) : Type 0 where
  pub least : q.opening ≡ length older → o.nonce ≡ q.nonce → q.clock ≤ clock

pub tests_of : (q : Known) (clock : ℕ) (o : Opening) (older : List Opening) → IsHeard q clock o older → (q.opening == length older) ≡ true → (o.nonce == q.nonce) ≡ true → q.clock ≤ clock
tests_of q clock o older h one two = h.least (grind (arith, nat_tests)) (grind (arith, nat_tests))

-- A COMMIT MORE in the last opening: what was heard is shared up to the same clock
pub shared_goes_on : (q : Known) (clock : ℕ) (o : Opening) (older : List Opening) → IsHeard q clock o older → shared_by q.clock (place_in q.opening q.nonce (clock + 1) (o ∷ older)) ≤ shared_by q.clock (place_in q.opening q.nonce clock (o ∷ older))
shared_goes_on q clock o older h = shared_more (q.opening == length older) (o.nonce == q.nonce) q.clock clock (place_in q.opening q.nonce (o.first - 1) older) (tests_of q clock o older h)

pub on_goes_on : (q : Known) (clock : ℕ) (o : Opening) (older : List Opening) → IsHeard q clock o older → is_on_by q.clock (place_in q.opening q.nonce (clock + 1) (o ∷ older)) ≡ true → is_on_by q.clock (place_in q.opening q.nonce clock (o ∷ older)) ≡ true
on_goes_on q clock o older h = on_less (q.opening == length older) (o.nonce == q.nonce) q.clock clock (place_in q.opening q.nonce (o.first - 1) older) (tests_of q clock o older h)

-- AN OPENING MORE: the same, of what was heard before
shared_above : (t u : Bool) (heard left : ℕ) (below : Place) → u ≡ false → shared_by heard (placed t u left below) ≤ shared_by heard below
shared_above true true heard left below e = cc
shared_above true false heard left below e = omega arith
shared_above false u heard left below e = omega arith

on_above : (t u : Bool) (heard left : ℕ) (below : Place) → u ≡ false → is_on_by heard (placed t u left below) ≡ true → is_on_by heard below ≡ true
on_above true true heard left below e on = cc
on_above true false heard left below e on = cc
on_above false u heard left below e on = on

pub shared_reopened : (q : Known) (clock nonce : ℕ) (chain : List Opening) → q.nonce ≢ nonce → shared_by q.clock (place_in q.opening q.nonce (clock + 1) (record { nonce = nonce; first = clock + 1 } ∷ chain)) ≤ shared_by q.clock (place_in q.opening q.nonce clock chain)
shared_reopened q clock nonce chain other =
    let same : clock + 1 - 1 ≡ clock = omega arith in
    subst (λ (left : ℕ). shared_by q.clock (placed (q.opening == length chain) (nonce == q.nonce) (clock + 1) (place_in q.opening q.nonce (clock + 1 - 1) chain)) ≤ shared_by q.clock (place_in q.opening q.nonce left chain)) same
    (shared_above (q.opening == length chain) (nonce == q.nonce) q.clock (clock + 1) (place_in q.opening q.nonce (clock + 1 - 1) chain) (other_nonce q.nonce nonce other))

pub on_reopened : (q : Known) (clock nonce : ℕ) (chain : List Opening) → q.nonce ≢ nonce → is_on_by q.clock (place_in q.opening q.nonce (clock + 1) (record { nonce = nonce; first = clock + 1 } ∷ chain)) ≡ true → is_on_by q.clock (place_in q.opening q.nonce clock chain) ≡ true
on_reopened q clock nonce chain other on =
    let same : clock + 1 - 1 ≡ clock = omega arith in
    subst (λ (left : ℕ). is_on_by q.clock (place_in q.opening q.nonce left chain) ≡ true) same
    (on_above (q.opening == length chain) (nonce == q.nonce) q.clock (clock + 1) (place_in q.opening q.nonce (clock + 1 - 1) chain) (other_nonce q.nonce nonce other) on)

-- one more commit of an opening is shared with a store that left it before no further
shared_on : (t : Bool) (clock left : ℕ) → (t ≡ true → left ≤ clock) → (if t then min (clock + 1) left else 0) ≤ (if t then min clock left else 0)
shared_on true clock left h = let least = h refl in omega arith
shared_on false clock left h = omega arith

pub shared_by_more : (clock : ℕ) (p : Place) → (p.is_there ≡ true → p.left ≤ clock) → shared_by (clock + 1) p ≤ shared_by clock p
shared_by_more clock p h = shared_on p.is_there clock p.left h

off : (t : Bool) (clock left : ℕ) → (t ≡ true → left ≤ clock) → (t && nat_le (clock + 1) left) ≡ true → ⊥
off true clock left h on = let least = h refl in grind (arith, nat_tests)
off false clock left h on = cc

-- and isn't on its path
pub not_on_more : (clock : ℕ) (p : Place) → (p.is_there ≡ true → p.left ≤ clock) → is_on_by (clock + 1) p ≡ true → ⊥
not_on_more clock p h on = off p.is_there clock p.left h on

-- what isn't there is shared up to nothing, and isn't on the path
shared_none : (t : Bool) (clock left : ℕ) → t ≡ false → (if t then min clock left else 0) ≡ 0
shared_none true clock left e = cc
shared_none false clock left e = refl

pub shared_nowhere : (clock : ℕ) (p : Place) → p.is_there ≡ false → shared_by clock p ≡ 0
shared_nowhere clock p e = shared_none p.is_there clock p.left e

on_none : (t x : Bool) → t ≡ false → (t && x) ≡ true → ⊥
on_none true x e on = cc
on_none false x e on = cc

pub not_on_nowhere : (clock : ℕ) (p : Place) → p.is_there ≡ false → is_on_by clock p ≡ true → ⊥
not_on_nowhere clock p e on = on_none p.is_there (nat_le clock p.left) e on
