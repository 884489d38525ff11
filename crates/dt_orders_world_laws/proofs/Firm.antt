-- Commits that no crash loses.
use Rattle.std.proofs.Common.{◌≡◌, ◌+◌, ◌≤◌, ◌<◌, ℕ, List, [], ◌∷◌, Bool, true, false, ◌⊎◌, inl, inr, sym, subst, arith, refl, length}
use Rattle.std.specs.Prelude.{◌-◌, ◌==◌, ◌&&◌, min, nat_le, if◌then◌else◌}
use Rattle.std.proofs.lemmas.Bool.Decides.{nat_tests}
use Rattle.dt_orders_model.specs.declared.knowledge.Known.{Known}
use Rattle.dt_orders_model.specs.declared.knowledge.Opening.{Opening}
use Rattle.dt_orders_model.specs.declared.knowledge.Place.{Place}
use Rattle.dt_orders_model.specs.Chains.{is_on_by, place_in}
use Rattle.dt_orders_model.specs.Stores.{Among, Store, heard, is_on, place_of, reopened, shared}
use Rattle.dt_orders_laws.proofs.Lawful.{Extends}
use Rattle.dt_orders_laws.proofs.Places.{head_is, left_within}
use Rattle.dt_orders_laws.proofs.Sound.{Sound}
use Rattle.dt_orders_world_laws.specs.Both.{IsFirm}
use Rattle.dt_orders_world_laws.proofs.Serving.{Next}

-- what is on the path is there, and was written before the place was left
on_of : (clock : ℕ) (t : Bool) (left : ℕ) → (t && nat_le clock left) ≡ true → (t ≡ true) × (clock ≤ left)
on_of clock true left e = (refl, grind (arith, nat_tests))
on_of clock false left e = cc

pub on_below : (q : Known) (s : Store) → Sound s → is_on q s ≡ true → q.clock ≤ s.clock
on_below q s sound e =
    let a = on_of q.clock (place_of q s).is_there (place_of q s).left e in
    let b = left_within q.opening q.nonce s.clock (s.opening ∷ s.older) sound.firsts in
    let c = a.1 in
    omega arith

shared_on : (clock : ℕ) (t : Bool) (left : ℕ) → (t && nat_le clock left) ≡ true → (if t then min clock left else 0) ≡ clock
shared_on clock true left e = let a = on_of clock true left e in let b = a.1 in omega arith
shared_on clock false left e = cc

pub on_shared : (q : Known) (s : Store) → is_on q s ≡ true → shared q s ≡ q.clock
on_shared q s e = shared_on q.clock (place_of q s).is_there (place_of q s).left e

-- a store's own last commit is on its path
pub on_itself : (s : Store) → is_on (heard s) s ≡ true
on_itself s =
    let place : place_of (heard s) s ≡ record { is_there = true; left = s.clock } = head_is s.opening.nonce s.clock s.opening s.older refl in
    subst (λ (p : Place). is_on_by s.clock p ≡ true) (sym place) (grind (arith, nat_tests))

-- what is on the path stays, by a commit more
on_left : (q : ℕ) (t u : Bool) (left more : ℕ) (below : Place) → left ≤ more → is_on_by q (if t then record { is_there = u; left = left } else below) ≡ true → is_on_by q (if t then record { is_there = u; left = more } else below) ≡ true
on_left q true true left more below h e = grind (arith, nat_tests)
on_left q true false left more below h e = e
on_left q false u left more below h e = e

on_more : (q : Known) (left more : ℕ) (o : Opening) (older : List Opening) → left ≤ more → is_on_by q.clock (place_in q.opening q.nonce left (o ∷ older)) ≡ true → is_on_by q.clock (place_in q.opening q.nonce more (o ∷ older)) ≡ true
on_more q left more o older h e = on_left q.clock (q.opening == length older) (o.nonce == q.nonce) left more (place_in q.opening q.nonce (o.first - 1) older) h e

pub on_next : (q : Known) (s t : Store) → Next s t → is_on q s ≡ true → is_on q t ≡ true
on_next q s t next e =
    let more : s.clock ≤ t.clock = above next.clock in
    let here = on_more q s.clock t.clock s.opening s.older more e in
    subst (λ (x : Opening). is_on_by q.clock (place_in q.opening q.nonce t.clock (x ∷ t.older)) ≡ true) (sym next.opening)
    (subst (λ (x : List Opening). is_on_by q.clock (place_in q.opening q.nonce t.clock (s.opening ∷ x)) ≡ true) (sym next.older) here)
  where
    above : (t.clock ≡ s.clock) ⊎ (t.clock ≡ s.clock + 1) → s.clock ≤ t.clock
    above (inl x) = omega arith
    above (inr x) = omega arith

-- and by an opening more
there_within : (number nonce left : ℕ) (chain : List Opening) → (place_in number nonce left chain).is_there ≡ true → number < length chain
there_within number nonce left [] e = cc
there_within number nonce left (o ∷ older) e = by (number == length older) refl e (there_within number nonce (o.first - 1) older)
  where
    by : (t : Bool) → (number == length older) ≡ t → (if t then record { is_there = o.nonce == nonce; left = left } else place_in number nonce (o.first - 1) older).is_there ≡ true → ((place_in number nonce (o.first - 1) older).is_there ≡ true → number < length older) → number < length (o ∷ older)
    by true is there rest = let same : number ≡ length older = grind (arith, nat_tests) in omega arith
    by false is there rest = let below = rest there in omega arith

pub on_opened : (q : Known) (s : Store) (nonce : ℕ) → is_on q s ≡ true → is_on q (reopened s nonce) ≡ true
on_opened q s nonce e =
    let there = (on_of q.clock (place_of q s).is_there (place_of q s).left e).0 in
    let within = there_within q.opening q.nonce s.clock (s.opening ∷ s.older) there in
    let other : (q.opening == length (s.opening ∷ s.older)) ≡ false = grind (arith, nat_tests) in
    let same : s.clock + 1 - 1 ≡ s.clock = omega arith in
    let here : is_on_by q.clock (place_in q.opening q.nonce (s.clock + 1 - 1) (s.opening ∷ s.older)) ≡ true = subst (λ (x : ℕ). is_on_by q.clock (place_in q.opening q.nonce x (s.opening ∷ s.older)) ≡ true) (sym same) e in
    subst (λ (t : Bool). is_on_by q.clock (if t then record { is_there = nonce == q.nonce; left = s.clock + 1 } else place_in q.opening q.nonce (s.clock + 1 - 1) (s.opening ∷ s.older)) ≡ true) (sym other) here

-- WHAT A CRASH MAY LEAVE NOW goes on from what it might have left before
pub record GoesOn (before : List Store) (t : Store) : Type 0 where
  pub from : Store
  pub there : Among from before
  pub on : (q : Known) → is_on q from ≡ true → is_on q t ≡ true
  pub extends : Extends from t

pub firm_on : (before after : List Store) → ((t : Store) → Among t after → GoesOn before t) → (q : Known) → IsFirm q before → IsFirm q after
firm_on before after each q firm t m = let g = each t m in g.on q (firm g.from g.there)
