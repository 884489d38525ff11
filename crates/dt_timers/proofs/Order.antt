-- The order of deadlines, and the sooner of two.
use Rattle.std.proofs.Common.{ℕ, ◌≡◌, ◌⊎◌, inl, inr, Bool, true, false, Option, Some, None, refl, ap, sym, ◌∙◌, arith}
use Rattle.std.specs.Option.{option_eq}
use Rattle.std.specs.Prelude.{◌&&◌, nat_eq, if◌then◌else◌}
use Rattle.std.proofs.lemmas.Bool.{and_parts, cases_Bool, eqb-true}
use Rattle.std.proofs.lemmas.Bool.Decides.{nat_tests}
use Rattle.dt_timers.specs.declared.deadline.Deadline.{Deadline}
use Rattle.dt_timers.specs.Order.{IsBy, IsNoLater, goes_first, sooner_of}

pub by_itself : (d : Option Deadline) → IsBy d d
by_itself None = tt
by_itself (Some d) = inr (refl, omega arith)

pub by_then : (a b c : Option Deadline) → IsBy a b → IsBy b c → IsBy a c
by_then a b None h k = tt
by_then a None (Some e) h k = absurd k
by_then None (Some d) (Some e) h k = absurd h
by_then (Some d) (Some e) (Some f) h k = grind arith

no_later : (d e : Deadline) → goes_first e d ≡ false → IsNoLater d e
no_later d e h = grind (arith, nat_tests)

goes : (d e : Deadline) → goes_first e d ≡ true → IsNoLater e d
goes d e h = grind (arith, nat_tests)

-- the sooner is one of the two, and by both
pub is_one : (a b : Option Deadline) → (sooner_of a b ≡ a) ⊎ (sooner_of a b ≡ b)
is_one None b = inr refl
is_one (Some d) None = inl refl
is_one (Some d) (Some e) = by (goes_first e d)
  where
    by : (t : Bool) → ((if t then Some e else Some d) ≡ Some d) ⊎ ((if t then Some e else Some d) ≡ Some e)
    by true = inr refl
    by false = inl refl

pub by_first : (a b : Option Deadline) → IsBy (sooner_of a b) a
by_first None b = tt
by_first (Some d) None = by_itself (Some d)
by_first (Some d) (Some e) =
    elim (cases_Bool (goes_first e d)) [
      | inl y ↦ rw y (goes d e y)
      | inr n ↦ rw n (by_itself (Some d))
    ]

pub by_second : (a b : Option Deadline) → IsBy (sooner_of a b) b
by_second None b = by_itself b
by_second (Some d) None = tt
by_second (Some d) (Some e) =
    elim (cases_Bool (goes_first e d)) [
      | inl y ↦ rw y (by_itself (Some e))
      | inr n ↦ rw n (no_later d e n)
    ]

-- what is compared field by field, and is equal in both, is the same
pub same_deadline : (a b : Deadline) → (nat_eq a.moment b.moment && nat_eq a.place b.place) ≡ true → a ≡ b
same_deadline a b h =
    let both = and_parts (nat_eq a.moment b.moment) (nat_eq a.place b.place) h in
    ap (λ (m : ℕ). record a { moment = m }) (eqb-true a.moment b.moment both.0) ∙ ap (λ (k : ℕ). record b { place = k }) (eqb-true a.place b.place both.1)

pub same_place : (one other : Option Deadline) → true ≡ option_eq (λ (a b : Deadline). nat_eq a.moment b.moment && nat_eq a.place b.place) one other → one ≡ other
same_place None None h = refl
same_place None (Some b) h = absurd cc
same_place (Some a) None h = absurd cc
same_place (Some a) (Some b) h = ap (λ (d : Deadline). Some d) (same_deadline a b (sym h))

-- IN EITHER ORDER the sooner of two is the same
not_back : (d e : Deadline) → goes_first e d ≡ true → goes_first d e ≡ false
not_back d e h = grind (arith, nat_tests)

neither : (d e : Deadline) → IsNoLater d e → IsNoLater e d → d ≡ e
neither d e h k =
    let moment : d.moment ≡ e.moment = grind arith in
    let place : d.place ≡ e.place = grind arith in
    ap (λ (m : ℕ). record d { moment = m }) moment ∙ ap (λ (n : ℕ). record e { place = n }) place

pub either_way : (a b : Option Deadline) → sooner_of a b ≡ sooner_of b a
either_way None None = refl
either_way None (Some e) = refl
either_way (Some d) None = refl
either_way (Some d) (Some e) =
    elim (cases_Bool (goes_first e d)) [
      | inl y ↦ rw (y, not_back d e y) refl
      | inr n ↦
          elim (cases_Bool (goes_first d e)) [
            | inl z ↦ rw (n, z) refl
            | inr z ↦ rw (n, z) (ap (λ (x : Deadline). Some x) (neither d e (no_later d e n) (no_later e d z)))
          ]
    ]
