-- What was surely not passed.
use Rattle.std.proofs.Common.{◌≡◌, ◌+◌, ◌≤◌, ℕ, List, [], ◌∷◌, Bool, true, false, Option, Some, None, ap, arith, refl, inl, inr}
use Rattle.std.specs.Prelude.{◌-◌, IfSome, nat_le, if◌then◌else◌}
use Rattle.std.proofs.lemmas.Bool.{cases_lt}
use Rattle.std.proofs.lemmas.Bool.Decides.{nat_tests}
use Rattle.dt_watch.specs.declared.clock_bounds.ClockBounds.{ClockBounds}
use Rattle.dt_watch.specs.declared.readings.Bound.{Bound}
use Rattle.dt_watch.specs.declared.upper.Upper.{Upper}
use Rattle.dt_watch.specs.Drift.{drift_over}
use Rattle.dt_watch.specs.Clocks.{GoTogether, HadNotPassed}
use Rattle.dt_watch.specs.Lower.{lower_at, turned}
use Rattle.dt_watch.specs.LowerRuns.{HadAllPassed, lower_by, new_lower}
use Rattle.dt_watch.specs.Upper.{aged_up, is_lower, kept_upper, least_of, not_passed, not_passed_by, upper_at}
use Rattle.dt_watch.specs.UpperRuns.{HadNonePassed, new_upper, upper_by}
use Rattle.dt_watch.proofs.Lowest.{run_had_passed}

not_after : (b : ClockBounds) (clock other : ℕ → ℕ) (e : Bound) (t : ℕ) → GoTogether b clock other → HadNotPassed clock other e → e.at.micros ≤ other t → clock t ≤ aged_up b e (other t) + b.grain
not_after b clock other e t together had after =
    elim (cases_lt t had.moment) [
      | inl sooner ↦ let onward = together.onward t had.moment (omega arith) in omega (arith, onward, had.not_passed)
      | inr later ↦
          let most = together.most had.moment t later in
          let same : drift_over b.drift (other t - other had.moment) ≡ drift_over b.drift (other t - e.at.micros) = ap (λ (n : ℕ). drift_over b.drift (other t - n)) had.at in
          omega (arith, most, same, had.at, had.not_passed)
    ]

by_test : (test : Bool) (now most : ℕ) → (test ≡ true → now ≤ most) → IfSome (if test then Some most else None) (λ (m : ℕ). now ≤ m)
by_test true now most below = below refl
by_test false now most below = tt

tested : (m n : ℕ) → nat_le m n ≡ true → m ≤ n
tested m n test = grind (arith, nat_tests)

pub not_later : (b : ClockBounds) (clock other : ℕ → ℕ) (e : Bound) (t : ℕ) → GoTogether b clock other → HadNotPassed clock other e → IfSome (not_passed_by b e (other t)) (λ (m : ℕ). clock t ≤ m)
not_later b clock other e t together had = by_test (nat_le e.at.micros (other t)) (clock t) (aged_up b e (other t) + b.grain) (λ test. not_after b clock other e t together had (tested e.at.micros (other t) test))

abbrev Holds : (ℕ → ℕ) → (ℕ → ℕ) → Option Bound → Type 0
Holds clock other None = Unit {0}
Holds clock other (Some e) = HadNotPassed clock other e

held_not : (b : ClockBounds) (clock other : ℕ → ℕ) (kept : Option Bound) (t : ℕ) → GoTogether b clock other → Holds clock other kept → IfSome (not_passed b kept (other t)) (λ (m : ℕ). clock t ≤ m)
held_not b clock other None t together holds = tt
held_not b clock other (Some e) t together holds = not_later b clock other e t together holds

turn_holds : (clock other : ℕ → ℕ) (present former : Option Bound) → Holds clock other present → Holds clock other former → Holds clock other (turned present former)
turn_holds clock other None former one two = two
turn_holds clock other (Some e) former one two = one

test_holds : (clock other : ℕ → ℕ) (kept e : Bound) (test : Bool) → HadNotPassed clock other kept → HadNotPassed clock other e → Holds clock other (if test then Some e else Some kept)
test_holds clock other kept e true one two = two
test_holds clock other kept e false one two = one

seen_holds : (b : ClockBounds) (clock other : ℕ → ℕ) (kept : Option Bound) (e : Bound) → Holds clock other kept → HadNotPassed clock other e → Holds clock other (kept_upper b kept e)
seen_holds b clock other None e one two = two
seen_holds b clock other (Some kept) e one two = test_holds clock other kept e (is_lower b kept e) one two

both : (now : ℕ) (one other : Option ℕ) → IfSome one (λ (m : ℕ). now ≤ m) → IfSome other (λ (m : ℕ). now ≤ m) → IfSome (least_of one other) (λ (m : ℕ). now ≤ m)
both now None other first second = second
both now (Some m) None first second = first
both now (Some m) (Some n) first second = let a : now ≤ m = first in let b : now ≤ n = second in omega arith

run_not_passed : (clock other : ℕ → ℕ) (u : Upper) (seen : List (Option Bound)) (t : ℕ) → GoTogether u.bounds clock other → Holds clock other u.present → Holds clock other u.former → HadNonePassed clock other seen → IfSome (upper_at (upper_by u seen) (other t)) (λ (m : ℕ). clock t ≤ m)
run_not_passed clock other u [] t together one two had = both (clock t) (not_passed u.bounds u.present (other t)) (not_passed u.bounds u.former (other t)) (held_not u.bounds clock other u.present t together one) (held_not u.bounds clock other u.former t together two)
run_not_passed clock other u (None ∷ seen) t together one two had = run_not_passed clock other (record u { present = None; former = turned u.present u.former }) seen t together tt (turn_holds clock other u.present u.former one two) had
run_not_passed clock other u (Some e ∷ seen) t together one two had = run_not_passed clock other (record u { present = kept_upper u.bounds u.present e }) seen t together (seen_holds u.bounds clock other u.present e one had.0) two had.1

pub surely_not_passed : (b : ClockBounds) (clock other : ℕ → ℕ) (seen : List (Option Bound)) (t : ℕ) → GoTogether b clock other → HadNonePassed clock other seen → IfSome (upper_at (upper_by (new_upper b) seen) (other t)) (λ (m : ℕ). clock t ≤ m)
surely_not_passed b clock other seen t together had = run_not_passed clock other (new_upper b) seen t together tt tt had

raised : (least now : ℕ) (most : Option ℕ) → least ≤ now → IfSome most (λ (m : ℕ). now ≤ m) → IfSome most (λ (m : ℕ). least ≤ m)
raised least now None below above = tt
raised least now (Some m) below above = let a : now ≤ m = above in omega arith

pub no_false_alarm : (b : ClockBounds) (clock other : ℕ → ℕ) (passed not_passed : List (Option Bound)) (t : ℕ) → GoTogether b clock other → HadAllPassed clock other passed → HadNonePassed clock other not_passed → IfSome (upper_at (upper_by (new_upper b) not_passed) (other t)) (λ (m : ℕ). lower_at (lower_by (new_lower b) passed) (other t) ≤ m)
no_false_alarm b clock other passed not_passed t together had had_not = raised (lower_at (lower_by (new_lower b) passed) (other t)) (clock t) (upper_at (upper_by (new_upper b) not_passed) (other t)) (run_had_passed clock other (new_lower b) passed t together tt tt had) (surely_not_passed b clock other not_passed t together had_not)
