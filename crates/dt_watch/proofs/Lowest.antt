-- The bound that is kept says most.
use Rattle.std.proofs.Common.{◌≡◌, ◌+◌, ◌≤◌, ◌<◌, ◌∙◌, ℕ, List, [], ◌∷◌, Bool, true, false, Option, Some, None, ap, arith, refl, inl, inr}
use Rattle.std.specs.Prelude.{◌-◌, max, if◌then◌else◌}
use Rattle.std.proofs.lemmas.Bool.{cases_lt}
use Rattle.std.proofs.lemmas.Bool.Decides.{nat_tests}
use Rattle.dt_watch.specs.declared.clock_bounds.ClockBounds.{ClockBounds}
use Rattle.dt_watch.specs.declared.readings.Bound.{Bound}
use Rattle.dt_watch.specs.declared.lower.Lower.{Lower}
use Rattle.dt_watch.specs.Drift.{drift_over}
use Rattle.dt_watch.specs.Clocks.{GoTogether, HadPassed, WasHeard}
use Rattle.dt_watch.specs.Lower.{aged_down, around, around_by, before_by, is_higher, kept_lower, kept_of, lower_around, lower_at, most_passed, passed, passed_by, turned}
use Rattle.dt_watch.specs.LowerRuns.{HadAllPassed, InOrder, WereHeard, lower_by, new_lower}
use Rattle.dt_watch.proofs.Drifting.{drift_joined, drift_of_nothing, drift_parted, drift_within}

-- a bound that is above the kept one, as that has aged, stays above it
higher_stays : (d kr ka er ea now : ℕ) → d ≤ 1000 → ka ≤ ea → ea ≤ now → kr + (ea - ka - drift_over d (ea - ka)) < er → kr + (now - ka - drift_over d (now - ka)) ≤ er + (now - ea - drift_over d (now - ea))
higher_stays d kr ka er ea now slow one two above =
    let x = ea - ka in
    let y = now - ea in
    let sum : now - ka ≡ x + y = omega arith in
    let whole : drift_over d (now - ka) ≡ drift_over d (x + y) = ap (λ (n : ℕ). drift_over d n) sum in
    omega (arith, whole, drift_parted d x y, drift_within d x slow, drift_within d y slow)

-- and one that isn't above it never is
lower_stays : (d kr ka er ea now : ℕ) → d ≤ 1000 → ka ≤ ea → ea ≤ now → er ≤ kr + (ea - ka - drift_over d (ea - ka)) → er + (now - ea - drift_over d (now - ea)) ≤ kr + (now - ka - drift_over d (now - ka))
lower_stays d kr ka er ea now slow one two below =
    let x = ea - ka in
    let y = now - ea in
    let sum : now - ka ≡ x + y = omega arith in
    let whole : drift_over d (now - ka) ≡ drift_over d (x + y) = ap (λ (n : ℕ). drift_over d n) sum in
    omega (arith, whole, drift_joined d x y, drift_within d x slow, drift_within d y slow)

-- at a reading after its own a bound says what it has aged to
pub later_says : (b : ClockBounds) (e : Bound) (now : ℕ) → e.at.micros ≤ now → passed_by b e now ≡ aged_down b e now - b.grain
later_says b e now later = grind (arith, nat_tests)

-- before it nothing
nothing_before : (b : ClockBounds) (e : Bound) (now : ℕ) → now < e.at.micros → passed_by b e now ≡ 0
nothing_before b e now before = grind (arith, nat_tests)

is_above : (b : ClockBounds) (kept e : Bound) → is_higher b kept e ≡ true → aged_down b kept e.at.micros < e.reading.micros
is_above b kept e test = grind (arith, nat_tests)

is_not_above : (b : ClockBounds) (kept e : Bound) → kept.at.micros ≤ e.at.micros → is_higher b kept e ≡ false → e.reading.micros ≤ aged_down b kept e.at.micros
is_not_above b kept e one test = grind (arith, nat_tests)

-- ONE STEP: what is kept says as much as the kept one and the one that is seen
step_by : (b : ClockBounds) (kept e : Bound) (now : ℕ) → kept.at.micros ≤ e.at.micros → e.at.micros ≤ now → (test : Bool) → is_higher b kept e ≡ test → passed b (if test then Some e else Some kept) now ≡ max (passed_by b kept now) (passed_by b e now)
step_by b kept e now one two true test =
    let says = later_says b e now two in
    let kept_says = later_says b kept now (omega arith) in
    let stays = higher_stays b.drift kept.reading.micros kept.at.micros e.reading.micros e.at.micros now b.slow one two (is_above b kept e test) in
    omega (arith, says, kept_says, stays)
step_by b kept e now one two false test =
    let says = later_says b e now two in
    let kept_says = later_says b kept now (omega arith) in
    let stays = lower_stays b.drift kept.reading.micros kept.at.micros e.reading.micros e.at.micros now b.slow one two (is_not_above b kept e one test) in
    omega (arith, says, kept_says, stays)

one_step : (b : ClockBounds) (kept e : Bound) (now : ℕ) → kept.at.micros ≤ e.at.micros → e.at.micros ≤ now → passed b (kept_lower b (Some kept) e) now ≡ max (passed_by b kept now) (passed_by b e now)
one_step b kept e now one two = step_by b kept e now one two (is_higher b kept e) refl

-- what is kept is of no later reading than this
abbrev KeptBy : ℕ → Option Bound → Type 0
KeptBy from None = Unit {0}
KeptBy from (Some kept) = kept.at.micros ≤ from

one_more : (b : ClockBounds) (kept : Option Bound) (e : Bound) (from now : ℕ) → KeptBy from kept → from ≤ e.at.micros → e.at.micros ≤ now → passed b (kept_lower b kept e) now ≡ max (passed b kept now) (passed_by b e now)
one_more b None e from now by one two = omega arith
one_more b (Some kept) e from now by one two = one_step b kept e now (omega arith) two

kept_test : (kept e : Bound) (test : Bool) → kept.at.micros ≤ e.at.micros → KeptBy e.at.micros (if test then Some e else Some kept)
kept_test kept e true one = omega arith
kept_test kept e false one = one

kept_still : (b : ClockBounds) (kept : Option Bound) (e : Bound) (from : ℕ) → KeptBy from kept → from ≤ e.at.micros → KeptBy e.at.micros (kept_lower b kept e)
kept_still b None e from by one = omega arith
kept_still b (Some kept) e from by one = kept_test kept e (is_higher b kept e) (omega arith)

all_before : (from now : ℕ) (es : List Bound) → InOrder from now es → from ≤ now
all_before from now [] order = order
all_before from now (e ∷ es) order = omega (arith, order.0, all_before e.at.micros now es order.1)

kept_from : (b : ClockBounds) (kept : Option Bound) (es : List Bound) (from now : ℕ) → KeptBy from kept → InOrder from now es → passed b (kept_of b kept es) now ≡ max (passed b kept now) (most_passed b es now)
kept_from b kept [] from now by order = omega arith
kept_from b kept (e ∷ es) from now by order =
    let rest = kept_from b (kept_lower b kept e) es e.at.micros now (kept_still b kept e from by order.0) order.1 in
    let one = one_more b kept e from now by order.0 (all_before e.at.micros now es order.1) in
    omega (arith, rest, one)

pub kept_says_most : (b : ClockBounds) (es : List Bound) (now : ℕ) → InOrder 0 now es → passed b (kept_of b None es) now ≡ most_passed b es now
kept_says_most b es now order = let all = kept_from b None es 0 now tt order in omega (arith, all)

-- A TRUE BOUND is true later, too
true_after : (b : ClockBounds) (clock other : ℕ → ℕ) (e : Bound) (t : ℕ) → GoTogether b clock other → HadPassed clock other e → e.at.micros ≤ other t → aged_down b e (other t) - b.grain ≤ clock t
true_after b clock other e t together had after =
    elim (cases_lt t had.moment) [
      | inl sooner ↦
          let onward = together.other_onward t had.moment (omega arith) in
          let most = together.most t had.moment (omega arith) in
          let none : other had.moment - other t ≡ 0 = omega (arith, onward, had.at) in
          let no_drift : drift_over b.drift (other had.moment - other t) ≡ 0 = ap (λ (n : ℕ). drift_over b.drift n) none ∙ drift_of_nothing b.drift in
          omega (arith, onward, most, none, no_drift, had.at, had.passed)
      | inr later ↦
          let least = together.least had.moment t later in
          let same : drift_over b.drift (other t - other had.moment) ≡ drift_over b.drift (other t - e.at.micros) = ap (λ (n : ℕ). drift_over b.drift (other t - n)) had.at in
          let onward = together.onward had.moment t later in
          omega (arith, least, same, onward, had.at, had.passed)
    ]

pub true_later : (b : ClockBounds) (clock other : ℕ → ℕ) (e : Bound) (t : ℕ) → GoTogether b clock other → HadPassed clock other e → passed_by b e (other t) ≤ clock t
true_later b clock other e t together had =
    elim (cases_lt (other t) e.at.micros) [
      | inl before ↦ let none = nothing_before b e (other t) before in omega (arith, none)
      | inr after ↦ let says = later_says b e (other t) after in let is_true = true_after b clock other e t together had after in omega (arith, says, is_true)
    ]

-- A TRUE BOUND is true of sooner readings, too
true_before : (b : ClockBounds) (clock other : ℕ → ℕ) (e : Bound) (t : ℕ) → GoTogether b clock other → HadPassed clock other e → other t < e.at.micros → before_by b e (other t) ≤ clock t
true_before b clock other e t together had before =
    elim (cases_lt t had.moment) [
      | inl sooner ↦
          let most = together.most t had.moment (omega arith) in
          let onward = together.other_onward t had.moment (omega arith) in
          let same : drift_over b.drift (other had.moment - other t) ≡ drift_over b.drift (e.at.micros - other t) = ap (λ (n : ℕ). drift_over b.drift (n - other t)) had.at in
          omega (arith, most, onward, same, had.at, had.passed)
      | inr later ↦
          let onward = together.other_onward had.moment t later in
          omega (arith, onward, had.at, before)
    ]

-- what a bound says around its reading, as what it says later where that is no sooner
around_test : (b : ClockBounds) (e : Bound) (now : ℕ) → e.at.micros ≤ now → around_by b e now ≡ passed_by b e now
around_test b e now later = grind (arith, nat_tests)

before_test : (b : ClockBounds) (e : Bound) (now : ℕ) → now < e.at.micros → around_by b e now ≡ before_by b e now
before_test b e now before = grind (arith, nat_tests)

pub true_around : (b : ClockBounds) (clock other : ℕ → ℕ) (e : Bound) (t : ℕ) → GoTogether b clock other → HadPassed clock other e → around_by b e (other t) ≤ clock t
true_around b clock other e t together had =
    elim (cases_lt (other t) e.at.micros) [
      | inl before ↦ let says = before_test b e (other t) before in let is_true = true_before b clock other e t together had before in omega (arith, says, is_true)
      | inr after ↦ let says = around_test b e (other t) after in let is_true = true_later b clock other e t together had in omega (arith, says, is_true)
    ]

-- A STAMP THAT WAS HEARD had passed then
pub heard_had_passed : (b : ClockBounds) (clock other : ℕ → ℕ) (e : Bound) → GoTogether b clock other → WasHeard clock other e → HadPassed clock other e
heard_had_passed b clock other e together heard =
    let onward = together.onward heard.read_at heard.heard_at heard.order in
    record { moment = heard.heard_at; at = heard.at; passed = omega (arith, onward, heard.reading) }

-- what is kept is true
abbrev pub Holds : (ℕ → ℕ) → (ℕ → ℕ) → Option Bound → Type 0
Holds clock other None = Unit {0}
Holds clock other (Some e) = HadPassed clock other e

pub held_is_passed : (b : ClockBounds) (clock other : ℕ → ℕ) (kept : Option Bound) (t : ℕ) → GoTogether b clock other → Holds clock other kept → passed b kept (other t) ≤ clock t
held_is_passed b clock other None t together holds = omega arith
held_is_passed b clock other (Some e) t together holds = true_later b clock other e t together holds

held_is_around : (b : ClockBounds) (clock other : ℕ → ℕ) (kept : Option Bound) (t : ℕ) → GoTogether b clock other → Holds clock other kept → around b kept (other t) ≤ clock t
held_is_around b clock other None t together holds = omega arith
held_is_around b clock other (Some e) t together holds = true_around b clock other e t together holds

turn_holds : (clock other : ℕ → ℕ) (present former : Option Bound) → Holds clock other present → Holds clock other former → Holds clock other (turned present former)
turn_holds clock other None former one two = two
turn_holds clock other (Some e) former one two = one

test_holds : (clock other : ℕ → ℕ) (kept e : Bound) (test : Bool) → HadPassed clock other kept → HadPassed clock other e → Holds clock other (if test then Some e else Some kept)
test_holds clock other kept e true one two = two
test_holds clock other kept e false one two = one

pub seen_holds : (b : ClockBounds) (clock other : ℕ → ℕ) (kept : Option Bound) (e : Bound) → Holds clock other kept → HadPassed clock other e → Holds clock other (kept_lower b kept e)
seen_holds b clock other None e one two = two
seen_holds b clock other (Some kept) e one two = test_holds clock other kept e (is_higher b kept e) one two

pub run_had_passed : (clock other : ℕ → ℕ) (l : Lower) (seen : List (Option Bound)) (t : ℕ) → GoTogether l.bounds clock other → Holds clock other l.present → Holds clock other l.former → HadAllPassed clock other seen → lower_at (lower_by l seen) (other t) ≤ clock t
run_had_passed clock other l [] t together one two had =
    let present = held_is_passed l.bounds clock other l.present t together one in
    let former = held_is_passed l.bounds clock other l.former t together two in
    omega (arith, present, former)
run_had_passed clock other l (None ∷ seen) t together one two had = run_had_passed clock other (record l { present = None; former = turned l.present l.former }) seen t together tt (turn_holds clock other l.present l.former one two) had
run_had_passed clock other l (Some e ∷ seen) t together one two had = run_had_passed clock other (record l { present = kept_lower l.bounds l.present e }) seen t together (seen_holds l.bounds clock other l.present e one had.0) two had.1

all_heard : (b : ClockBounds) (clock other : ℕ → ℕ) (seen : List (Option Bound)) → GoTogether b clock other → WereHeard clock other seen → HadAllPassed clock other seen
all_heard b clock other [] together heard = tt
all_heard b clock other (None ∷ seen) together heard = all_heard b clock other seen together heard
all_heard b clock other (Some e ∷ seen) together heard = (heard_had_passed b clock other e together heard.0, all_heard b clock other seen together heard.1)

pub sure_had_passed : (b : ClockBounds) (clock other : ℕ → ℕ) (seen : List (Option Bound)) (t : ℕ) → GoTogether b clock other → WereHeard clock other seen → lower_at (lower_by (new_lower b) seen) (other t) ≤ clock t
sure_had_passed b clock other seen t together heard = run_had_passed clock other (new_lower b) seen t together tt tt (all_heard b clock other seen together heard)

run_had_passed_around : (clock other : ℕ → ℕ) (l : Lower) (seen : List (Option Bound)) (t : ℕ) → GoTogether l.bounds clock other → Holds clock other l.present → Holds clock other l.former → HadAllPassed clock other seen → lower_around (lower_by l seen) (other t) ≤ clock t
run_had_passed_around clock other l [] t together one two had =
    let present = held_is_around l.bounds clock other l.present t together one in
    let former = held_is_around l.bounds clock other l.former t together two in
    omega (arith, present, former)
run_had_passed_around clock other l (None ∷ seen) t together one two had = run_had_passed_around clock other (record l { present = None; former = turned l.present l.former }) seen t together tt (turn_holds clock other l.present l.former one two) had
run_had_passed_around clock other l (Some e ∷ seen) t together one two had = run_had_passed_around clock other (record l { present = kept_lower l.bounds l.present e }) seen t together (seen_holds l.bounds clock other l.present e one had.0) two had.1

pub had_passed_around : (b : ClockBounds) (clock other : ℕ → ℕ) (seen : List (Option Bound)) (t : ℕ) → GoTogether b clock other → HadAllPassed clock other seen → lower_around (lower_by (new_lower b) seen) (other t) ≤ clock t
had_passed_around b clock other seen t together had = run_had_passed_around clock other (new_lower b) seen t together tt tt had
