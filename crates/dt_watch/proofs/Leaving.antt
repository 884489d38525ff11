-- A former opening stays one.
use Rattle.std.proofs.Common.{◌≡◌, ◌≢◌, ◌+◌, ◌≤◌, ◌<◌, ◌∙◌, ℕ, List, [], ◌∷◌, Bool, true, false, Option, Some, None, ap, arith, refl, sym, subst}
use Rattle.std.specs.Prelude.{◌==◌, nat_le, nat_lt, if◌then◌else◌}
use Rattle.std.proofs.lemmas.Bool.Decides.{nat_tests}
use Rattle.dt_watch.specs.declared.readings.Reading.{Reading}
use Rattle.dt_watch.specs.declared.clock_bounds.ClockBounds.{ClockBounds}
use Rattle.dt_watch.specs.declared.readings.Bound.{Bound}
use Rattle.dt_watch.specs.declared.arrivals.Arrival.{Arrival}
use Rattle.dt_watch.specs.declared.arrivals.Opening.{Opening}
use Rattle.dt_watch.specs.declared.arrivals.Judgement.TheVariants.{Former, OtherParameters, Present, Unproved}
use Rattle.dt_watch.specs.declared.openings.Openings.{Openings}
use Rattle.dt_watch.specs.Clocks.{GoesOn}
use Rattle.dt_watch.specs.Lower.{passed_by}
use Rattle.dt_watch.specs.Openings.{entered, first_of, judgement_by, later_of, opening_in, openings_after}
use Rattle.dt_watch.specs.Former.{HaveNoneAfter, NoneIsTaken}
use Rattle.dt_watch.proofs.Lowest.{later_says}

-- ANOTHER OPENING IS PRESENT, and has proved so much
abbrev IsPast : ℕ → ℕ → ℕ → Option Opening → Type 0
IsPast grain name last None = ⊥
IsPast grain name last (Some p) = (p.name ≢ name) × (last ≤ p.proved.micros + grain)

same_name : (m n : ℕ) → (m == n) ≡ true → m ≡ n
same_name m n test = grind (arith, nat_tests)

not_above : (m n : ℕ) → nat_le m n ≡ false → n < m
not_above m n test = grind (arith, nat_tests)

above : (m n : ℕ) → nat_lt m n ≡ true → m < n
above m n test = grind (arith, nat_tests)

later_by : (one other : Reading) (test : Bool) → nat_lt one.micros other.micros ≡ test → one.micros ≤ (if test then other else one).micros
later_by one other true test = let less = above one.micros other.micros test in omega (arith, less)
later_by one other false test = omega arith

later_is : (one other : Reading) → one.micros ≤ (later_of one other).micros
later_is one other = later_by one other (nat_lt one.micros other.micros) refl

other_name : (m n : ℕ) → m ≢ n → (m == n) ≡ false
other_name m n other = grind (arith, nat_tests)

is_within : (m n : ℕ) → m ≤ n → nat_le m n ≡ true
is_within m n less = grind (arith, nat_tests)

-- A DATAGRAM OF THE PAST OPENING is of none that is present
found_none : (same within : Bool) (x y : Option Opening) → same ≡ false → within ≡ true → (if same then x else (if within then None else y)) ≡ None
found_none false true x y one two = refl
found_none true within x y one two = absurd cc
found_none false false x y one two = absurd cc

no_present : (test zero : Bool) → (if test then (if zero then Unproved else Former) else OtherParameters) ≢ Present
no_present true true = λ h. cc
no_present true false = λ h. cc
no_present false true = λ h. cc
no_present false false = λ h. cc

not_present : (test : Bool) (gap : ℕ) (found : Option Opening) (a : Arrival) → found ≡ None → (if test then judgement_by gap found a else OtherParameters) ≢ Present
not_present test gap None a none = no_present test (a.sure.micros == 0)
not_present test gap (Some q) a none = absurd cc

finds_none : (grain name last : ℕ) (present : Option Opening) (a : Arrival) → IsPast grain name last present → a.opening ≡ name → a.sure.micros ≤ last → opening_in grain present a ≡ None
finds_none grain name last None a past is most = absurd past
finds_none grain name last (Some p) a past is most =
    let other : p.name ≢ a.opening = λ same. past.0 (same ∙ is) in
    let within : a.sure.micros ≤ p.proved.micros + grain = omega (arith, past.1) in
    found_none (p.name == a.opening) (nat_le a.sure.micros (p.proved.micros + grain)) (Some p) _ (other_name p.name a.opening other) (is_within a.sure.micros (p.proved.micros + grain) within)

-- WHATEVER COMES, the present opening is another one and has proved so much
past_tested : (grain gap name last : ℕ) (p : Opening) (a : Arrival) (q : Opening) → q.name ≡ a.opening → q.proved ≡ a.sure → IsPast grain name last (Some p) → (a.opening ≡ name → a.sure.micros ≤ last) → (same within : Bool) → nat_le a.sure.micros (p.proved.micros + grain) ≡ within → IsPast grain name last (entered gap (Some p) (if same then Some p else (if within then None else Some q)) a)
past_tested grain gap name last p a q named proved past none true within test = (past.0, let later = later_is p.proved a.sure in omega (arith, later, past.1))
past_tested grain gap name last p a q named proved past none false true test = past
past_tested grain gap name last p a q named proved past none false false test =
    let more = not_above a.sure.micros (p.proved.micros + grain) test in
    let later = later_is q.proved a.sure in
    let sure : q.proved.micros ≡ a.sure.micros = ap (λ (r : Reading). r.micros) proved in
    (λ is. let most = none (sym named ∙ is) in absurd (omega (arith, most, more, past.1)), omega (arith, more, later, sure, past.1))

past_entered : (grain gap name last : ℕ) (present : Option Opening) (a : Arrival) → IsPast grain name last present → (a.opening ≡ name → a.sure.micros ≤ last) → IsPast grain name last (entered gap present (opening_in grain present a) a)
past_entered grain gap name last None a past none = absurd past
past_entered grain gap name last (Some p) a past none = past_tested grain gap name last p a (record { name = a.opening; proved = a.sure; last_frame = None; former_frame = first_of p.last_frame p.former_frame }) refl refl past none (p.name == a.opening) (nat_le a.sure.micros (p.proved.micros + grain)) refl

abbrev PastIn : ℕ → ℕ → Openings → Type 0
PastIn name last o = IsPast o.grain name last o.present

past_if : (name last : ℕ) (test : Bool) (x y : Openings) → PastIn name last x → PastIn name last y → PastIn name last (if test then x else y)
past_if name last true x y one two = one
past_if name last false x y one two = two

past_after : (o : Openings) (name last : ℕ) (a : Arrival) → PastIn name last o → (a.opening ≡ name → a.sure.micros ≤ last) → PastIn name last (openings_after o a)
past_after o name last a past none = past_if name last (o.fingerprint == a.fingerprint) (record o { present = entered o.gap.micros o.present (opening_in o.grain o.present a) a }) o (past_entered o.grain o.gap.micros name last o.present a past none) past

none_from : (o : Openings) (name last : ℕ) (arrivals : List Arrival) → PastIn name last o → HaveNoneAfter name last arrivals → NoneIsTaken name o arrivals
none_from o name last [] past none = tt
none_from o name last (a ∷ arrivals) past none = (
  λ is. not_present (o.fingerprint == a.fingerprint) o.gap.micros (opening_in o.grain o.present a) a (finds_none o.grain name last o.present a past is (none.0 is)),
  none_from (openings_after o a) name last arrivals (past_after o name last a past none.0) none.1,
)

pub none_is_taken : (o : Openings) (p : Opening) (name : ℕ) (arrivals : List Arrival) → o.present ≡ Some p → p.name ≢ name → HaveNoneAfter name (p.proved.micros + o.grain) arrivals → NoneIsTaken name o arrivals
none_is_taken o p name arrivals is other none =
    let past : IsPast o.grain name (p.proved.micros + o.grain) (Some p) = (other, omega arith) in
    none_from o name (p.proved.micros + o.grain) arrivals (subst (λ (x : Option Opening). IsPast o.grain name (p.proved.micros + o.grain) x) (sym is) past) none

-- WHAT THE FORMER ONE HAD is no later
pub made_before : (clock : ℕ → ℕ) (sure made read stamp : ℕ) → GoesOn clock → sure ≤ clock made → made ≤ read → clock read ≡ stamp → sure ≤ stamp
made_before clock sure made read stamp onward passed order is = let later = onward made read order in omega (arith, later)

pub proved_by : (b : ClockBounds) (e : Bound) (now : ℕ) → e.at.micros ≤ now → e.reading.micros ≤ passed_by b e now + b.grain
proved_by b e now after = let says = later_says b e now after in omega (arith, says)
