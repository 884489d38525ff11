-- Clocks that stand for a while.
use Rattle.std.proofs.Common.{◌≡◌, ◌+◌, ◌*◌, ◌≤◌, ◌∙◌, ℕ, ap, arith, inl, inr}
use Rattle.std.specs.Prelude.{◌-◌}
use Rattle.std.proofs.lemmas.Bool.{cases_lt}
use Rattle.dt_watch.specs.declared.clock_bounds.ClockBounds.{ClockBounds}
use Rattle.dt_watch.specs.declared.readings.Bound.{Bound}
use Rattle.dt_watch.specs.Ages.{age_of}
use Rattle.dt_watch.specs.Drift.{drift_over}
use Rattle.dt_watch.specs.Clocks.{GoTogether, HadNotPassed, HadPassed, WasHeard}
use Rattle.dt_watch.specs.Lower.{aged_down}
use Rattle.dt_watch.specs.Stops.{Came, RestsOn, unstopped}
use Rattle.dt_watch.specs.Upper.{aged_up}
use Rattle.dt_watch.proofs.Drifting.{drift_joined, drift_within}

-- what is sure rests on the stamp that was heard
pub rests_on : (b : ClockBounds) (clock stood other : ℕ → ℕ) (e : Bound) (heard : WasHeard clock other e) (t : ℕ) → GoTogether b (unstopped clock stood) other → heard.heard_at ≤ t → aged_down b e (other t) - b.grain + stood heard.read_at ≤ unstopped clock stood t
rests_on b clock stood other e heard t together after =
    let onward = together.onward heard.read_at heard.heard_at heard.order in
    let later = together.onward heard.heard_at t after in
    let least = together.least heard.heard_at t after in
    let same : drift_over b.drift (other t - other heard.heard_at) ≡ drift_over b.drift (other t - e.at.micros) = ap (λ (n : ℕ). drift_over b.drift (other t - n)) heard.at in
    omega (arith, onward, later, least, same, heard.at, heard.reading)

-- stops of the receiver's clock, from a datagram that came to a stamp that a later one rests on
pub receiver_stood : (b : ClockBounds) (clock stood other : ℕ → ℕ) (upper lower : Bound) (came read : ℕ) → GoTogether b (unstopped clock stood) other → Came clock other upper came → RestsOn clock stood other lower read → upper.at.micros ≤ lower.at.micros → stood read + lower.reading.micros ≤ stood came + (aged_up b upper lower.at.micros + b.grain)
receiver_stood b clock stood other upper lower came read together u l order =
    let onward = together.onward u.made came u.order in
    let same : drift_over b.drift (other l.moment - other u.made) ≡ drift_over b.drift (lower.at.micros - upper.at.micros) = ap (λ (n : ℕ). drift_over b.drift (n - other u.made)) l.at ∙ ap (λ (n : ℕ). drift_over b.drift (lower.at.micros - n)) u.at in
    elim (cases_lt l.moment u.made) [
      | inl sooner ↦
          let more = together.onward l.moment u.made (omega arith) in
          omega (arith, onward, more, u.reading, l.passed)
      | inr later ↦
          let most = together.most u.made l.moment later in
          omega (arith, onward, most, same, u.at, u.reading, l.at, l.passed)
    ]

-- stops of the sender's clock, from a lower bound to a later upper one
pub sender_stood : (b : ClockBounds) (clock other stood : ℕ → ℕ) (lower upper : Bound) (l : HadPassed clock other lower) (u : HadNotPassed clock other upper) → GoTogether b clock (unstopped other stood) → l.moment ≤ u.moment → lower.at.micros ≤ upper.at.micros → stood l.moment ≤ stood u.moment → aged_down b lower upper.at.micros + (stood u.moment - stood l.moment) ≤ upper.reading.micros + b.grain + drift_over b.drift (stood u.moment - stood l.moment)
sender_stood b clock other stood lower upper l u together order at_order stood_order =
    let x = upper.at.micros - lower.at.micros in
    let q = stood u.moment - stood l.moment in
    let least = together.least l.moment u.moment order in
    let span : unstopped other stood u.moment - unstopped other stood l.moment ≡ x + q = omega (arith, l.at, u.at) in
    let same : drift_over b.drift (unstopped other stood u.moment - unstopped other stood l.moment) ≡ drift_over b.drift (x + q) = ap (λ (n : ℕ). drift_over b.drift n) span in
    omega (arith, least, same, drift_joined b.drift x q, drift_within b.drift x b.slow, l.at, u.at, l.passed, u.not_passed)

-- where nothing rings, the receiver's clock stood no longer than the flights there and back
pub no_longer_than_flights : (b : ClockBounds) (clock stood other : ℕ → ℕ) (lower upper : Bound) (read came back forth : ℕ) (l : RestsOn clock stood other lower read) (u : Came clock other upper came) → GoTogether b (unstopped clock stood) other → l.moment ≤ u.made → unstopped clock stood l.moment ≤ lower.reading.micros + stood read + back → unstopped clock stood came ≤ unstopped clock stood u.made + forth → aged_down b lower upper.at.micros ≤ upper.reading.micros + 2 * b.grain → stood came ≤ stood read + back + forth + 2 * drift_over b.drift (upper.at.micros - lower.at.micros) + 3 * b.grain
no_longer_than_flights b clock stood other lower upper read came back forth l u together order slack flight quiet =
    let most = together.most l.moment u.made order in
    let onward = together.other_onward l.moment u.made order in
    let same : drift_over b.drift (other u.made - other l.moment) ≡ drift_over b.drift (upper.at.micros - lower.at.micros) = ap (λ (n : ℕ). drift_over b.drift (n - other l.moment)) u.at ∙ ap (λ (n : ℕ). drift_over b.drift (upper.at.micros - n)) l.at in
    omega (arith, most, onward, same, l.at, u.at, u.reading)

-- the true age, where stops since the stamp was read are no longer than what is counted for them
pub age_over_stops : (clock stood : ℕ → ℕ) (sure read made came uncertain : ℕ) → sure + stood read ≤ unstopped clock stood made → sure ≤ clock came → stood came ≤ stood read + uncertain → unstopped clock stood came - unstopped clock stood made ≤ age_of (clock came) sure uncertain
age_over_stops clock stood sure read made came uncertain passed later stops = omega arith
