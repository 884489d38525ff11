-- Clocks that keep their rates go together.
use Rattle.std.proofs.Common.{◌≡◌, ◌+◌, ◌*◌, ◌≤◌, ◌<◌, ℕ, ap, arith, inl, inr}
use Rattle.std.specs.Prelude.{◌-◌, ◌/◌}
use Rattle.std.proofs.Math.Nat.{le_of_mul-le-mul_left, mul-le-mul_left, mul-le-mul_right}
use Rattle.std.proofs.lemmas.Bool.{cases_lt}
use Rattle.dt_watch.specs.declared.clock_bounds.ClockBounds.{ClockBounds}
use Rattle.dt_watch.specs.Clocks.{GoTogether, KeepsRate}
use Rattle.dt_watch.specs.Drift.{drift_over}

-- a span of one clock and a span of another, over the same true span
across : (m d one other span step : ℕ) → 0 < m → (m + d) * one ≤ (m + d + d) * span + (m + d) * step → m * span ≤ (m + d) * other + (m + d) * step → m * one ≤ (m + d + d) * other + 2 * (m + d) * step
across m d one other span step some fast slow =
    let a = mul-le-mul_left m fast in
    let b = mul-le-mul_left (m + d + d) slow in
    let whole : (m + d) * (m * one) ≤ (m + d) * ((m + d + d) * other + 2 * (m + d) * step) = omega (arith, a, b) in
    le_of_mul-le-mul_left whole (omega arith)

-- so one is no longer than the other with the drift over it
no_longer : (m d one other drift step : ℕ) → 0 < m → m * one ≤ (m + d + d) * other + 2 * (m + d) * step → 2 * d * one ≤ (m + d) * drift → one ≤ other + (drift + 3 * step)
no_longer m d one other drift step some across over =
    elim (cases_lt (other + (drift + 3 * step)) one) [
      | inl more ↦
          let times = mul-le-mul_left (m + d + d) more in
          absurd (omega (arith, times, across, over))
      | inr less ↦ less
    ]

-- nor with the drift over the other, where that counts one part more
no_longer_over : (m d one other drift step : ℕ) → 2 * d ≤ m → d < m → m * one ≤ (m + d + d) * other + 2 * (m + d) * step → 2 * d * other + 2 * other ≤ (m + d) * drift → d * drift ≤ 2 * other + d → one ≤ other + (drift + 3 * step)
no_longer_over m d one other drift step wide below across over under =
    elim (cases_lt (other + (drift + 3 * step)) one) [
      | inl more ↦
          let times = mul-le-mul_left m more in
          let steps = mul-le-mul_right step wide in
          absurd (omega (arith, times, steps, across, over, under))
      | inr less ↦ less
    ]

drift_covers : (d drift span : ℕ) → d + 1 ≤ drift → 2 * d * span + 2 * span ≤ 1000000 * drift_over drift span
unfolding drift_over
drift_covers d drift span more = let parts = mul-le-mul_right span more in omega (arith, parts)

drift_under : (d span : ℕ) → d < 1000 → d * drift_over (d + 1) span ≤ 2 * span + d
unfolding drift_over
drift_under d span small =
    let parts : 1000000 * ((2 * (d + 1) * span + 999999) / 1000000) ≤ 2 * (d + 1) * span + 999999 = omega arith in
    let times = mul-le-mul_left d parts in
    let square : d * (d + 1) ≤ 999 * (d + 1) = mul-le-mul_right (d + 1) (omega arith) in
    let least : d * (d + 1) ≤ 999000 = omega (arith, square) in
    let spans = mul-le-mul_right span least in
    omega (arith, times, spans)

drift_more : (d drift span : ℕ) → d ≤ drift → drift_over d span ≤ drift_over drift span
unfolding drift_over
drift_more d drift span more = let parts = mul-le-mul_right span more in omega (arith, parts)

crossed : (m d one other span step : ℕ) → m + d ≡ 1000000 → 0 < m → 1000000 * one ≤ (1000000 + d) * span + 1000000 * step → m * span ≤ 1000000 * other + 1000000 * step → m * one ≤ (m + d + d) * other + 2 * (m + d) * step
crossed m d one other span step whole some fast slow =
    let one_is = ap (λ (n : ℕ). n * one) whole in
    let span_is = ap (λ (n : ℕ). n * span) whole in
    let step_is = ap (λ (n : ℕ). n * step) whole in
    let other_is = ap (λ (n : ℕ). n * other) whole in
    across m d one other span step some (omega (arith, fast, one_is, span_is, step_is)) (omega (arith, slow, other_is, step_is))

least_by : (m d one other span step drift : ℕ) → m + d ≡ 1000000 → 0 < m → 1000000 * one ≤ (1000000 + d) * span + 1000000 * step → m * span ≤ 1000000 * other + 1000000 * step → 2 * d * one ≤ 1000000 * drift → one ≤ other + (drift + 3 * step)
least_by m d one other span step drift whole some fast slow over =
    let drift_is = ap (λ (n : ℕ). n * drift) whole in
    no_longer m d one other drift step some (crossed m d one other span step whole some fast slow) (omega (arith, over, drift_is))

most_by : (m d one other span step drift : ℕ) → m + d ≡ 1000000 → d < 1000 → 1000000 * one ≤ (1000000 + d) * span + 1000000 * step → m * span ≤ 1000000 * other + 1000000 * step → 2 * d * other + 2 * other ≤ 1000000 * drift → d * drift ≤ 2 * other + d → one ≤ other + (drift + 3 * step)
most_by m d one other span step drift whole small fast slow over under =
    let drift_is = ap (λ (n : ℕ). n * drift) whole in
    no_longer_over m d one other drift step (omega arith) (omega arith) (crossed m d one other span step whole (omega arith) fast slow) (omega (arith, over, drift_is)) under

pub keep_together : (b : ClockBounds) (d step : ℕ) (clock other : ℕ → ℕ) → d < 1000 → d + 1 ≤ b.drift → 3 * step ≤ b.grain → KeepsRate d step clock → KeepsRate d step other → GoTogether b clock other
keep_together b d step clock other small drift grain c o = record {
  onward = c.onward;
  other_onward = o.onward;
  least = λ t u order.
      let one = other u - other t in
      let covers = drift_covers d b.drift one drift in
      let fact = least_by (1000000 - d) d one (clock u - clock t) (u - t) step (drift_over b.drift one) (omega arith) (omega arith) (o.fast t u order) (c.slow t u order) (omega (arith, covers)) in
      let on = c.onward t u order in
      let other_on = o.onward t u order in
      omega (arith, fact, on, other_on, grain);
  most = λ t u order.
      let one = other u - other t in
      let covers = drift_covers d (d + 1) one (omega arith) in
      let fact = most_by (1000000 - d) d (clock u - clock t) one (u - t) step (drift_over (d + 1) one) (omega arith) small (c.fast t u order) (o.slow t u order) covers (drift_under d one small) in
      let more = drift_more (d + 1) b.drift one drift in
      let on = c.onward t u order in
      let other_on = o.onward t u order in
      omega (arith, fact, more, on, other_on, grain);
}
