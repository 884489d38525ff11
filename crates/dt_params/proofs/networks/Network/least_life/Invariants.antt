use Rattle.std.proofs.Common.{◌≤◌, ◌<◌, ◌+◌, ℕ}
use Rattle.dt_params.specs.Networks.{life_of}
use Rattle.dt_params.proofs.networks.Network.least_life.Given as goal

abbrev pub invariant-loop-step : goal.invariant-loop-step
invariant-loop-step l = (2 ≤ l.mpl) × (l.mpl ≤ 86400000) × (l._step + 2 ≤ l.mpl) × ((m : ℕ) → 2 ≤ m → m < l.mpl → m < life_of l.self m)
