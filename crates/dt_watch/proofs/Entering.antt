-- What is under way.
use Rattle.std.proofs.Common.{◌+◌, ◌≤◌, ℕ, arith, inl, inr}
use Rattle.std.specs.Prelude.{max}
use Rattle.dt_watch.specs.declared.windows.Window.{Window}
use Rattle.dt_watch.specs.Windows.{MayEnter, Runs, enters, settles, starts}

pub window_or_one : (w : Window) (under_way octets : ℕ) → MayEnter w under_way octets → under_way + octets ≤ max w.octets octets
window_or_one w under_way octets (inl fits) = omega arith
window_or_one w under_way octets (inr none) = omega arith

pub runs_within : (most longest under_way : ℕ) → Runs most longest under_way → under_way ≤ max most longest
runs_within most longest under_way starts = omega arith
runs_within most longest under_way (enters {under_way = before} w octets wide long may run) = let one = window_or_one w before octets may in omega (arith, one, w.within)
runs_within most longest under_way (settles {under_way = before} left less run) = let within = runs_within most longest before run in omega (arith, within)
