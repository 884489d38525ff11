-- How much may be under way to one peer.
use Rattle.std.specs.Prelude.{◌≡◌, ℕ, ◌+◌, ◌*◌, ◌-◌, ◌/◌, ◌≤◌, ◌⊎◌, Bool, max, min, if◌then◌else◌}
use Rattle.dt_watch.specs.declared.windows.Window.{Window}

-- LARGER: by half, or by a 64th or eight segments
abbrev pub step_of : Window → Bool → ℕ
step_of w fast = if fast then w.octets / 2 else min (max (w.octets / 64) (8 * w.segment)) (w.octets / 2)

abbrev pub larger : Window → Bool → ℕ
larger w fast = min w.most (w.octets + step_of w fast)

-- SMALLER: by thousandths, half of it at most
abbrev pub smaller : Window → ℕ → ℕ
smaller w thousandths = max (w.octets - w.octets * min thousandths 500 / 1000) (8 * w.segment)

-- a message may be handed in: it fits beside what is under way, or nothing is under way
abbrev pub MayEnter : Window → ℕ → ℕ → Type 0
MayEnter w under_way octets = (under_way + octets ≤ w.octets) ⊎ (under_way ≡ 0)

-- WHAT IS UNDER WAY, from no octets on: messages enter where they may, by the window of then, and what is under way is settled
pub data Runs (most longest : ℕ) : ℕ → Type 0 where
  starts : Runs most longest 0
  enters : {under_way : ℕ} (w : Window) (octets : ℕ) → w.most ≤ most → octets ≤ longest → MayEnter w under_way octets → Runs most longest under_way → Runs most longest (under_way + octets)
  settles : {under_way : ℕ} (left : ℕ) → left ≤ under_way → Runs most longest under_way → Runs most longest left
