-- The order of deadlines: by moment, ties by the lesser place. No deadline comes after any.
use Rattle.std.specs.Prelude.{◌≡◌, ◌<◌, ◌≤◌, ◌⊎◌, ◌==◌, ◌&&◌, ◌||◌, Bool, false, true, nat_lt, if◌then◌else◌, Option, Some, None}
use Rattle.dt_timers.specs.declared.deadline.Deadline.{Deadline}

abbrev pub goes_first : Deadline → Deadline → Bool
goes_first d e = nat_lt d.moment e.moment || ((d.moment == e.moment) && nat_lt d.place e.place)

-- whether one of two, of which each may be none, comes first
abbrev pub goes_before : Option Deadline → Option Deadline → Bool
goes_before None d = false
goes_before (Some e) None = true
goes_before (Some e) (Some d) = goes_first e d

abbrev pub sooner_of : Option Deadline → Option Deadline → Option Deadline
sooner_of None e = e
sooner_of (Some d) None = Some d
sooner_of (Some d) (Some e) = if goes_first e d then Some e else Some d

-- A deadline isn't after another.
abbrev pub IsNoLater : Deadline → Deadline → Type 0
IsNoLater d e = (d.moment < e.moment) ⊎ ((d.moment ≡ e.moment) × (d.place ≤ e.place))

abbrev pub IsBy : Option Deadline → Option Deadline → Type 0
IsBy d None = Unit {0}
IsBy None (Some e) = ⊥
IsBy (Some d) (Some e) = IsNoLater d e
