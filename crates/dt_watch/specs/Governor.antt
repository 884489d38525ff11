-- By how much a window grows or shrinks.
use Rattle.std.specs.Prelude.{ℕ, ◌+◌, ◌*◌, ◌-◌, ◌/◌, max, min}
use Rattle.dt_watch.specs.declared.routes.Route.{Route}

-- the longest delay in queues that is ever aimed at
abbrev pub ceiling_of : Route → ℕ
ceiling_of r = max (min ((r.budget - r.base) / 2) (3 * r.resend / 4 - r.base)) 500

-- THE AIM
abbrev pub aim_of : Route → ℕ
aim_of r = min (max (r.base / 4) 2000) (ceiling_of r)

-- THE CUT, in thousandths
abbrev pub cut_of : ℕ → ℕ → ℕ → ℕ
cut_of queue base aim = min (max (800 * (queue - aim) / (queue + base)) 80) 500
