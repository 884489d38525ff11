-- What is known of a peer.
use Rattle.std.specs.Prelude.{◌≡◌, ℕ, Bool, true, false, max}
use Rattle.dt_watch.specs.declared.clocks.Clocks.{Clocks}
use Rattle.dt_watch.specs.declared.watches.Watch.{Watch}

-- the clocks of one of two openings
abbrev pub pick : Bool → Watch → Clocks
pick true w = w.second
pick false w = w.first

-- ONE OF THEM changes so, and nothing else does
abbrev pub Chosen : Bool → Watch → Watch → (Clocks → Clocks → Type 0) → Type 0
Chosen true w x changes = (x ≡ record w { second = x.second }) × changes w.second x.second
Chosen false w x changes = (x ≡ record w { first = x.first }) × changes w.first x.first

-- what is counted for stops that weren't seen
abbrev pub uncertain_of : Clocks → ℕ
uncertain_of c = max c.interval.widths.present c.interval.widths.former
