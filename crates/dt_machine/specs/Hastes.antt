-- How soon datagrams come, and whether it pays to look for them before they are waited for.
use Rattle.std.specs.Prelude.{ℕ, ◌+◌, ◌*◌, ◌/◌, Bool, nat_lt, min, cond}
use Rattle.dt_machine.specs.declared.hastes.Haste.{Haste}

-- before any datagram: looks in vain weigh 3
abbrev pub first_haste : Haste
first_haste = record { soon = 0; vain = 3; wait = 50000 }

-- looks are tried where more datagrams running came soon than the looks in vain weigh
abbrev pub is_brisk : Haste → Bool
is_brisk h = nat_lt h.vain h.soon

-- the last wait brought a datagram that came soon
abbrev pub came_soon : Haste → Bool
came_soon h = nat_lt 0 h.soon

-- after looks in vain: they weigh twice as much and one more, 1,023 at most, and no datagram came soon
abbrev pub missed : Haste → Haste
missed h = record { soon = 0; vain = min (h.vain * 2 + 1) 1023; wait = 50000 }

-- After looks that found something so many nanoseconds after the take's begin: those in vain weigh half as
-- much, where no wait before was shorter. Else they were in vain.
abbrev pub met : ℕ → Haste → Haste
met took h = cond (nat_lt h.wait took) (missed h) (record { soon = h.soon; vain = h.vain / 2; wait = h.wait })

-- after a wait that no datagram ended
abbrev pub rested : Haste → Haste
rested h = record { soon = 0; vain = h.vain; wait = 50000 }

-- After a wait that a datagram ended so many nanoseconds after the take's begin: one more came soon, if that
-- was at most 50 microseconds.
abbrev pub waited : ℕ → Haste → Haste
waited took h = cond (nat_lt 50000 took) (rested h) (record { soon = min (h.soon + 1) 65535; vain = h.vain; wait = min h.wait took })
