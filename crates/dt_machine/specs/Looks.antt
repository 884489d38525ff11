-- What a look into a socket finds.
use Rattle.std.specs.Prelude.{ℕ, ◌≤◌, ⊤, Bool, false, true}
use Rattle.dt_machine.specs.declared.sockets.Look.{Look}
use Rattle.dt_machine.specs.declared.sockets.Look.TheVariants.{Datagram, Other, Empty, Failed}

-- a datagram that was found has at most so many octets in the buffer
abbrev pub IsLook : ℕ → Look → Type 0
IsLook room (Datagram from count) = count ≤ room
IsLook room Other = ⊤
IsLook room Empty = ⊤
IsLook room Failed = ⊤

-- the socket was empty
abbrev pub is_empty_look : Look → Bool
is_empty_look (Datagram from count) = false
is_empty_look Other = false
is_empty_look Empty = true
is_empty_look Failed = false

-- something was taken out of the socket, or a signal came
abbrev pub is_something : Look → Bool
is_something (Datagram from count) = true
is_something Other = true
is_something Empty = false
is_something Failed = false
