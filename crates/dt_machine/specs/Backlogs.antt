-- Datagrams that were taken out of a socket and not yet handed over.
use Rattle.std.specs.Prelude.{ℕ, ◌+◌, ◌≤◌, ◌≡◌, ◌&&◌, Bool, nat_lt, nat_le, min, List, [], ◌∷◌, ◌++◌, length, take, slice_range}
use Rattle.dt_machine.specs.declared.backlogs.ReceivedDatagram.{ReceivedDatagram}
use Rattle.dt_machine.specs.declared.backlogs.Place.{Place}

-- a datagram that waits
pub record Waiting : Type 0 where
  pub link : ℕ
  pub octets : List ℕ
  -- when its socket was last found empty before it was found, in nanoseconds
  pub empty : ℕ

-- the datagram at this place
abbrev pub waiting_at : List ℕ → Place → Waiting
waiting_at octets place = record { link = place.link; octets = slice_range octets place.start place.end; empty = place.empty }

-- the place is one of a link, within so many octets
pub record IsPlace (len : ℕ) (place : Place) : Type 0 where
  pub link : place.link ≤ 255
  pub ordered : place.start ≤ place.end
  pub within : place.end ≤ len

-- datagrams that wait, and how much of the room is used: places for datagrams, and octets
pub record Backlogged : Type 0 where
  pub waiting : List Waiting
  pub places : ℕ
  pub octets : ℕ

-- none waits, and all of the room is free
abbrev pub nothing : Backlogged
nothing = record { waiting = []; places = 0; octets = 0 }

-- whether there is room for one more datagram, of so many octets: 512 have it, with 262,144 octets in all
abbrev pub has_room : ℕ → Backlogged → Bool
has_room octets b = nat_lt b.places 512 && nat_le (b.octets + octets) 262144

-- one more waits after the others
abbrev pub kept : Waiting → Backlogged → Backlogged
kept w b = record { waiting = b.waiting ++ w ∷ []; places = b.places + 1; octets = b.octets + length w.octets }

-- Of those that wait the first one is handed over: its first octets, as many as the buffer had room for,
-- now stand first in it.
pub record HandsOver (arrival : ReceivedDatagram) (room : ℕ) (buf : List ℕ) (before after : List Waiting) : Type 0 where
  pub first : Waiting
  pub waited : before ≡ first ∷ after
  pub link : arrival.link ≡ first.link
  pub empty : arrival.empty ≡ first.empty
  pub count : arrival.count ≡ min (length first.octets) room
  pub octets : take arrival.count buf ≡ take arrival.count first.octets
