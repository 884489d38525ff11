use Rattle.std.proofs.Common.{take}
use Rattle.dt_relay.specs.Places.{TellsPlaces}
use Rattle.dt_relay.proofs.first_places.places_in.Given as goal

abbrev pub invariant-loop-i : goal.invariant-loop-i
invariant-loop-i g l = TellsPlaces g.T.Keyed.key (take l.i l.list) l.places
