-- What is due at a moment: of a relay a packet that leaves, of a station an act of its host or such a packet.
use Rattle.std.specs.Prelude.{ℕ, List, [], ◌∷◌, Option, None, Some}
use Rattle.dt_units.specs.declared.parameters.Params.{Params}
use Rattle.dt_world_model.specs.Host.{Turn, next_turn}
use Rattle.dt_world_model.specs.Relay.{Left, Out, leave}
use Rattle.dt_world_model.specs.Station.{Station}

-- what leaves the first link, in the order of the links, on which something leaves
abbrev pub or_later : {T : Type 0} → Option (Left T) → Option (Left T) → Option (Left T)
or_later (Some left) later = Some left
or_later None later = later

abbrev pub leaves_at : {T : Type 0} → ℕ → List (Out T) → Option (Left T)
leaves_at now [] = None
leaves_at now (out ∷ outs) = or_later (leave now out).0 (leaves_at now outs)

pub data Due (T : Type 0) : Type 0 where
  Acts : Turn → Due T
  Leaves : Left T → Due T

abbrev pub due_of : {T : Type 0} → Option Turn → Option (Left T) → Option (Due T)
due_of (Some turn) left = Some (Acts turn)
due_of None (Some left) = Some (Leaves left)
due_of None None = None

abbrev pub due_at : {T : Type 0} → Params → ℕ → Station T → Option (Due T)
due_at p now station = due_of (next_turn p now station.host) (leaves_at now station.relay.outs)
