-- Packets of any kind as values: what a kind of packets tells of its octets and of its tag is all that a relay's value has.
use Rattle.std.specs.Prelude.{ℕ, List, Option, Some, None}
use Rattle.dt_layout.specs.Carried.{IsGram}
use Rattle.dt_world_model.specs.Relay.{Parcel, Waiting as WaitingParcel, Left as LeftParcel, Goes, Expired as ExpiredParcel}
use Rattle.dt_relay.specs.declared.queues.Waiting.{Waiting}
use Rattle.dt_relay.specs.declared.queues.Left.{Left}
use Rattle.dt_relay.specs.declared.queues.Left.TheVariants as left

module _ {P T : Type 0} (octets : P → List ℕ) (label : P → T) where
  abbrev pub parcel_seen : P → Parcel T
  parcel_seen p = record { octets = octets p; tag = label p }

  -- what came of the first that waited
  abbrev pub left_seen : Option (Left P) → Option (LeftParcel T)
  left_seen None = None
  left_seen (Some (left.Out p)) = Some (Goes (parcel_seen p))
  left_seen (Some left.Expired) = Some ExpiredParcel

abbrev pub waiting_seen : {T : Type 0} → Waiting T → WaitingParcel T
waiting_seen w = record { parcel = record { octets = w.octets.items; tag = w.tag }; since = w.since }

-- the octets of a packet that waits read as a Deltagram
abbrev pub WaitsAsGram : {T : Type 0} → Waiting T → Type 0
WaitsAsGram w = IsGram w.octets.items

-- what holds of a packet that left
abbrev pub IfOut : {P : Type 0} → Option (Left P) → (P → Type 0) → Type 0
IfOut None f = Unit {0}
IfOut (Some (left.Out p)) f = f p
IfOut (Some left.Expired) f = Unit {0}
