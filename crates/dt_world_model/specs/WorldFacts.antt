-- The facts of a world: those of each flow, and of each packet that waits or that was put on a link.
use Rattle.std.specs.Prelude.{ℕ, ◌+◌, ◌-◌, ◌≤◌, ◌≡◌, ◌==◌, Some, List, [], ◌∷◌, All}
use Rattle.dt_units.specs.declared.parameters.Params.{Params}
use Rattle.dt_units.specs.declared.endpoints.Flow.{Flow}
use Rattle.dt_layout.specs.Carried.{IsGram, life_of}
use Rattle.dt_layout.specs.Spelling.{Carries}
use Rattle.dt_layout.specs.Reading.{gram_in}
use Rattle.dt_flow_model.specs.Carried.{Carried, Waits, Flies}
use Rattle.dt_flow_model.specs.Facts.{Facts, FitsSome}
use Rattle.dt_flow_model.specs.Safe.{Safe, SafeLedger}
use Rattle.dt_flow_model.specs.Flow.{FlowState}
use Rattle.dt_flow_model.specs.Steps.{HasTransmitted}
use Rattle.dt_flow_model.specs.Frames.{Mark, marked_packet, value_in, flow_in}
use Rattle.dt_units.specs.Flows.{IsFlow}
use Rattle.dt_world_model.specs.Tables.{AllEntries, look}
use Rattle.dt_world_model.specs.Host.{IsHost}
use Rattle.dt_world_model.specs.Relay.{Parcel, Waiting, Out, charge_of}
use Rattle.dt_world_model.specs.World.{Placed, Copy, World, placed, view}
use Rattle.dt_world_model.specs.Ledgers.{Ledgers, ledger_of}
use Rattle.dt_world_model.specs.Station.{Event, Send, Read, Tick, Arrive}
use Rattle.dt_world_model.specs.WorldStep.{WorldEvent, Passes, Sends, Reads, Ticks, Arrives, Loses, Restarts, link_in}

-- A parcel of the world carries a packet of a flow, and what holds of the flow's packets holds of it. The flows are given by their states. No parcel carries a closing packet.
pub record IsPacket (p : Params) (views : Flow → FlowState) (parcel : Parcel Mark) : Type 0 where
  pub gram : IsGram parcel.octets
  pub carries : Carries (gram_in parcel.octets) (value_in parcel.octets)
  pub fits : FitsSome p (views (flow_in parcel.octets)) (marked_packet parcel.tag (value_in parcel.octets))

abbrev pub carried_of : Parcel Mark → ℕ → Carried
carried_of parcel since = record { birth = parcel.tag.birth; life = life_of parcel.octets; since = since }

-- A packet that waits. The moment since when it waits is a reading of its station's clock.
pub record IsWaiting (p : Params) (now zero : ℕ) (views : Flow → FlowState) (w : Waiting Mark) : Type 0 where
  pub since : ℕ
  pub reading : since + zero ≡ w.since
  pub age : Waits p.mpl now (carried_of w.parcel since)
  pub packet : IsPacket p views w.parcel

-- a copy on a link
pub record IsCopy (p : Params) (now : ℕ) (views : Flow → FlowState) (c : Copy) : Type 0 where
  pub age : Flies p.mpl now (carried_of c.parcel c.put)
  pub packet : IsPacket p views c.parcel

-- what holds of each packet that waits on some link
abbrev pub AllOuts : (Waiting Mark → Type 0) → List (Out Mark) → Type 0
AllOuts P [] = Unit {0}
AllOuts P (out ∷ outs) = All P out.waits × AllOuts P outs

pub record IsPlaced (p : Params) (now : ℕ) (views : Flow → FlowState) (n : ℕ) (at : Placed) : Type 0 where
  pub me : at.station.host.me ≡ n
  pub host : IsHost p at.station.host
  pub waiting : AllOuts (IsWaiting p now at.zero views) at.station.relay.outs
  -- each send record in which octets wait has transmitted: a record does so in the event that makes or renews it
  pub transmitted : AllEntries (λ f x. HasTransmitted (Some x)) at.station.host.senders

pub record WorldFacts (w : World) : Type 0 where
  pub flows : (f : Flow) → Facts w.params (view w f)
  pub copies : All (IsCopy w.params w.now (view w)) w.copies
  pub stations : AllEntries (IsPlaced w.params w.now (view w)) w.stations
  -- a station charges what arrives on a link with the link's charge
  pub charges : (link : ℕ) (at : Placed) → look ◌==◌ (link_in link w.links).to w.stations ≡ Some at → charge_of link at.station.relay.ins ≡ (link_in link w.links).charge

-- the numbers of an event's flow are in their ranges
abbrev pub CanHappen : WorldEvent → Type 0
CanHappen (Passes by) = Unit {0}
CanHappen (Sends f octets begin end) = IsFlow f
CanHappen (Reads f most) = IsFlow f
CanHappen (Ticks station) = Unit {0}
CanHappen (Arrives copy) = Unit {0}
CanHappen (Loses copy) = Unit {0}
CanHappen (Restarts station) = Unit {0}

-- What an event of a station needs: a send is of a flow that begins here, a read of one that ends here, and an arrival is of a copy that was on its link no longer than the link's charge.
pub record CanCome (w : World) (n link : ℕ) (parcel : Parcel Mark) : Type 0 where
  pub put : ℕ
  pub age : Flies w.params.mpl w.now (carried_of parcel put)
  pub packet : IsPacket w.params (view w) parcel
  pub held : w.now - put ≤ charge_of link (placed w n).station.relay.ins

abbrev pub IsPossible : World → ℕ → Event Mark → Type 0
IsPossible w n (Send f octets begin end) = IsFlow f × (f.from.0 ≡ n)
IsPossible w n (Read f most) = IsFlow f × (f.to.0 ≡ n)
IsPossible w n Tick = Unit {0}
IsPossible w n (Arrive link parcel) = CanCome w n link parcel

-- THE PROMISE: each flow of the world is safe.
abbrev pub SafeWorld : World → Type 0
SafeWorld w = (f : Flow) → Safe (view w f)

-- What of it speaks of ledgers and lives alone holds also while an event is played, with the ledgers as they stand then.
abbrev pub SafeLedgers : World → Ledgers → Type 0
SafeLedgers w all = (f : Flow) → SafeLedger (view w f).sender_life (ledger_of all f).taken (ledger_of all f).given (ledger_of all f).reads
