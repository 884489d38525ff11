-- What a packet brings stands in the ledger of its flow.
use Rattle.std.proofs.Common.{ℕ, ◌+◌, ◌-◌, ◌≤◌, ◌<◌, false, length, arith}
use Rattle.dt_items.specs.Unread.{marked}
use Rattle.dt_units.specs.declared.parameters.Params.{Params}
use Rattle.dt_layout.specs.Spelling.{PacketValue, Data, Ack, Meet, Close}
use Rattle.dt_flow_model.specs.Facts.{FitsSome}
use Rattle.dt_flow_model.specs.Flow.{FlowState}
use Rattle.dt_flow_model.specs.Frames.{Mark, flow_in, marked_packet, value_in}
use Rattle.dt_flow_laws.proofs.Ledger.{first_within}
use Rattle.dt_world_model.specs.Relay.{Parcel}
use Rattle.dt_world_model.specs.World.{World, view}
use Rattle.dt_world_model.specs.WorldFacts.{IsCopy, IsPacket, WorldFacts}
use Rattle.dt_world_model.specs.WorldStep.{copy_at, items_with}
use Rattle.dt_world_laws.proofs.Worlds.{all_get}

module _ (p : Params) (s : FlowState) (m : Mark) where
  -- each place of a data packet has a first moment, and so is in the ledger; the others bring nothing
  brings : (v : PacketValue) → FitsSome p s (marked_packet m v) → m.place + length (items_with (marked_packet m v)) ≤ length s.taken
  brings (Data from_port to_port number drf begin end octets) fits =
      let n = length (marked octets begin end false) in
      let kind = fits.facts.kind_facts in
      let last = first_within s.taken (m.place + (n - 1)) kind.first (kind.firsts (n - 1) (omega (arith, kind.some))) in
      omega (arith, last, kind.some)
  brings (Ack from_port to_port number window) fits = omega (arith, fits.facts.in_ledger)
  brings (Meet from_port to_port number) fits = omega (arith, fits.facts.in_ledger)
  brings (Close from_port to_port number) fits = elim fits [ ]

pub packet_brings : (w : World) (parcel : Parcel Mark) → IsPacket w.params (view w) parcel → parcel.tag.place + length (items_with (marked_packet parcel.tag (value_in parcel.octets))) ≤ length (view w (flow_in parcel.octets)).taken
packet_brings w parcel is = brings w.params (view w (flow_in parcel.octets)) parcel.tag (value_in parcel.octets) is.fits

pub copy_brings : (w : World) (k : ℕ) → WorldFacts w → k < length w.copies → let parcel = (copy_at w k).parcel in parcel.tag.place + length (items_with (marked_packet parcel.tag (value_in parcel.octets))) ≤ length (view w (flow_in parcel.octets)).taken
copy_brings w k facts there =
    let is : IsCopy w.params w.now (view w) (copy_at w k) = all_get (IsCopy w.params w.now (view w)) w.copies k _ facts.copies there in
    packet_brings w (copy_at w k).parcel is.packet
