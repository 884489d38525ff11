-- Packets of a flow as frames, and which flow a frame is of. A frame that a host makes has the life `mpl`. Data of up to 1,024 octets goes in version 1 of the layout, longer data in version 2: `carrying` takes the one version that a packet has.
use Rattle.std.specs.Prelude.{ℕ, Bool, false, List, Option, Some, None}
use Rattle.dt_items.specs.declared.item.Item.{Item}
use Rattle.dt_items.specs.Unread.{marked, octets_of}
use Rattle.dt_units.specs.declared.parameters.Params.{Params}
use Rattle.dt_units.specs.declared.endpoints.Flow.{Flow}
use Rattle.dt_units.specs.declared.endpoints.NodeId.{NodeId}
use Rattle.dt_layout.specs.Spelling.{PacketValue, Data, Ack, Meet, Close, carrying, gram_spelling}
use Rattle.dt_layout.specs.Reading.{gram_in, packet_in}
use Rattle.dt_flow_model.specs.Numbering.{number_of}
use Rattle.dt_flow_model.specs.SendRecord.{SendRecord, begins, ends, leads, next_of}
use Rattle.dt_flow_model.specs.SendActs.{Act, give_up, release, renew, resend, send, meet}
use Rattle.dt_flow_model.specs.Flow.{Kind, Packet}
use Rattle.dt_flow_model.specs.Flow as flows
use Rattle.dt_flow_model.specs.declared.acts.RecvAct.{RecvAct}
use Rattle.dt_flow_model.specs.declared.acts.RecvAct.TheVariants as recv
use Rattle.dt_flow_model.specs.declared.arrivals.Arrived.{Arrived}
use Rattle.dt_flow_model.specs.declared.arrivals.Arrived.TheVariants as arrived

abbrev pub node : ℕ → NodeId
node n = record { 0 = n }

abbrev pub flow_between : ℕ → ℕ → ℕ → ℕ → Flow
flow_between from from_port to to_port = record { from = node from; from_port = from_port; to = node to; to_port = to_port }

-- packets of a flow. Acknowledgements go the way back
abbrev pub data_packet : Flow → ℕ → Bool → List Item → PacketValue
data_packet f number drf items = Data f.from_port f.to_port number drf (begins items) (ends items) (octets_of items)

abbrev pub ack_packet : Flow → ℕ → ℕ → PacketValue
ack_packet f number window = Ack f.to_port f.from_port number window

abbrev pub meet_packet : Flow → ℕ → PacketValue
meet_packet f number = Meet f.from_port f.to_port number

-- the frame of a packet that goes the way of its flow, and of one that goes the way back
abbrev pub forth : Params → Flow → PacketValue → List ℕ
forth p f v = gram_spelling (carrying p.mpl f.from.0 f.to.0 v)

abbrev pub back : Params → Flow → PacketValue → List ℕ
back p f v = gram_spelling (carrying p.mpl f.to.0 f.from.0 v)

-- the frame that an act of a send record makes
abbrev pub frame_of_act : Params → Flow → SendRecord → Act → Option (List ℕ)
frame_of_act p f x (give_up g rest) = None
frame_of_act p f x release = None
frame_of_act p f x renew = None
frame_of_act p f x (resend before g after) = Some (forth p f (data_packet f (number_of p g.offset) (leads x g.offset) g.items))
frame_of_act p f x (send cut rest) = Some (forth p f (data_packet f (number_of p (next_of x)) (leads x (next_of x)) cut))
frame_of_act p f x meet = Some (forth p f (meet_packet f (number_of p x.left)))

-- the frame that an act of a receive record makes, and the one that replies to a packet
abbrev pub recv_frame : Params → Flow → RecvAct → Option (List ℕ)
recv_frame p f recv.Released = None
recv_frame p f (recv.Acked number window) = Some (back p f (ack_packet f number window))

abbrev pub reply_frame : Params → Flow → Arrived → Option (List ℕ)
reply_frame p f (arrived.Quiet until) = None
reply_frame p f (arrived.Accepted run count) = None
reply_frame p f (arrived.Replied number window) = Some (back p f (ack_packet f number window))
reply_frame p f arrived.Dropped = None
reply_frame p f (arrived.Acked count) = None
reply_frame p f (arrived.Closing number) = None

-- the flow that a packet between two nodes is of: a closing packet goes the way of the data
abbrev pub flow_of : ℕ → ℕ → PacketValue → Flow
flow_of from to (Data from_port to_port number drf begin end octets) = flow_between from from_port to to_port
flow_of from to (Ack from_port to_port number window) = flow_between to to_port from from_port
flow_of from to (Meet from_port to_port number) = flow_between from from_port to to_port
flow_of from to (Close from_port to_port number) = flow_between from from_port to to_port

abbrev pub number_in : PacketValue → ℕ
number_in (Data from_port to_port number drf begin end octets) = number
number_in (Ack from_port to_port number window) = number
number_in (Meet from_port to_port number) = number
number_in (Close from_port to_port number) = number

-- what nobody on the wire sees of a packet: the moment when it was made, and its place
pub record Mark : Type 0 where
  pub birth : ℕ
  pub place : ℕ

-- A packet as the laws of its flow see it, a data packet with its octets and their marks. A closing packet is none: no host makes one, and one that comes changes nothing.
abbrev pub flow_packet : Mark → Kind → ℕ → Packet
flow_packet m kind number = record { kind = kind; number = number; birth = m.birth; place = m.place }

abbrev pub marked_packet : Mark → PacketValue → Option Packet
marked_packet m (Data from_port to_port number drf begin end octets) = Some (flow_packet m (flows.Data drf (marked octets begin end false)) number)
marked_packet m (Ack from_port to_port number window) = Some (flow_packet m (flows.Ack window) number)
marked_packet m (Meet from_port to_port number) = Some (flow_packet m flows.Meet number)
marked_packet m (Close from_port to_port number) = None

-- the flow and the packet in a frame
abbrev pub flow_in : List ℕ → Flow
flow_in bytes = let d = gram_in bytes in flow_of d.from d.to (packet_in d.body)

abbrev pub value_in : List ℕ → PacketValue
value_in bytes = packet_in (gram_in bytes).body
