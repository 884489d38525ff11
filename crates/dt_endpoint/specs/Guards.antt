-- A guard against strangers: at which ports a node receives, and of how many flows at most. What it keeps out is a datagram that never came: a loss, and nothing else.
use Rattle.std.specs.Prelude.{ℕ, ◌==◌, ◌^◌, ◌&&◌, ◌-◌, nat_le, not, Bool, true, List, length, Option, Some, None, Result, Ok, Err, if◌then◌else◌}
use Rattle.std.specs.List.{list_any}
use Rattle.dt_units.specs.declared.endpoints.Flow.{Flow}
use Rattle.dt_layout.specs.declared.faults.LayoutFault.{LayoutFault}
use Rattle.dt_layout.specs.Reading.{gram_read, packet_read}
use Rattle.dt_layout.specs.Spelling.{Ack, Close, Data, DeltagramValue, Meet, PacketValue}
use Rattle.dt_flow_model.specs.Frames.{flow_of}
use Rattle.dt_world_model.specs.Host.{Host}
use Rattle.dt_world_model.specs.Tables.{has_key, same_flow}
use Rattle.dt_endpoint.specs.Counts.{counted}
use Rattle.dt_endpoint.specs.declared.guards.Admission.{Admission}
use Rattle.dt_endpoint.specs.declared.guards.Admission.TheVariants.{Admitted, ClosedPort, TooManyFlows}

pub record GuardValue : Type 0 where
  -- the ports that are open; all of them where there is no list
  pub ports : Option (List ℕ)
  -- of so many flows it receives at most
  pub most : ℕ
  -- how many datagrams were kept out, up to 2^64 - 1 each: for a port that isn't open, and for one flow too many
  pub closed : ℕ
  pub crowded : ℕ

-- one that keeps nothing out
abbrev pub open_guard : GuardValue
open_guard = record { ports = None; most = 2 ^ 32 - 1; closed = 0; crowded = 0 }

abbrev pub is_open : ℕ → Option (List ℕ) → Bool
is_open port None = true
is_open port (Some ports) = list_any (λ p. p == port) ports

-- the flow on which a node receives a packet. An acknowledgement comes to a sender
abbrev pub received_on : ℕ → ℕ → PacketValue → Option Flow
received_on from me (Data from_port to_port number drf begin end octets) = Some (flow_of from me (Data from_port to_port number drf begin end octets))
received_on from me (Ack from_port to_port number window) = None
received_on from me (Meet from_port to_port number) = Some (flow_of from me (Meet from_port to_port number))
received_on from me (Close from_port to_port number) = Some (flow_of from me (Close from_port to_port number))

-- A FLOW: its port is open, and it has a receiver or there is room for one more
abbrev pub flow_admission : Host → GuardValue → Flow → Admission
flow_admission host g f =
    if not (is_open f.to_port g.ports) then ClosedPort
    else if not (has_key same_flow f host.receivers) && nat_le g.most (length host.receivers) then TooManyFlows
    else Admitted

abbrev pub packet_admission : Host → GuardValue → Option Flow → Admission
packet_admission host g None = Admitted
packet_admission host g (Some f) = flow_admission host g f

-- octets that don't read, and packets for another node, are for the endpoint to judge
abbrev pub body_admission : Host → GuardValue → ℕ → Result PacketValue LayoutFault → Admission
body_admission host g from (Err fault) = Admitted
body_admission host g from (Ok v) = packet_admission host g (received_on from host.me v)

abbrev pub gram_admission : Host → GuardValue → Result DeltagramValue LayoutFault → Admission
gram_admission host g (Err fault) = Admitted
gram_admission host g (Ok d) = if d.to == host.me then body_admission host g d.from (packet_read d) else Admitted

-- WHETHER A DATAGRAM MAY COME to an endpoint with this host
abbrev pub admission : Host → GuardValue → List ℕ → Admission
admission host g octets = gram_admission host g (gram_read octets)

-- one more
abbrev pub counted_up : ℕ → ℕ
counted_up n = counted 1 n

-- the guard after it: what was kept out is counted
abbrev pub guard_after : Admission → GuardValue → GuardValue
guard_after Admitted g = g
guard_after ClosedPort g = record g { closed = counted_up g.closed }
guard_after TooManyFlows g = record g { crowded = counted_up g.crowded }
