-- Where a frame has no mark.
use Rattle.std.specs.Prelude.{◌≢◌, Result, Ok, Err}
use Rattle.dt_units.specs.declared.parameters.Params.{Params}
use Rattle.dt_layout.specs.declared.faults.LayoutFault.{LayoutFault}
use Rattle.dt_layout.specs.Spelling.{PacketValue, Data, Ack, Meet, Close}

-- the rules of the event, and those of the host: a sender's numbers begin elsewhere
abbrev pub IsForeign : (event host : Params) → PacketValue → Type 0
IsForeign event host (Data from_port to_port number drf begin end octets) = host.start ≢ event.start
IsForeign event host (Ack from_port to_port number window) = ⊥
IsForeign event host (Meet from_port to_port number) = host.start ≢ event.start
IsForeign event host (Close from_port to_port number) = ⊥

-- no packet is read, or such a one
abbrev pub LacksMark : (event host : Params) → Result PacketValue LayoutFault → Type 0
LacksMark event host (Ok v) = IsForeign event host v
LacksMark event host (Err fault) = Unit {0}
