-- What contracts see of a wire over a socket.
use Rattle.std.specs.Prelude.{Option, None}
use Rattle.dt_edges.specs.Wires.{Opening}
use Rattle.dt_machine.specs.declared.wire_counts.WireCounts.{WireCounts}

pub record UdpWireSeen : Type 0 where
  -- the last open that answered Ok
  pub opening : Option Opening
  pub counts : WireCounts

-- nothing was called
abbrev pub uncalled : WireCounts
uncalled = record { opens = 0; last_wait = None; takes = 0; take_faults = 0; gives = 0; give_faults = 0 }
