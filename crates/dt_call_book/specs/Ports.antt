-- The kinds of ports, as a map has them.
use Rattle.std.specs.Prelude.{ℕ, List, map}
use Rattle.dt_service_model.specs.declared.ports.Port.{Port}
use Rattle.dt_service_model.specs.declared.ports.PortKind.{PortKind}

abbrev pub port_of : ℕ × PortKind → Port
port_of e = record { port = e.0; kind = e.1 }

abbrev pub ports_of : List (ℕ × PortKind) → List Port
ports_of kinds = map port_of kinds
