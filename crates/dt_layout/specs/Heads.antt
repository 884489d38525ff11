-- Packets of data whose octets come after their head.
use Rattle.std.specs.Prelude.{ℕ, List}
use Rattle.dt_layout.specs.declared.data_heads.DataHead.{DataHead}
use Rattle.dt_layout.specs.Spelling.{PacketValue, Data}

-- the packet of a head and these octets
abbrev pub headed : DataHead → List ℕ → PacketValue
headed h octets = Data h.from_port h.to_port h.number h.drf h.begin h.end octets
