use Rattle.std.proofs.Common.{◌≡◌, ℕ, List, ◌++◌, length}
use Rattle.dt_edges.specs.Sinks.{Takes}
use Rattle.dt_log.specs.Words.{hex_text}
use Rattle.dt_log.proofs.digits.put_hex.Given as goal

-- the digits of the octets before the rest were put
abbrev pub invariant-loop-rest : goal.invariant-loop-rest
invariant-loop-rest g l =
    (before : List ℕ) × (l.octets ≡ before ++ l.rest) × Takes (hex_text before) (g.K.Sink.sight l.fn.out) (g.K.Sink.sight l.out)

abbrev pub decreases-loop-rest : goal.decreases-loop-rest
decreases-loop-rest g l = length l.rest
