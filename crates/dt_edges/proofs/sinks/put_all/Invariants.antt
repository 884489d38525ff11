use Rattle.std.proofs.Common.{◌≡◌, ℕ, ◌≤◌, [], length, take, drop}
use Rattle.dt_edges.specs.Sinks.{Takes}
use Rattle.dt_edges.proofs.sinks.put_all.Given as goal

-- the first n octets were taken, and the rest is left. Where there are none, the sink is as it was.
abbrev pub invariant-loop-rest : goal.invariant-loop-rest
invariant-loop-rest g l =
    (n : ℕ) × (n ≤ length l.bytes) × (l.rest ≡ drop n l.bytes) × Takes (take n l.bytes) (g.K.Sink.sight l.fn.out) (g.K.Sink.sight l.out) × (l.bytes ≡ [] → l.out ≡ l.fn.out)

abbrev pub decreases-loop-rest : goal.decreases-loop-rest
decreases-loop-rest g l = length l.rest
