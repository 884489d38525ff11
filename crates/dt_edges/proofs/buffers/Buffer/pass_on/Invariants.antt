use Rattle.std.proofs.Common.{◌≡◌, ℕ, ◌-◌, ◌≤◌, take, drop, vec_len, vec_capacity}
use Rattle.dt_edges.specs.Sinks.{Takes}
use Rattle.dt_edges.proofs.buffers.Buffer.pass_on.Given as goal

-- of what waited, the first n octets were put, and the others still wait
abbrev pub invariant-loop-self : goal.invariant-loop-self
invariant-loop-self g l =
    let waiting = drop l.initial.self-inside.passed l.initial.self-inside.octets.items in
    (n : ℕ)
    × (drop l.self-inside.passed l.self-inside.octets.items ≡ drop n waiting)
    × Takes (take n waiting) (g.K.Sink.sight l.initial.out) (g.K.Sink.sight l.out)
    × (l.self-inside.passed ≤ vec_len l.self-inside.octets)
    × (vec_len l.self-inside.octets ≤ 8192)
    × (8192 ≤ vec_capacity l.self-inside.octets)

abbrev pub decreases-loop-self : goal.decreases-loop-self
decreases-loop-self g l = vec_len l.self-inside.octets - l.self-inside.passed
