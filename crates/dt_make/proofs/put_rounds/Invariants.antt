use Rattle.std.proofs.Common.{◌≡◌, ◌≤◌, ◌<◌, ◌*◌, take, flat_map}
use Rattle.std.specs.List.{range_with_len}
use Rattle.dt_edges.specs.Sinks.{Takes}
use Rattle.dt_make.specs.Draws.{x_after}
use Rattle.dt_make.specs.Schedules.{round_text, copies_before}
use Rattle.dt_make.proofs.put_rounds.Given as goal

-- the rounds before this one were put
abbrev pub invariant-loop-number : goal.invariant-loop-number
invariant-loop-number g l =
    Takes (flat_map round_text (take l.number (range_with_len 0 l.n))) (g.K.Sink.sight l.fn.out) (g.K.Sink.sight l.out)
    × (l.x ≡ x_after l.number) × (l.x < 2147483648) × (l.copies ≡ copies_before l.number) × (l.copies ≤ 3 * l.number)
