use Rattle.std.proofs.Common.{take, flat_map, ◌+◌, ◌%◌}
use Rattle.std.specs.List.{range_with_len}
use Rattle.dt_edges.specs.Sinks.{Takes}
use Rattle.dt_log.specs.Words.{octet_text}
use Rattle.dt_make.proofs.rounds.put_message.Given as goal

-- the octets before this place were put
abbrev pub invariant-loop-place : goal.invariant-loop-place
invariant-loop-place g l = Takes (flat_map (λ j. octet_text ((l.number + j) % 256)) (take l.place (range_with_len 0 l.length))) (g.K.Sink.sight l.fn.out) (g.K.Sink.sight l.out)
