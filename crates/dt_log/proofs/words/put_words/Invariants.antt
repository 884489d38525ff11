use Rattle.std.proofs.Common.{take}
use Rattle.dt_edges.specs.Sinks.{Takes}
use Rattle.dt_log.specs.Wording.{after_spaces}
use Rattle.dt_log.proofs.words.put_words.Given as goal

-- the words before this one were put
abbrev pub invariant-loop-word : goal.invariant-loop-word
invariant-loop-word g l = Takes (after_spaces (take l.word-index l.words)) (g.K.Sink.sight l.fn.out) (g.K.Sink.sight l.out)
