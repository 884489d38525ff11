use Rattle.std.proofs.Common.{ℕ, List, subst}
use Rattle.dt_fold.specs.Folds.{fold_input}
use Rattle.dt_fold.specs.Logging.{FillsBehind}
use Rattle.dt_fold.proofs.Waiting.{filled}
use Rattle.dt_fold.proofs.behind_buffer.fold_behind_buffer.Goals as goal

pub returns : goal.returns
returns g c =
    let all = fold_input g.T.LineTurns.turns (g.T.LineTurns.state c.args.lines.now) c.args.bytes.now in
    let start = g.K.Sink.sight c.args.out.now in
    let mid = g.K.Sink.sight c.fold_into-folded.new.out in
    let waits = c.fold_into-folded.new.buffer in
    let empty = subst (λ (w : List ℕ). FillsBehind all c.fold_into-folded.result start w mid waits) c.in_ok-buffer.ensures c.fold_into-folded.ensures in
    filled all start mid (g.K.Sink.sight c.pass_rest.new.out) waits c.fold_into-folded.result c.pass_rest.result empty c.pass_rest.ensures.puts
