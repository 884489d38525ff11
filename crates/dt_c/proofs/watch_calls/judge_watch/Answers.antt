use Rattle.std.proofs.Common.{◌∙◌, ap, sym}
use Rattle.dt_c.specs.Watching.{judgement_code}
use Rattle.dt_c.proofs.Watchings.{judges}
use Rattle.dt_c.proofs.watch_calls.judge_watch.Goals as goal

pub returns-then-is_fit : goal.returns-then-is_fit
returns-then-is_fit c = judges _ _ _ _ _ (sym c.is_fit.ensures ∙ c.if-is_fit.true) c.arrival.ensures (c.judgement_code.ensures ∙ ap (λ it. judgement_code it) c.judge.ensures.judgement) c.judge.ensures.after
