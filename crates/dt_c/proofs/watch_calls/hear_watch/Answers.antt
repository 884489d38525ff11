use Rattle.std.proofs.Common.{◌∙◌, ap, sym}
use Rattle.dt_c.specs.Watching.{status_of_clocks}
use Rattle.dt_c.proofs.Watchings.{hears}
use Rattle.dt_c.proofs.watch_calls.hear_watch.Goals as goal

pub returns-then-is_fit : goal.returns-then-is_fit
returns-then-is_fit c = hears _ _ _ _ _ _ (sym c.is_fit.ensures ∙ c.if-is_fit.true) c.passage.ensures (c.clocks_status.ensures ∙ ap (λ it. status_of_clocks it) c.is_broken.ensures) c.hear.ensures
