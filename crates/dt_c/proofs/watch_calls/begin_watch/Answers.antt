use Rattle.std.proofs.Common.{◌∙◌, refl, sym}
use Rattle.dt_c.proofs.Watchings.{begins}
use Rattle.dt_c.proofs.watch_calls.begin_watch.Goals as goal

pub returns-then-is_reading : goal.returns-then-is_reading
returns-then-is_reading c = begins _ _ _ _ _ (sym c.is_reading.ensures ∙ c.if-is_reading.true) refl c.begin.ensures
