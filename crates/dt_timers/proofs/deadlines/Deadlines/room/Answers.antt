use Rattle.std.proofs.Common.{ℕ, List, Option, length, sym, ap, ◌∙◌}
use Rattle.std.proofs.lemmas.List.{length-map}
use Rattle.dt_timers.specs.Deadlines.{moment_of}
use Rattle.dt_timers.proofs.deadlines.Deadlines.room.Goals as goal

pub returns : goal.returns
returns c = c.room.ensures ∙ sym (length-map c.self.inside.tournament moment_of) ∙ ap (λ (ms : List (Option ℕ)). length ms) c.self.view_is
