use Rattle.std.proofs.Common.{ℕ, ◌==◌, is_some, ap, ◌∙◌}
use Rattle.dt_world_model.specs.Setup.{Setup}
use Rattle.dt_world_model.specs.Tables.{has_key}
use Rattle.dt_notes.proofs.SetupTables.{look_keyed}
use Rattle.dt_notes.proofs.setups.Setup.has_station.Goals as goal

pub returns : goal.returns
returns c =
    c.contains_key.ensures ∙ ap is_some (look_keyed ℕ c.args.station c.self.inside.zeros.entries)
    ∙ ap (λ (s : Setup). has_key ◌==◌ c.args.station s.stations) c.self.view_is
