use Rattle.std.proofs.Common.{ℕ, ◌==◌, List, ap, sym, ◌∙◌}
use Rattle.dt_world_model.specs.declared.links.Link.{Link}
use Rattle.dt_world_model.specs.Setup.{Setup}
use Rattle.dt_world_model.specs.Tables.{look}
use Rattle.dt_world_model.specs.WorldStep.{numbered}
use Rattle.dt_notes.proofs.SetupTables.{look_keyed, numbered_links}
use Rattle.dt_notes.proofs.setups.Setup.link.Goals as goal

pub returns : goal.returns
returns c =
    let es = c.self.inside.links.entries in
    c.get.ensures.value ∙ look_keyed Link c.args.number es
    ∙ ap (λ (ls : List (ℕ × Link)). look ◌==◌ c.args.number ls) (sym (numbered_links es c.self.invariant))
    ∙ ap (λ (s : Setup). look ◌==◌ c.args.number (numbered s.links)) c.self.view_is
