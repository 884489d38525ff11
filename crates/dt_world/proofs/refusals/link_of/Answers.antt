use Rattle.std.proofs.Common.{ℕ, ◌==◌, List, Option, ap, sym, ◌∙◌}
use Rattle.std.specs.Prelude.{unwrap_or}
use Rattle.dt_world_model.specs.declared.links.Link.{Link}
use Rattle.dt_world_model.specs.Tables.{look}
use Rattle.dt_notes.proofs.SetupTables.{look_keyed, numbered_links}
use Rattle.dt_world.proofs.refusals.link_of.Goals as goal

pub returns-in-Some : goal.returns-in-Some
returns-in-Some c =
    let es = c.args.parts.now.links.entries in
    ap (λ (o : Option Link). unwrap_or o (record { link = 0; from = 0; to = 0; charge = 0; pace = 0 }))
    (c.in-Some.ensures.value ∙ look_keyed Link c.args.number es ∙ ap (λ (ls : List (ℕ × Link)). look ◌==◌ c.args.number ls) (sym (numbered_links es c.requires.numbers)))

pub returns-in-None : goal.returns-in-None
returns-in-None c =
    let es = c.args.parts.now.links.entries in
    ap (λ (o : Option Link). unwrap_or o (record { link = 0; from = 0; to = 0; charge = 0; pace = 0 }))
    (c.in-None.ensures.value ∙ look_keyed Link c.args.number es ∙ ap (λ (ls : List (ℕ × Link)). look ◌==◌ c.args.number ls) (sym (numbered_links es c.requires.numbers)))
