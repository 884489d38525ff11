use Rattle.std.proofs.Common.{ap, ◌∙◌, Option, ℕ}
use Rattle.std.specs.Prelude.{unwrap_or}
use Rattle.dt_audit.specs.Books.{Book, life_in}
use Rattle.dt_audit.specs.FlowNotes.{Notes}
use Rattle.dt_audit.proofs.Entries.{life_looked}
use Rattle.dt_audit.proofs.notebooks.Notebook.life_of.Goals as goal

pub returns : goal.returns
returns c =
    c.unwrap_or.ensures
    ∙ ap (λ (o : Option ℕ). unwrap_or o 0) (c.copied.ensures ∙ c.get.ensures.value)
    ∙ life_looked c.args.node c.self.inside.lives.entries
    ∙ ap (λ (b : Book Notes). life_in b.lives c.args.node) c.self.view_is
