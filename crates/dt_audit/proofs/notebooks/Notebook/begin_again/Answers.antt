use Rattle.std.proofs.Common.{◌≡◌, ◌+◌, arith}
use Rattle.dt_audit.specs.Books.{life_in}
use Rattle.dt_audit.proofs.Entries.{begun_again}
use Rattle.dt_audit.proofs.notebooks.Notebook.begin_again.Goals as goal

pub returns-clause-notes : goal.returns-clause-notes
returns-clause-notes c =
    let next : c.args.life ≡ life_in c.args.self.now.lives c.args.node + 1 = omega (arith, c.from.ensures, c.from-2.ensures, c.life_of.ensures, c.if-from.false) in
    begun_again c.args.node c.args.life c.args.self.now c.self.inside.lives.entries c.self.inside.flows.entries _ c.self.view_is next c.in_ok-insert.ensures.entries
