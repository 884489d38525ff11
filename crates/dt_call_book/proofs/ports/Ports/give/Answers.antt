use Rattle.std.proofs.Common.{◌++◌, ◌∷◌, [], List, ap, nat_eq, ◌∙◌}
use Rattle.dt_service_model.specs.declared.ports.Port.{Port}
use Rattle.dt_service_model.specs.CallBook.{kind_in}
use Rattle.indexmap.proofs.CallerLemmas.{insert_entry-new}
use Rattle.dt_call_book.specs.Ports.{port_of, ports_of}
use Rattle.dt_call_book.proofs.PortKinds.{given_behind, kind_found}
use Rattle.dt_call_book.proofs.ports.Ports.give.Goals as goal

pub returns-clause-given : goal.returns-clause-given
returns-clause-given c =
    let kinds = c.self.inside.kinds in
    ap ports_of (c.in_ok-insert.ensures.entries ∙ insert_entry-new nat_eq kinds c.args.port c.args.kind (kind_found c.args.port kinds.entries ∙ ap (kind_in c.args.port) c.self.view_is ∙ c.requires))
    ∙ given_behind kinds.entries (c.args.port, c.args.kind)
    ∙ ap (λ (l : List Port). l ++ port_of (c.args.port, c.args.kind) ∷ []) c.self.view_is
