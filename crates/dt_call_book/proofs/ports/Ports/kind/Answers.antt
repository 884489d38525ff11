use Rattle.std.proofs.Common.{ap, ◌∙◌}
use Rattle.dt_service_model.specs.CallBook.{kind_in}
use Rattle.dt_call_book.proofs.PortKinds.{kind_found}
use Rattle.dt_call_book.proofs.ports.Ports.kind.Goals as goal

pub returns : goal.returns
returns c = c.copied.ensures ∙ c.get.ensures.value ∙ kind_found c.args.port c.self.inside.kinds.entries ∙ ap (kind_in c.args.port) c.self.view_is
