use Rattle.std.proofs.Common.{ap, ◌∙◌}
use Rattle.dt_units.specs.declared.parameters.Params.{Params}
use Rattle.dt_send.specs.SendBuffer.{record_of}
use Rattle.dt_send.proofs.SenderLemmas.{due_seen, seen}
use Rattle.dt_send.proofs.senders.Sender.due.Goals as goal

pub returns-clause-due : goal.returns-clause-due
returns-clause-due g c = due_seen c.deref.result.now c.self.inside.flow (record_of c.self.inside.buffer) c.args.self.now (ap (λ (p : Params). seen p c.self.inside.flow (record_of c.self.inside.buffer)) c.deref.ensures ∙ c.self.view_is) c.args.now c.moments.result c.due_first.result c.moments.ensures c.due_first.ensures
