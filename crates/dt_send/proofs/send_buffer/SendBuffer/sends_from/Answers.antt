use Rattle.std.proofs.Common.{sym, ap, ◌∙◌, Some}
use Rattle.dt_flow_model.specs.SendActs.{may_send_from, moment_if}
use Rattle.dt_send.specs.SendBuffer.{record_of}
use Rattle.dt_send.proofs.MomentLemmas.{sendable}
use Rattle.dt_send.proofs.send_buffer.SendBuffer.sends_from.Goals as goal

pub returns-then-can_send : goal.returns-then-can_send
returns-then-can_send c =
    ap (λ m. Some m) c.spaced_from.ensures
    ∙ ap (λ b. moment_if b (may_send_from c.args.rules.now (record_of c.args.self.now))) (sym c.if-can_send.true ∙ c.can_send.ensures ∙ sendable c.args.rules.now c.args.self.now c.requires)

pub returns-else-can_send : goal.returns-else-can_send
returns-else-can_send c = ap (λ b. moment_if b (may_send_from c.args.rules.now (record_of c.args.self.now))) (sym c.if-can_send.false ∙ c.can_send.ensures ∙ sendable c.args.rules.now c.args.self.now c.requires)
