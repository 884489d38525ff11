use Rattle.std.proofs.Common.{◌+◌, sym, ap, ◌∙◌}
use Rattle.dt_flow_model.specs.SendActs.{moment_if}
use Rattle.dt_send.proofs.MomentLemmas.{shut}
use Rattle.dt_send.proofs.send_buffer.SendBuffer.meets_from.Goals as goal

pub returns-else-is_shut : goal.returns-else-is_shut
returns-else-is_shut c = ap (λ b. moment_if b (c.args.self.now.touched + c.args.rules.now.probe)) (sym c.if-is_shut.false ∙ c.is_shut.ensures ∙ shut c.args.rules.now c.args.self.now c.requires)
