use Rattle.std.proofs.Common.{sym, ◌∙◌}
use Rattle.dt_send.specs.SendBuffer.{record_of}
use Rattle.dt_send.proofs.MomentLemmas.{releases_none}
use Rattle.dt_send.proofs.send_buffer.SendBuffer.releases_from.Goals as goal

pub returns-else-nothing_out : goal.returns-else-nothing_out
returns-else-nothing_out c = sym (releases_none c.args.rules.now (record_of c.args.self.now) c.args.self.now.outstanding_segments.items c.args.self.now.items.items (sym c.is_empty-nothing_out.ensures ∙ c.if-nothing_out.false))
