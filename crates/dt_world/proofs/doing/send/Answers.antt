use Rattle.std.proofs.Common.{length}
use Rattle.dt_world.proofs.Possible.{may_send}
use Rattle.dt_world.proofs.doing.send.Goals as goal

pub event_at-requires-clause-may : goal.event_at-requires-clause-may
event_at-requires-clause-may g c = may_send c.args.parts.now c.requires.whole c.args.flow (length c.args.sent.octets.now) c.requires.apart c.requires.some c.requires.counted
