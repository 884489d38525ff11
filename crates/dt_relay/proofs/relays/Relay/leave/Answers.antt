use Rattle.std.proofs.Common.{None, refl}
use Rattle.dt_world_model.specs.Relay.{leave}
use Rattle.dt_relay.proofs.Links.{on_link_nowhere}
use Rattle.dt_relay.proofs.Lookups.{link_found}
use Rattle.dt_relay.proofs.relays.Relay.leave.Goals as goal

pub returns-in-None-clause-left : goal.returns-in-None-clause-left
returns-in-None-clause-left g c = rw (on_link_nowhere c.args.link None (leave c.args.now) c.args.self.now.outs c.in-None.ensures.place) refl

pub returns-in-None-clause-after : goal.returns-in-None-clause-after
returns-in-None-clause-after g c = rw (on_link_nowhere c.args.link None (leave c.args.now) c.args.self.now.outs c.in-None.ensures.place) refl

pub returns-in-Some-clause-left : goal.returns-in-Some-clause-left
returns-in-Some-clause-left g c = rw (link_found c.args.link c.in-Some.place c.args.self.now.outs c.in-Some.ensures.place) at c.leave_at.ensures.left

pub returns-in-Some-clause-after : goal.returns-in-Some-clause-after
returns-in-Some-clause-after g c = rw (link_found c.args.link c.in-Some.place c.args.self.now.outs c.in-Some.ensures.place) at c.leave_at.ensures.after
