use Rattle.std.proofs.Common.{refl}
use Rattle.dt_relay.proofs.Lookups.{link_found}
use Rattle.dt_station.proofs.Flushes.{flush_nowhere}
use Rattle.dt_station.proofs.flushing.flush_link.Goals as goal

pub returns-in-None-clause-ends : goal.returns-in-None-clause-ends
returns-in-None-clause-ends g c = rw (flush_nowhere c.args.link c.args.now.ms c.args.relay.now.outs c.in-None.ensures.place) (refl, refl)

pub returns-in-Some-clause-ends : goal.returns-in-Some-clause-ends
returns-in-Some-clause-ends g c = rw (link_found c.args.link c.in-Some.place c.args.relay.now.outs c.in-Some.ensures.place) at c.flush.ensures.ends
