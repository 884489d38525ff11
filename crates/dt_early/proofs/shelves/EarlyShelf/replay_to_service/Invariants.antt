use Rattle.std.proofs.Common.{length}
use Rattle.dt_service.specs.Calls as calls
use Rattle.dt_early.specs.Early.{host_of_service}
use Rattle.dt_early.proofs.Replaying.{Leads}
use Rattle.dt_early.proofs.shelves.EarlyShelf.replay_to_service.Given as goal

-- what is ready now leads to the end of all
abbrev pub invariant-replays : goal.invariant-replays
invariant-replays l = Leads host_of_service calls.Arrives l.now l.flow l.first l.fn.self l.fn.service l.self l.service

abbrev pub decreases-replays : goal.decreases-replays
decreases-replays l = length l.self.held
