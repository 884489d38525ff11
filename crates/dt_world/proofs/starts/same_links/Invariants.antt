use Rattle.dt_world.proofs.Beginning.{Copied}
use Rattle.dt_world.proofs.starts.same_links.Given as goal

abbrev pub invariant-loop-number : goal.invariant-loop-number
invariant-loop-number l = Copied l.same.entries l.number-iterator l.links.entries
