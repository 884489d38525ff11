use Rattle.std.proofs.Common.{◌≡◌, ◌++◌}
use Rattle.dt_world_model.specs.Setup.{outs_of}
use Rattle.dt_notes.specs.Setups.{links_of}
use Rattle.dt_world.proofs.starts.outs_of.Given as goal

abbrev pub invariant-loop-link : goal.invariant-loop-link
invariant-loop-link l = l.outs.items ++ outs_of l.node (links_of l.link-iterator) ≡ outs_of l.node (links_of l.links.entries)
