use Rattle.std.proofs.Common.{◌≡◌, ◌++◌}
use Rattle.dt_world_model.specs.Setup.{ins_of}
use Rattle.dt_notes.specs.Setups.{links_of}
use Rattle.dt_world.proofs.starts.ins_of.Given as goal

abbrev pub invariant-loop-link : goal.invariant-loop-link
invariant-loop-link l = l.ins.items ++ ins_of l.node (links_of l.link-iterator) ≡ ins_of l.node (links_of l.links.entries)
