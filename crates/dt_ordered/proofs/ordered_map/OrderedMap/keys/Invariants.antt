use Rattle.std.proofs.Common.{◌≡◌, ◌++◌, map}
use Rattle.std.specs.Prelude.{reverse}
use Rattle.dt_ordered.proofs.ordered_map.OrderedMap.keys.Given as goal

abbrev pub invariant-loop-key : goal.invariant-loop-key
invariant-loop-key g l = l.keys.items ++ map (λ e. e.0) (reverse l.key-iterator.iter) ≡ map (λ e. e.0) l.fn.self
