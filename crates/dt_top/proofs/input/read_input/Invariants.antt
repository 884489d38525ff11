use Rattle.std.proofs.Common.{◌≡◌, ◌-◌, ◌≤◌, vec_len, vec_capacity}
use Rattle.std.specs.Io.KnownBytes.{Consumes}
use Rattle.dt_top.specs.Inputs.{limit}
use Rattle.dt_top.proofs.input.read_input.Given as goal

-- what was read so far, with what is left, is the input
abbrev pub invariant-loop-input : goal.invariant-loop-input
invariant-loop-input g l = record {
  read : Consumes (g.S.Source.sight l.fn.source).left (g.S.Source.sight l.source).left l.input.items;
  steady : (g.S.Source.sight l.source).faults ≡ (g.S.Source.sight l.fn.source).faults;
  within : vec_len l.input ≤ limit;
  room : limit ≤ vec_capacity l.input;
}

abbrev pub decreases-loop-input : goal.decreases-loop-input
decreases-loop-input g l = limit - vec_len l.input
