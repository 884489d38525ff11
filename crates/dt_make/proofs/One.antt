-- The schedule of one round, computed from its definition.
use Rattle.std.proofs.Common.{◌≡◌, refl, codes, ◌++◌}
use Rattle.std.specs.Fmt.{digits}
use Rattle.dt_make.specs.Draws.{x_after}
use Rattle.dt_make.specs.Schedules.{make_text, setup_text, copies_before}

one_round : make_text 1 ≡ setup_text ++ codes "send 1:10>2:20 be 0001\nlose 0\npass 500\ntick 1\npass 10\narrive 1\npass 10\narrive 2\nread 1:10>2:20 65536\n"
unfolding x_after copies_before digits
one_round = refl
