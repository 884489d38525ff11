-- A worked schedule meets what the laws ask.
use Rattle.std.proofs.Common.{List, [], ◌∷◌, arith}
use Rattle.std.specs.List.{All}
use Rattle.std.proofs.lemmas.List.Elements.{All-nil, All-cons}
use Rattle.dt_units.specs.Limits.{IsWithinLimits}
use Rattle.dt_units.specs.Flows.{IsFlow}
use Rattle.dt_world_model.specs.Setup.{new_world}
use Rattle.dt_world_model.specs.Worked.{main_flow}
use Rattle.dt_world_model.specs.WorldFacts.{CanHappen, SafeWorld}
use Rattle.dt_world_model.specs.WorldStep.{WorldEvent, world_after}
use Rattle.dt_world_laws.specs.Schedule.{near_the_end, schedule, two_ways}
use Rattle.dt_world_laws.proofs.Running.{run_is_safe}

limits : IsWithinLimits near_the_end
limits =
    record {
      mpl = (omega arith, omega arith);
      r = (omega arith, omega arith);
      a = (omega arith, omega arith);
      rto = (omega arith, omega arith);
      probe = (omega arith, omega arith);
      probe_below_send = omega arith;
      seg = (omega arith, omega arith);
      cap = (omega arith, omega arith);
      rcap = (omega arith, omega arith);
      window = (omega arith, omega arith);
      run_limit = (omega arith, omega arith);
    }

flow : IsFlow main_flow
flow = record { from = omega arith; from_port = omega arith; to = omega arith; to_port = omega arith }

abbrev EachCan : List WorldEvent → Type 0
EachCan [] = Unit {0}
EachCan (e ∷ es) = CanHappen e × EachCan es

all_can : (es : List WorldEvent) → EachCan es → All CanHappen es
all_can [] h = All-nil CanHappen
all_can (e ∷ es) h = All-cons CanHappen e es h.0 (all_can es h.1)

can : All CanHappen schedule
can = all_can schedule (flow, (tt, (tt, (tt, (tt, (tt, (tt, (tt, (flow, (tt, (tt, (tt, (flow, (tt, (flow, tt)))))))))))))))

pub schedule_is_safe : SafeWorld (world_after (new_world two_ways) schedule)
schedule_is_safe = run_is_safe two_ways schedule limits can
