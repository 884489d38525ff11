use Rattle.std.proofs.Common.{refl, arith}
use Rattle.dt_layout.specs.Spelling.{gram_spelling, packet_spelling}
use Rattle.dt_layout.specs.Reading.{gram_fault, gram_in, packet_fault, packet_in}
use Rattle.dt_layout.specs.Carried.{life_of, lowered, to_of}
use Rattle.dt_service_model.specs.Stopping.{at_judging, in_end}
use Rattle.dt_service_laws.specs.Services.{services_by}
use Rattle.dt_service_laws.specs.Worked.{called, node_in, stopped_at_judging, two_nodes, two_services, with_second_call}
use Rattle.dt_service_laws.proofs.Restarted.{flow}
use Rattle.dt_service_laws.proofs.worked.client_finds_no_memory.Goals as goal

-- src/worked.rt
pub returns-clause-duties : goal.returns-clause-duties
unfolding gram_spelling packet_spelling gram_in packet_in packet_fault gram_fault life_of to_of lowered
returns-clause-duties c = (
  tt,
  (
    tt,
    (
      (record { clock = refl; most = omega arith }, flow),
      (
        tt,
        (
          (
            (record { clock = refl; most = omega arith }, flow),
            record {
              stopped = stopped_at_judging (with_second_call (node_in 1 (services_by two_nodes called two_services)));
              stops = record { clear = refl; turn = in_end (at_judging refl) };
              closed = refl;
            },
          ),
          tt,
        ),
      ),
    ),
  ),
)
