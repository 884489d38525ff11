use Rattle.std.proofs.Common.{refl, arith, get_or}
use Rattle.dt_layout.specs.Spelling.{gram_spelling, packet_spelling}
use Rattle.dt_layout.specs.Reading.{gram_fault, gram_in, packet_fault, packet_in}
use Rattle.dt_layout.specs.Carried.{life_of, lowered, to_of}
use Rattle.dt_service_model.specs.Stopping.{at_judging, in_end}
use Rattle.dt_service_laws.specs.Services.{services_by}
use Rattle.dt_service_laws.specs.Worked.{called, comes_to_service, frame_of, node_in, stopped_at_judging, two_nodes, two_services}
use Rattle.dt_service_laws.proofs.Restarted.{flow, no_flight}
use Rattle.dt_service_laws.proofs.worked.service_finds_no_memory.Goals as goal

-- src/worked.rt
pub returns-clause-duties : goal.returns-clause-duties
unfolding gram_spelling packet_spelling gram_in packet_in packet_fault gram_fault life_of to_of lowered
returns-clause-duties c = (
  tt,
  (
    tt,
    (
      (record { clock = refl; most = omega arith }, flow),
      (
        tt,
        (
          (
            (record { clock = refl; most = omega arith }, λ clear. record { flight = get_or (services_by two_nodes called two_services).network.left 0 no_flight; left = (0, omega arith, refl); octets = refl; in_time = omega arith }),
            record {
              stopped = stopped_at_judging (comes_to_service (frame_of 1 0 (services_by two_nodes called two_services)) (node_in 2 (services_by two_nodes called two_services)));
              stops = record { clear = refl; unrefused = refl; turn = in_end (at_judging refl) };
              closed = refl;
            },
          ),
          (record { clock = refl; most = omega arith }, tt),
        ),
      ),
    ),
  ),
)
