use Rattle.std.proofs.Common.{refl, arith}
use Rattle.dt_layout.specs.Spelling.{gram_spelling, packet_spelling}
use Rattle.dt_layout.specs.Reading.{gram_fault, gram_in, packet_fault, packet_in}
use Rattle.dt_layout.specs.Carried.{life_of, lowered, to_of}
use Rattle.dt_network.specs.Worked.{back, first_frame, reader, relay, sender}
use Rattle.dt_network.proofs.worked.exchange_keeps_the_duties.Goals as goal

-- src/worked.rt
pub returns-clause-steps : goal.returns-clause-steps
unfolding gram_spelling packet_spelling gram_in packet_in packet_fault gram_fault life_of to_of lowered
returns-clause-steps c =
    ((record { from = omega arith; from_port = omega arith; to = omega arith; to_port = omega arith }, (refl, refl)), (tt, ((refl, refl), (refl, (tt, ((refl, refl), ((record { from = omega arith; from_port = omega arith; to = omega arith; to_port = omega arith }, (refl, refl, refl)), (tt, ((refl, refl), ((refl, refl), ((refl, refl), (refl, tt))))))))))))

-- src/worked.rt
pub returns-clause-duties : goal.returns-clause-duties
unfolding gram_spelling packet_spelling gram_in packet_in packet_fault gram_fault life_of to_of lowered
returns-clause-duties c = (
  record { clock = refl; most = omega arith },
  (
    tt,
    (
      (record { clock = refl; most = omega arith }, λ clear. record { flight = record { frame = first_frame sender; put = 0 }; left = (0, omega arith, refl); octets = refl; in_time = omega arith }),
      (
        tt,
        (
          tt,
          (
            (record { clock = refl; most = omega arith }, λ clear. record { flight = record { frame = first_frame relay; put = 40 }; left = (1, omega arith, refl); octets = refl; in_time = omega arith }),
            (
              record { clock = refl; most = omega arith },
              (
                tt,
                (
                  (record { clock = refl; most = omega arith }, λ clear. record { flight = record { frame = first_frame reader; put = 50 }; left = (2, omega arith, refl); octets = refl; in_time = omega arith }),
                  (
                    (record { clock = refl; most = omega arith }, λ clear. record { flight = record { frame = first_frame back; put = 110 }; left = (3, omega arith, refl); octets = refl; in_time = omega arith }),
                    (
                      tt,
                      (record { now = 110; told = refl; time = record { clock = refl; most = omega arith } }, tt),
                    ),
                  ),
                ),
              ),
            ),
          ),
        ),
      ),
    ),
  ),
)

-- src/worked.rt
pub returns-clause-memory : goal.returns-clause-memory
returns-clause-memory c = (refl, (tt, (refl, (refl, (tt, (refl, (refl, (tt, (refl, (refl, (refl, (refl, tt))))))))))))

-- src/worked.rt
pub returns-clause-read : goal.returns-clause-read
returns-clause-read c = refl

-- src/worked.rt
pub returns-clause-told : goal.returns-clause-told
unfolding gram_spelling packet_spelling gram_in packet_in packet_fault gram_fault life_of to_of lowered
returns-clause-told c = refl
