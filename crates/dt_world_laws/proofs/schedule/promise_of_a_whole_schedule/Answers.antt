use Rattle.std.proofs.Common.{refl}
use Rattle.dt_layout.specs.Spelling.{gram_spelling, packet_spelling}
use Rattle.dt_layout.specs.Reading.{gram_fault, gram_in, packet_fault, packet_in}
use Rattle.dt_layout.specs.Carried.{life_of, lowered, to_of}
use Rattle.dt_world_laws.proofs.Meets.{schedule_is_safe}
use Rattle.dt_world_laws.proofs.schedule.promise_of_a_whole_schedule.Goals as goal

-- src/schedule.rt
pub returns-clause-setup : goal.returns-clause-setup
returns-clause-setup c = refl

-- src/schedule.rt
pub returns-clause-safe : goal.returns-clause-safe
returns-clause-safe c = schedule_is_safe

-- src/schedule.rt
pub returns-clause-places : goal.returns-clause-places
unfolding gram_spelling packet_spelling gram_in packet_in packet_fault gram_fault life_of to_of lowered
returns-clause-places c = refl

-- src/schedule.rt
pub returns-clause-octets : goal.returns-clause-octets
unfolding gram_spelling packet_spelling gram_in packet_in packet_fault gram_fault life_of to_of lowered
returns-clause-octets c = refl

-- src/schedule.rt
pub returns-clause-lives : goal.returns-clause-lives
unfolding gram_spelling packet_spelling gram_in packet_in packet_fault gram_fault life_of to_of lowered
returns-clause-lives c = (refl, refl)
