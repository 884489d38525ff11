use Rattle.dt_world_laws.proofs.Brought.{copy_brings, packet_brings}
use Rattle.dt_world_laws.proofs.meeting.packets_bring_octets_that_were_taken.Goals as goal

pub returns-clause-copy : goal.returns-clause-copy
returns-clause-copy c = λ w k n facts there. copy_brings w k facts there

pub returns-clause-comes : goal.returns-clause-comes
returns-clause-comes c = λ w n link parcel can. packet_brings w parcel can.packet
