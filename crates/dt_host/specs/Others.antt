-- What one flow's records and another's have to do with each other: nothing.
use Rattle.std.specs.Prelude.{◌≡◌, ◌⊎◌}
use Rattle.dt_units.specs.declared.endpoints.Flow.{Flow}
use Rattle.dt_flow_model.specs.declared.acts.SendAct.{SendAct}
use Rattle.dt_flow_model.specs.declared.acts.RecvAct.{RecvAct}
use Rattle.dt_reports.specs.Told.{Told}
use Rattle.dt_world_model.specs.Host.{Host, receiver_at, sender_at, told_recv, told_send}

-- THE RECORDS OF A FLOW ARE THE SAME at two hosts.
pub record SameAt (f : Flow) (old new : Host) : Type 0 where
  pub sender : sender_at new f ≡ sender_at old f
  pub receiver : receiver_at new f ≡ receiver_at old f

-- what is told is an act of the flow's sender or of its receiver
abbrev pub IsActOf : Flow → Told → Type 0
IsActOf f told = ((act : SendAct) × (told ≡ told_send f act)) ⊎ ((act : RecvAct) × (told ≡ told_recv f act))
