-- What a handle holds.
use Rattle.std.specs.Prelude.{None}
use Rattle.dt_endpoint.specs.Guards.{open_guard}
use Rattle.dt_c.specs.declared.slots.Slot.{Slot}

abbrev pub empty : Slot
empty = record { endpoint = None; guard = open_guard; shelf = None; mailbox = None }
