-- The inputs that the code writes, as the definitions have them.
use Rattle.std.specs.Prelude.{Some, None}
use Rattle.dt_trace.specs.Inputs as inputs
use Rattle.dt_trace.specs.declared.inputs.Input.{Input}
use Rattle.dt_trace.specs.declared.inputs.Input.TheVariants.{Reading, Nothing, Datagram, FailedTake, FailedGive, FailedOpen}

abbrev pub input_written : Input → inputs.Input
input_written (Reading reading) = inputs.Reading reading
input_written Nothing = inputs.Taken None
input_written (Datagram link octets) = inputs.Taken (Some (record { link = link; octets = octets.now }))
input_written FailedTake = inputs.FailedTake
input_written (FailedGive number) = inputs.FailedGive number
input_written FailedOpen = inputs.FailedOpen
