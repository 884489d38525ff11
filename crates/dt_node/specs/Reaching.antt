-- When a run that is run again meets its stop.
use Rattle.std.specs.Prelude.{◌≡◌, ℕ, false, List, [], Some, Ok}
use Rattle.dt_text.specs.InputLines.{lines_of}
use Rattle.dt_trace.specs.Traces.{Recorded, nothing, or_zero, read_from}
use Rattle.dt_node.specs.Completing.{ReachesStop}
use Rattle.dt_script.specs.Drafts.{script_of}
use Rattle.dt_script.specs.Orders.{Orders}
use Rattle.dt_node.specs.InputParts.{cut_lines, text_of}

-- No line of the input is refused, the readings of its trace reach the stop of its script, and the trace lists neither an open nor a take that failed.
pub record GoesToStop (octets : List ℕ) : Type 0 where
  pub script : List (List ℕ)
  pub trace : List (List ℕ)
  pub recorded : Recorded
  pub orders : Orders
  pub cut : cut_lines (lines_of octets) ≡ Some (script, trace)
  pub read : read_from 1 nothing trace ≡ Ok recorded
  pub accepted : script_of (text_of script) ≡ Some orders
  pub reaches : ReachesStop orders.stop (or_zero recorded.readings)
  pub opens : recorded.open_fails ≡ false
  pub takes : recorded.failing_takes ≡ []
