-- The totals that the code counts, as the definitions have them.
use Rattle.dt_calls_model.specs.CallRuns as runs
use Rattle.dt_call_parts.specs.declared.totals.CallTotals.{CallTotals}

abbrev pub totals_seen : CallTotals → runs.CallTotals
totals_seen t = record { calls = t.calls; served = t.served; answered = t.answered; unsure = t.unsure; declined = t.declined; waiting = t.waiting }
