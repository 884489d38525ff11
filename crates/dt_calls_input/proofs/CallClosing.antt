-- The last lines of an input of calls: the totals, and then the end.
use Rattle.std.proofs.Common.{◌≡◌, ℕ, None, Result, IsErr, subst}
use Rattle.dt_edges.specs.Sinks.{Puts, SinkSight, Takes, TakesPart}
use Rattle.dt_edges.proofs.Puts.{puts_failed, puts_then}
use Rattle.dt_reports.specs.declared.reports.Report.TheVariants as reports
use Rattle.dt_log.specs.Logs.{entry_text}
use Rattle.dt_calls_model.specs.Calls.{Calls}
use Rattle.dt_calls_model.specs.CallRuns as runs
use Rattle.dt_calls_model.specs.CallRuns.{totals_of}
use Rattle.dt_call_parts.specs.declared.totals.CallTotals.{CallTotals}
use Rattle.dt_calls_input.specs.CallInputs.{end_entry, last_text}
use Rattle.dt_calls_input.specs.CallTexts.{totals_text}
use Rattle.dt_call_parts.specs.Totals.{totals_seen}

module _ {K T E : Type 0} (sight : K → SinkSight) (c : Calls) (totals : CallTotals) where
  pub closed_put : (moment : ℕ) (r : Result T E) (old between new : K) → totals_seen totals ≡ totals_of c → moment ≡ c.world.now → Takes (totals_text (totals_seen totals)) (sight old) (sight between)
      → Puts sight (entry_text (record { moment = moment; node = None; told = reports.End })) r between new → Puts sight (last_text c) r old new
  closed_put moment r old between new t m before put =
      puts_then sight (totals_text (totals_of c)) (entry_text (end_entry c)) r old between new
      (subst (λ (s : runs.CallTotals). Takes (totals_text s) (sight old) (sight between)) t before)
      (subst (λ (n : ℕ). Puts sight (entry_text (record { moment = n; node = None; told = reports.End })) r between new) m put)

  -- or a first part of the totals, where that put fails
  pub closed_failed : (r : Result T E) (old new : K) → totals_seen totals ≡ totals_of c → TakesPart (totals_text (totals_seen totals)) (sight old) (sight new) → IsErr r → Puts sight (last_text c) r old new
  closed_failed r old new t part is =
      puts_failed sight (totals_text (totals_of c)) (entry_text (end_entry c)) r old new (subst (λ (s : runs.CallTotals). TakesPart (totals_text s) (sight old) (sight new)) t part) is
