use Rattle.std.proofs.Common.{◌≡◌, ℕ, Option, Result, subst, sym}
use Rattle.dt_units.specs.declared.endpoints.Flow.{Flow}
use Rattle.dt_edges.specs.Sinks.{SinkSight, Puts}
use Rattle.dt_reports.specs.declared.flow_totals.Totals.{Totals}
use Rattle.dt_reports.specs.Told.{Told, told, totals_told}
use Rattle.dt_log.specs.Words.{row_text}
use Rattle.dt_log.specs.LogLines.{totals_words, line_words}
use Rattle.dt_log.proofs.log_lines.write_line.Goals as goal

-- what is put for totals is the line of a report of them
of_report : {S T E : Type 0} (sight : S → SinkSight) (moment : ℕ) (reporter : Option ℕ) (report : Told) (flow : Flow) (totals : Totals) (r : Result T E) (old new : S) → report ≡ totals_told flow totals → Puts sight (row_text (totals_words flow totals)) r old new → Puts sight (row_text (line_words moment reporter (told report))) r old new
of_report sight moment reporter report flow totals r old new e p = subst (λ x. Puts sight (row_text (line_words moment reporter (told x))) r old new) (sym e) p

pub returns-in-FlowTotals : goal.returns-in-FlowTotals
returns-in-FlowTotals g c =
    let i = c.in-FlowTotals in
    let totals : Totals = record { taken = i.taken; acked = i.acked; uncertain = i.uncertain; unsettled = i.unsettled; given = i.given; read = i.read } in
    of_report _ _ _ _ i.flow totals _ _ _ i.is c.put_totals.ensures
