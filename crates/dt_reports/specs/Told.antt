-- What was told: the report itself. But octets that it lends are known by what they are alone, so the place
-- where they lie is put out of it: of two reports with the same octets at two places the same is told.
use Rattle.std.specs.Prelude.{ℕ, List, [], Bool}
use Rattle.dt_units.specs.declared.endpoints.Flow.{Flow}
use Rattle.dt_reports.specs.declared.reports.Report.{Report}
use Rattle.dt_reports.specs.declared.reports.Report.TheVariants as reports
use Rattle.dt_reports.specs.declared.flow_totals.Totals.{Totals}

abbrev pub Told : Type 0
Told = Report

-- a piece that was read
abbrev pub read_told : (flow : Flow) (run begin end : Bool) (octets : List ℕ) → Told
read_told flow run begin end octets = reports.Read flow run begin end record { ref_ptr = (0, 0); now = octets }

-- the totals of a flow
abbrev pub totals_told : Flow → Totals → Told
totals_told flow t = reports.FlowTotals flow t.taken t.acked t.uncertain t.unsettled t.given t.read

-- What a report tells. Only a piece that was read lends octets: another variant that does needs a row here.
abbrev pub told : Report → Told
told (reports.Read flow run begin end octets) = read_told flow run begin end octets.now
told other = other

-- the same without the octets of a piece
abbrev pub without_octets : Told → Told
without_octets (reports.Read flow run begin end octets) = read_told flow run begin end []
without_octets other = other
