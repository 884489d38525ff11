-- The first that may leave a link is let out.
use Rattle.std.specs.Prelude.{ℕ, List, Option, Some, None}
use Rattle.dt_layout.specs.Carried.{life_of}
use Rattle.dt_reports.specs.declared.reports.Report.TheVariants as report
use Rattle.dt_world_model.specs.Relay.{Expired, Goes, Left, Out}
use Rattle.dt_world_model.specs.Script.{Done, Hand, Script, Tell}

-- It is reported, and handed out after its report; then these queues are left.
abbrev pub let_out : {T : Type 0} → ℕ → Option (Left T) × List (Out T) → Script T (List (Out T))
let_out link (None, outs) = Done outs
let_out link (Some Expired, outs) = Tell (report.ExpiredOut link) (Done outs)
let_out link (Some (Goes parcel), outs) = Tell (report.Put link (life_of parcel.octets)) (Hand link parcel (Done outs))
