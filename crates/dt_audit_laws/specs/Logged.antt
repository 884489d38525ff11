-- A world whose log passes, up to now.
use Rattle.std.specs.Prelude.{ℕ, suc, ◌<◌, ◌^◌, List, map}
use Rattle.dt_units.specs.Limits.{IsWithinLimits}
use Rattle.dt_reports.specs.Entries.{Entry}
use Rattle.dt_world_model.specs.Setup.{Setup}
use Rattle.dt_world_model.specs.Tables.{AllEntries}
use Rattle.dt_world_model.specs.World.{World, view}
use Rattle.dt_world_model.specs.WorldFacts.{WorldFacts}
use Rattle.dt_audit.specs.Books.{Book}
use Rattle.dt_audit.specs.LogRows.{FlowLog}
use Rattle.dt_audit.specs.Telling.{AreWritten, fact_told}
use Rattle.dt_audit_laws.specs.Books.{FollowsAll}
use Rattle.dt_audit_laws.specs.Bounds.{IsWithin}
use Rattle.dt_audit_laws.specs.Logs.{FactsPass}

-- the stations of a setup are numbers of 32 bits
pub record CanBeSetUp (setup : Setup) : Type 0 where
  pub limits : IsWithinLimits setup.params
  pub stations : AllEntries (λ (n ahead : ℕ). n < 2 ^ 32) setup.stations

-- after so many steps, what the lines so far have led to follows all flows of the world
pub record IsLogged (count : ℕ) (w : World) (book : Book FlowLog) : Type 0 where
  pub limits : IsWithinLimits w.params
  pub facts : WorldFacts w
  pub within : IsWithin count w
  pub follows : FollowsAll w.params (view w) book

-- THE LINES OF ONE STEP MORE are read back and pass
pub record StepPasses (count : ℕ) (after : World) (book : Book FlowLog) (lines : List Entry) : Type 0 where
  pub next : Book FlowLog
  pub passes : FactsPass (map fact_told lines) book next
  pub written : AreWritten lines
  pub logged : IsLogged (suc count) after next
