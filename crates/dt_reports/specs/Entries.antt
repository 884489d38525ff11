-- Entries of a log: when something was reported, by which node, and what.
use Rattle.std.specs.Prelude.{ℕ, Option}
use Rattle.dt_reports.specs.declared.log_lines.LogLine.{LogLine}
use Rattle.dt_reports.specs.Told.{Told, told}

-- The moment is in milliseconds. A station's entry has its node.
pub record Entry : Type 0 where
  pub moment : ℕ
  pub node : Option ℕ
  pub told : Told

-- the entry that a line of the log holds
abbrev pub entry_of : LogLine → Entry
entry_of line = record { moment = line.moment; node = line.node; told = told line.report }
